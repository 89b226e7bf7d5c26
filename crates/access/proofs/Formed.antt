-- A rule that is well formed by its form: what the tests of it find, in the order of the code.
use mathlib.Core.Path.{◌≡◌, refl, sym, ◌∙◌}
use mathlib.Core.Bool.{Bool, true, false, cond, ◌&&◌, and-false}
use mathlib.Core.List.{List}
use Prim.Native.Nat.{ℕ}
use native.Mathlib.Omega.{arith}
use lib.Dec.{eqb}
use lib.ListN.{length}
use borrow.Author.Tests.{eqb-true, eq-eqb, ne_eqb}
use Rattle.laws.proofs.Says.{and-says}
use Rattle.rules.specs.Rule.{compact_formed}
use Rattle.expanded.specs.Expanded.{expanded_formed}
use Rattle.access.specs.Access.{compact, expanded, referred, referred_formed, well_formed}

module _ (form : ℕ) (rule : List ℕ) where
  pub not_three : (length rule ≡ 3 → ⊥) → false ≡ (eqb form referred && referred_formed rule)
  not_three z = sym (rw (ne_eqb (length rule) 3 z) (and-false (eqb form referred)))

  pub formed-compact : {r : Bool} → form ≡ compact → r ≡ compact_formed rule → r ≡ well_formed form rule
  unfolding well_formed
  formed-compact e q = rw (eq-eqb form compact e) q

  -- b is whether it was found to be a reference
  module _ (z : form ≡ compact → ⊥) {b : Bool} (e : b ≡ (eqb form referred && referred_formed rule)) where
    pub formed-reference : b ≡ true → true ≡ well_formed form rule
    unfolding well_formed
    formed-reference t =
        let p = (and-says (eqb form referred) (referred_formed rule)).0 (sym e ∙ t) in
        let f : form ≡ referred = eqb-true form referred p.0 in
        rw (ne_eqb form compact z, ne_eqb form expanded (λ q. omega (arith, q, f)), p.0) (sym p.1)

    pub formed-expanded : {r : Bool} → form ≡ expanded → r ≡ expanded_formed rule → r ≡ well_formed form rule
    unfolding well_formed
    formed-expanded q f = rw (ne_eqb form compact z, eq-eqb form expanded q) f

    pub formed-not : b ≡ false → (form ≡ expanded → ⊥) → false ≡ well_formed form rule
    unfolding well_formed
    formed-not t y = rw (ne_eqb form compact z, ne_eqb form expanded y) (go (eqb form referred) (sym e ∙ t))
      where
        go : (a : Bool) → (a && referred_formed rule) ≡ false → false ≡ cond a (referred_formed rule) false
        go true q = sym q
        go false q = refl

pub ruleset formed = (formed-compact, formed-reference, formed-expanded, formed-not)

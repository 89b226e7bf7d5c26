-- A file deeper than directory d is at or beneath it exactly when its parent is; one that is no deeper, exactly
-- when it is d.
use mathlib.Core.Path.{◌≡◌, refl, sym, ap, ◌∙◌}
use mathlib.Core.Bool.{Bool, true, false, false≢true}
use mathlib.Core.List.{List}
use mathlib.Core.Logic.{⊎_elim}
use Prim.Native.Nat.{ℕ, suc, ◌+◌, ◌-◌, ◌<◌, ◌≤◌}
use native.Mathlib.Omega.{arith}
use lib.Dec.{eqb, ltb}
use lib.ListN.{get_or}
use borrow.Author.Tests.{eq-eqb, ne_eqb, le-leb, lt-leb, leb-true, leb-false}
use Rattle.laws.proofs.Says.{and-says, same_or, apart}
use Rattle.sound.specs.Table.{View, view_at, up}
use Rattle.sound.specs.Kinship.{at_or_beneath}
use Rattle.sound.proofs.Climbing.{up_none, up_shift}
use Rattle.kinship.specs.Climb.{Rooted, Stands}
use Rattle.subtree.specs.Known.{is_open}

module _ (v : ℕ → View) (d s : ℕ) where
  pub beneath-free : (v s).kind ≡ 0 → at_or_beneath v d s ≡ false
  unfolding at_or_beneath
  beneath-free e = rw (eq-eqb (v s).kind 0 e)

  module _ (used : (v s).kind ≡ 0 → ⊥) where
    beneath-deep : (v d).level ≤ (v s).level → at_or_beneath v d s ≡ eqb (up v ((v s).level - (v d).level) s) d
    unfolding at_or_beneath
    beneath-deep l = rw (ne_eqb (v s).kind 0 used, le-leb (v d).level (v s).level l)

    beneath-high : (v s).level < (v d).level → at_or_beneath v d s ≡ false
    unfolding at_or_beneath
    beneath-high l = rw (ne_eqb (v s).kind 0 used, lt-leb (v d).level (v s).level l)

    -- no deeper than d
    pub beneath-same : s ≡ d → at_or_beneath v d s ≡ true
    beneath-same e =
        let z : (v s).level - (v d).level ≡ 0 = omega (arith, ap (λ (x : ℕ). (v x).level) e) in
        beneath-deep (omega (arith, ap (λ (x : ℕ). (v x).level) e))
        ∙ eq-eqb (up v ((v s).level - (v d).level) s) d (ap (λ (k : ℕ). up v k s) z ∙ up_none v s ∙ e)

    pub beneath-other : (v s).level ≤ (v d).level → (s ≡ d → ⊥) → at_or_beneath v d s ≡ false
    beneath-other l n = ⊎_elim level high (same_or (v s).level (v d).level)
      where
        level : (v s).level ≡ (v d).level → at_or_beneath v d s ≡ false
        level e =
            let z : (v s).level - (v d).level ≡ 0 = omega arith in
            beneath-deep (omega arith)
            ∙ ne_eqb (up v ((v s).level - (v d).level) s) d (λ q. n (sym (ap (λ (k : ℕ). up v k s) z ∙ up_none v s) ∙ q))

        high : ((v s).level ≡ (v d).level → ⊥) → at_or_beneath v d s ≡ false
        high e = beneath-high (⊎_elim (λ h. h) (λ h. absurd (omega arith)) (apart (v s).level (v d).level e))

-- deeper than d: its parent p, one level higher
pub beneath-parent : (v : ℕ → View) (d s p : ℕ) → ((v s).kind ≡ 0 → ⊥) → ((v p).kind ≡ 0 → ⊥) → p ≡ (v s).parent → (v s).level ≡ (v p).level + 1
    → (v d).level < (v s).level
    → at_or_beneath v d p ≡ at_or_beneath v d s
beneath-parent v d s p used w e l h =
    let k : ℕ = (v p).level - (v d).level in
    let m : (v s).level - (v d).level ≡ suc k = omega arith in
    beneath-deep v d p w (omega arith)
    ∙ ap (λ (x : ℕ). eqb x d) (ap (λ (x : ℕ). up v k x) e ∙ up_shift v k s ∙ ap (λ (j : ℕ). up v j s) (sym m))
    ∙ sym (beneath-deep v d s used (omega arith))

-- what `open` answers, and what its answer r says
module _ (v : ℕ → View) (high : ℕ) (marks : List ℕ) (s : ℕ) where
  pub open_known : (get_or marks s 0 ≡ 0 → ⊥) → false ≡ is_open v high marks s
  unfolding is_open
  open_known z = rw (ne_eqb (get_or marks s 0) 0 z)

  pub open_is : (l : ℕ) → get_or marks s 0 ≡ 0 → l ≡ (v s).level → ltb high l ≡ is_open v high marks s
  unfolding is_open
  open_is l z e = rw (eq-eqb (get_or marks s 0) 0 z, ← e)

module _ (v : ℕ → View) (high : ℕ) (marks : List ℕ) (s : ℕ) (r : Bool) (e : r ≡ is_open v high marks s) where
  pub open_deep : r ≡ true → high < (v s).level
  unfolding is_open
  open_deep t = leb-true (suc high) (v s).level ((and-says (eqb (get_or marks s 0) 0) (ltb high (v s).level)).0 (sym e ∙ t)).1

  pub shut_high : r ≡ false → get_or marks s 0 ≡ 0 → (v s).level ≤ high
  unfolding is_open
  shut_high f z = go (ltb high (v s).level) refl
    where
      go : (b : Bool) → ltb high (v s).level ≡ b → (v s).level ≤ high
      go true q = absurd (false≢true (sym f ∙ e ∙ (and-says _ _).1 (eq-eqb (get_or marks s 0) 0 z, q)))
      go false q = omega (arith, leb-false (suc high) (v s).level q)

-- slot s holds a file: its kind k says so
pub stands_read : (img : List ℕ) (n s k : ℕ) → s < n → k ≡ (view_at img s).kind → (k ≡ 0 → ⊥) → Stands img n s
stands_read img n s k l e z = record { low = l; used = λ y. z (e ∙ y) }

-- a walk up from s that stands at t: all that it passed are at or beneath d as s is
pub record Passed (img : List ℕ) (n d s t : ℕ) : Type 0 where
  pub stands : Stands img n t
  pub same : at_or_beneath (view_at img) d t ≡ at_or_beneath (view_at img) d s

pub pass_start : (img : List ℕ) (n d s : ℕ) → Stands img n s → Passed img n d s s
pass_start img n d s h = record { stands = h; same = refl }

-- t is open, so that the walk goes on to its parent p
module _ (img : List ℕ) (n d s t p high : ℕ) (marks : List ℕ) (r : Bool) (rooted : Rooted img n) (h : Passed img n d s t)
    (q : p ≡ (view_at img t).parent) (l : high ≡ (view_at img d).level) (e : r ≡ is_open (view_at img) high marks t) (o : r ≡ true) where
  step : (view_at img t).level ≡ (view_at img p).level + 1
  step = rw q (rooted.level t h.stands (omega (arith, open_deep (view_at img) high marks t r e o)))

  parent_stands : Stands img n p
  parent_stands = rw q (rooted.parent t h.stands)

  pub pass_more : Passed img n d s p
  pass_more =
      record {
        stands = parent_stands;
        same = beneath-parent (view_at img) d t p h.stands.used parent_stands.used q step
            (omega (arith, open_deep (view_at img) high marks t r e o))
            ∙ h.same;
      }

  pub pass_less : (view_at img p).level < (view_at img t).level
  pass_less = omega (arith, step)

-- Where the zeros after a rule end, at the end of the record or two bytes before it: a law for each way out of the test of it,
-- and that zeros up to there are all the zeros that the definition asks.
use mathlib.Core.Path.{◌≡◌, refl}
use mathlib.Core.Bool.{Bool, true, false, not, cond, ◌&&◌}
use mathlib.Core.List.{List}
use mathlib.Core.Logic.{◌↔◌}
use Prim.Native.Nat.{ℕ, ◌+◌, ◌-◌, ◌≤◌}
use native.Mathlib.Omega.{arith}
use lib.ListN.{get_or}
use lib.Dec.{eqb}
use borrow.Author.Tests.{eq-eqb, ne_eqb, not-true, not-false}
use Rattle.laws.specs.Tests.{implies}
use Rattle.rules.specs.Descriptor.{ef}
use Rattle.image.specs.Layout.{longest_rule, zeros_after, has_bodies, kind_of}
use Rattle.image.proofs.Versions.{longest_within, bodies-rule}
use Rattle.sound.specs.Own.{zerosb, has_start}
use Rattle.sound_records.specs.Ends.{zeros_end}
use Rattle.sound_records.proofs.Zeros.{zeros-part, zeros-both}

-- b says whether the version has bodies
module _ (v : ℕ) (r : List ℕ) where
  pub end_older : (b : Bool) → b ≡ has_bodies v → not b ≡ true → 64 ≡ zeros_end v r
  unfolding zeros_end has_start
  end_older b e t = rw (← e, not-true b t)

  module _ (b : Bool) (e : b ≡ has_bodies v) (t : not b ≡ false) where
    pub end-start : get_or r 0 0 ≡ ef → 62 ≡ zeros_end v r
    unfolding zeros_end has_start kind_of
    end-start k = rw (← e, not-false b t, eq-eqb (get_or r 0 0) ef k)

    pub end_none : (get_or r 0 0 ≡ ef → ⊥) → 64 ≡ zeros_end v r
    unfolding zeros_end has_start kind_of
    end_none k = rw (← e, not-false b t, ne_eqb (get_or r 0 0) ef k)

module _ (v : ℕ) (r : List ℕ) where
  -- no rule reaches past that end
  end-room : 34 + longest_rule v ≤ zeros_end v r
  unfolding zeros_end has_start
  end-room = go (has_bodies v) (eqb (kind_of r) ef) refl
    where
      go : (a b : Bool) → has_bodies v ≡ a → 34 + longest_rule v ≤ cond (a && b) 62 64
      go true true e = omega (arith, bodies-rule v e)
      go true false e = omega (arith, longest_within v)
      go false b e = omega (arith, longest_within v)

  -- m is how many bytes the version has room for, e that end
  pub long-room : (n m e : ℕ) → m ≡ longest_rule v → n ≤ m → e ≡ zeros_end v r → 34 + n ≤ e
  long-room n m e most short to = omega (arith, end-room)

  -- zeros up to it are those after a rule in the rule's place, and those after its place, where no start stands there
  pub tail-says : (n : ℕ) → n ≤ longest_rule v
      → (zerosb r (34 + n) (zeros_end v r - (34 + n)) ≡ true)
      ↔ ((zerosb r (34 + n) (longest_rule v - n) ≡ true)
      × (implies (not (has_start v r)) (zerosb r (34 + longest_rule v) (zeros_after v)) ≡ true))
  unfolding zeros_end has_start implies
  tail-says n h = go (has_bodies v) (eqb (kind_of r) ef) refl
    where
      whole : (zerosb r (34 + n) (64 - (34 + n)) ≡ true)
          ↔ ((zerosb r (34 + n) (longest_rule v - n) ≡ true) × (zerosb r (34 + longest_rule v) (30 - longest_rule v) ≡ true))
      whole = (
        λ z. (
          zeros-part r (34 + n) (64 - (34 + n)) (34 + n) (longest_rule v - n) (omega arith) (omega (arith, longest_within v)) z,
          zeros-part r (34 + n) (64 - (34 + n)) (34 + longest_rule v) (30 - longest_rule v) (omega arith)
              (omega (arith, longest_within v)) z,
        ),
        λ p.
            zeros-both r (34 + n) (longest_rule v - n) (34 + longest_rule v) (30 - longest_rule v) (34 + n) (64 - (34 + n))
            (omega arith) (omega arith) (omega (arith, longest_within v)) p.0 p.1,
      )

      go : (a b : Bool) → has_bodies v ≡ a
          → (zerosb r (34 + n) (cond (a && b) 62 64 - (34 + n)) ≡ true)
          ↔ ((zerosb r (34 + n) (longest_rule v - n) ≡ true)
          × (cond (not (a && b)) (zerosb r (34 + longest_rule v) (30 - longest_rule v)) true ≡ true))
      go true true e =
          let same : 62 - (34 + n) ≡ longest_rule v - n = omega (arith, bodies-rule v e) in
          rw same (λ z. (z, refl), λ p. p.0)
      go true false e = whole
      go false b e = whole

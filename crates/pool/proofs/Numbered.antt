-- The records of a body, by their numbers.
use mathlib.Core.Path.{◌≡◌, refl, sym, ◌∙◌}
use mathlib.Core.Bool.{Bool, false, not}
use mathlib.Core.List.{List}
use Prim.Native.Nat.{ℕ, ◌*◌, ◌<◌, ◌≤◌}
use native.Mathlib.Nat.{mul-le-mul}
use native.Mathlib.Omega.{arith}
use lib.Dec.{ltb, leb}
use borrow.Author.Tests.{leb-true, not-false}
use Rattle.laws.proofs.Says.{and-says}
use Rattle.laws.proofs.Chains.{gt_and, le-and}
use Rattle.image.specs.Layout.{rec_at, record_length_of, size_of}
use Rattle.pool.specs.Records.{has_record}

-- a record number times a record length
pub times-small : (i z : ℕ) → i < 256 → z < 65536 → i * z ≤ 16777216
times-small i z a b =
    let c : i ≤ 256 = omega arith in
    let d : z ≤ 65536 = omega arith in
    mul-le-mul c d

module _ (img : List ℕ) (t i : ℕ) where
  -- there is no record 0; another is there if the size reaches to its end: z and l are record length and size as they were read
  pub no-zeroth : i ≡ 0 → false ≡ has_record img t i
  unfolding has_record
  no-zeroth e = gt_and 1 i _ (omega arith) refl

  pub reached : {z l : ℕ} → (i ≡ 0 → ⊥) → z ≡ record_length_of (rec_at img t) → l ≡ size_of (rec_at img t) → leb (i * z) l ≡ has_record img t i
  unfolding has_record
  reached u e f = le-and 1 i _ (omega arith) (rw (e, f) refl)

  -- a record that is there has a number from 1 on
  pub from_one : {r : Bool} → r ≡ has_record img t i → not r ≡ false → 1 ≤ i
  unfolding has_record
  from_one {r} e h =
      leb-true 1 i
      ((and-says (ltb 0 i) (leb (i * record_length_of (rec_at img t)) (size_of (rec_at img t)))).0 (sym e ∙ not-false r h)).0

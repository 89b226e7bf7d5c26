-- What a descriptor's class says of its structure.
use mathlib.Core.Path.{◌≡◌, refl, ap}
use mathlib.Core.Bool.{Bool, true, false, cond, ◌||◌}
use Prim.Native.Nat.{ℕ}
use native.Mathlib.Omega.{arith}
use lib.Dec.{eqb}
use borrow.Author.Tests.{eqb-true}
use Rattle.laws.proofs.Says.{and-says}
use Rattle.rules.specs.Descriptor.{class_of, structure_of, is_df, is_ef, df, ef, neither, has_records}

-- a DF's has no records
pub df-plain : (d : ℕ) → class_of d ≡ df → has_records d ≡ false
unfolding class_of has_records
df-plain d e = go (is_df d) refl e
  where
    other : (b : Bool) → cond b ef neither ≡ df → ⊥
    other true q = omega arith
    other false q = omega arith

    go : (b : Bool) → is_df d ≡ b → cond b df (cond (is_ef d) ef neither) ≡ df → (eqb (structure_of d) 2 || eqb (structure_of d) 6) ≡ false
    go true p q = ap (λ (n : ℕ). eqb n 2 || eqb n 6) (eqb-true (structure_of d) 0 (simp and-says at p).1.1)
    go false p q = absurd (other (is_ef d) q)

-- What an expanded rule grants grows with what has been authenticated, however its conditions nest.
use mathlib.Core.Bool.{Bool, true, false}
use mathlib.Core.List.{List, [], ◌∷◌}
use Prim.Native.Nat.{ℕ, zero, suc, ◌/◌, ◌%◌}
use lib.Dec.{eqb}
use Rattle.rules.specs.declared.Right.{Right}
use Rattle.rules.specs.declared.Sets.{Sets}
use Rattle.rules.specs.Condition.{Wider}
use Rattle.rules.proofs.Growing.{Grows, same_grows, cond_grows, or_grows, and_grows, sc_grows}
use Rattle.expanded.specs.Object.{Object, object, cut, objects_of, every, some}
use Rattle.expanded.specs.Condition.{sc_of, holds_plain, holds}
use Rattle.expanded.specs.Expanded.{am_after, expanded_formed, bit_of, opens, opens_one, expanded_grants}

-- rows of objects
module _ (f g : Object → Bool) (h : (o : Object) → Grows (f o) (g o)) where
  some_grows : (os : List Object) → Grows (some f os) (some g os)
  unfolding some
  some_grows [] e = e
  some_grows (o ∷ os) e = or_grows (f o) (some f os) (g o) (some g os) (h o) (some_grows os) e

  every_grows : (os : List Object) → Grows (every f os) (every g os)
  unfolding every
  every_grows [] e = e
  every_grows (o ∷ os) e = and_grows (f o) (every f os) (g o) (every g os) (h o) (every_grows os) e

module _ (x y : Sets) (l : Wider x y) where
  plain_grows : (tag : ℕ) (v : List ℕ) → Grows (holds_plain x tag v) (holds_plain y tag v)
  unfolding holds_plain
  plain_grows tag v =
      cond_grows (eqb tag 0x90) _ _ _ _ (same_grows true)
      (cond_grows (eqb tag 0x9E) _ _ _ _ (sc_grows x y l (sc_of v)) (same_grows false))

  condition_grows : (left : ℕ) (o : Object) → Grows (holds left x o) (holds left y o)
  unfolding holds
  condition_grows zero (object tag v) = plain_grows tag v
  condition_grows zero cut = same_grows false
  condition_grows (suc left) (object tag v) =
      cond_grows (eqb tag 0xA0) _ _ _ _ (some_grows (holds left x) (holds left y) (condition_grows left) (objects_of v))
      (cond_grows (eqb tag 0xAF) _ _ _ _ (every_grows (holds left x) (holds left y) (condition_grows left) (objects_of v)) (plain_grows tag v))
  condition_grows (suc left) cut = same_grows false

  opens_grows : (bit am : ℕ) (os : List Object) → Grows (opens_one bit x am os) (opens_one bit y am os)
  unfolding opens_one opens
  opens_grows bit am [] = same_grows false
  opens_grows bit am (o ∷ os) =
      or_grows _ _ _ _ (cond_grows (eqb (am / bit % 2) 1) _ _ _ _ (condition_grows 4 o) (same_grows false)) (opens_grows bit (am_after am o) os)

  pub expanded_grows : (rule : List ℕ) (right : Right) → Grows (expanded_grants rule right x) (expanded_grants rule right y)
  unfolding expanded_grants
  expanded_grows rule right = and_grows _ _ _ _ (same_grows (expanded_formed rule)) (opens_grows (bit_of right) 0 (objects_of rule))

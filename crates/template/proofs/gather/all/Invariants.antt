-- All objects of the list, in its order. The loop keeps: k is at most 12, and o is what the first k give.
use Prim.Native.Nat.{◌≤◌}
use mathlib.Core.Path.{◌≡◌}
use Rattle.template.specs.Objects.{taken_below}
use Rattle.template.proofs.gather.all.Given as goal

abbrev pub invariant-loop-k : goal.invariant-loop-k
invariant-loop-k l = (l.k ≤ 12) × (l.o ≡ taken_below l.k l.s)

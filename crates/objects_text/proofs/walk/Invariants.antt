-- `walk`: the invariant says what has been written, and that it and what is left of the walk are the whole text.
use Prim.Native.Nat.{◌-◌}
use Rattle.objects_text.proofs.Walking.{Going}
use Rattle.objects_text.proofs.walk.Given as goal

abbrev pub invariant-loop-object : goal.invariant-loop-object
invariant-loop-object l = Going l.s l.initial.out l.from l.out l.at l.put

abbrev pub decreases-loop-object : goal.decreases-loop-object
decreases-loop-object l = 256 - l.at

-- `nearest::mark_all`: the invariant is that the slots passed have their marks.
use Prim.Native.Nat.{◌≤◌}
use Rattle.referred.specs.Marks.{Marked}
use Rattle.referred.proofs.nearest.mark_all.Given as goal

abbrev pub invariant-loop-s : goal.invariant-loop-s
invariant-loop-s l = (l.s ≤ l.n) × Marked l.image l.x l.marks l.s

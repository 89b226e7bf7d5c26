-- `stretch::none_between`: no key from `from` to p is in the set.
use Prim.Native.Nat.{◌-◌}
use Rattle.pool.proofs.Entering.{Passed}
use Rattle.pool.proofs.stretch.none_between.Given as goal

abbrev pub invariant-loop-p : goal.invariant-loop-p
invariant-loop-p l = Passed l.seen l.from l.to l.p

abbrev pub decreases-loop-p : goal.decreases-loop-p
decreases-loop-p l = l.to - l.p

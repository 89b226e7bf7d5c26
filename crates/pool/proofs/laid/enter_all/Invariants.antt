-- `laid::enter_all`: the bodies of the slots before s are in the set.
use Prim.Native.Nat.{◌≤◌}
use Rattle.pool.specs.Bodies.{start_at, body_at}
use Rattle.pool.specs.Entered.{Entered}
use Rattle.pool.proofs.laid.enter_all.Given as goal

abbrev pub invariant-loop-s : goal.invariant-loop-s
invariant-loop-s l = (l.s ≤ l.n) × Entered l.s (start_at l.image) (body_at l.image) l.len l.seen

-- `laid::alone_all`: the bodies of the slots before s are alone.
use Prim.Native.Nat.{ℕ, ◌≤◌, ◌<◌}
use Rattle.pool.specs.Bodies.{start_at, body_at}
use Rattle.pool.specs.Entered.{Alone}
use Rattle.pool.proofs.laid.alone_all.Given as goal

abbrev pub invariant-loop-s : goal.invariant-loop-s
invariant-loop-s l = (l.s ≤ l.n) × ((t : ℕ) → t < l.s → Alone (start_at l.image) (body_at l.image) l.seen t)

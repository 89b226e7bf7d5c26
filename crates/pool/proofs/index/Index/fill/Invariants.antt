-- `index::fill`: the slots below s are in the index.
use Prim.Native.Nat.{◌≤◌}
use Rattle.pool.specs.Bodies.{start_at, body_at}
use Rattle.pool.specs.Index.{Chained}
use Rattle.pool.proofs.index.Index.fill.Given as goal

abbrev pub invariant-loop-s : goal.invariant-loop-s
invariant-loop-s l = (l.s ≤ l.n) × Chained l.s (start_at l.image) (body_at l.image) l.self

-- `gap::by_index`: the bytes from `low` to p are a gap that is too short, and none below `low` fits.
use Prim.Native.Nat.{◌-◌}
use Rattle.pool.specs.Bodies.{start_at, body_at}
use Rattle.pool.proofs.Searching.{Searched}
use Rattle.pool.proofs.gap.by_index.Given as goal

abbrev pub invariant-loop-p : goal.invariant-loop-p
invariant-loop-p l = Searched l.n (start_at l.image) (body_at l.image) l.len l.size l.p l.low

abbrev pub decreases-loop-p : goal.decreases-loop-p
decreases-loop-p l = l.len - l.p

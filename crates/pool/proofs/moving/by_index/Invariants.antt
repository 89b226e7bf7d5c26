-- `moving::by_index`: bodies that start below p lie below `to` already, and nothing else was changed.
use Prim.Native.Nat.{◌-◌}
use lib.ListN.{length}
use Rattle.pool.proofs.Walking.{Going}
use Rattle.pool.proofs.moving.by_index.Given as goal

abbrev pub invariant-loop-p : goal.invariant-loop-p
invariant-loop-p l = Going l.n l.initial.image l.initial.pool l.image l.pool l.moved l.to l.p

abbrev pub decreases-loop-p : goal.decreases-loop-p
decreases-loop-p l = length l.initial.pool - l.p

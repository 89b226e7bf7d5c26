-- `Index::ahead`: the best of the slots that were looked at, along the chain.
use Rattle.pool.specs.Index.{mark_of}
use Rattle.pool.proofs.Nearest.{Nearest}
use Rattle.pool.proofs.index.Index.ahead.Given as goal

abbrev pub invariant-loop-on : goal.invariant-loop-on
invariant-loop-on l = Nearest l.self l.len l.p l.best (mark_of l.on)

abbrev pub decreases-loop-on : goal.decreases-loop-on
decreases-loop-on l = mark_of l.on

-- `body::start` gives the start, and its bound.
use Rattle.pool.specs.Bodies.{start_at}
use borrow.Author.Rules.{rules}
use Rattle.pool.proofs.body.start.Goals as goal

pub returns : goal.returns
unfolding start_at
returns c = search rules

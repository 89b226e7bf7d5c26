-- `index::link`: three numbers are written.
use Rattle.pool.specs.Index.{linking}
use borrow.Author.Rules.{rules}
use Rattle.pool.proofs.index.Index.link.Goals as goal

pub returns : goal.returns
unfolding linking
returns c = search rules

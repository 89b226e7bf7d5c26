-- `body::size` gives the size of the body, and its bound: a law for each way out.
use Rattle.pool.proofs.Sizes.{size_older, size_none, size-some}
use borrow.Author.Rules.{rules}
use Rattle.pool.proofs.body.size.Goals as goal

pub returns-then-not-has_bodies : goal.returns-then-not-has_bodies
returns-then-not-has_bodies c = (search size_older, search rules)

pub returns-then-kind-ne-EF : goal.returns-then-kind-ne-EF
returns-then-kind-ne-EF c = (search size_none, search rules)

pub returns : goal.returns
returns c = (search size-some, search rules)

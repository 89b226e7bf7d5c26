-- `moving::counted`: nothing where the body stays.
use Rattle.pool.proofs.Walking.{count_none, count-some}
use borrow.Author.Rules.{rules}
use Rattle.pool.proofs.moving.counted.Goals as goal

pub returns-then-from-to : goal.returns-then-from-to
returns-then-from-to c = (search count_none, search rules)

pub returns : goal.returns
returns c = (search count-some, search rules)

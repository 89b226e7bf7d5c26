use mathlib.Core.Path.{sym}
use Rattle.laws.proofs.Sums.{sum-start}
use Rattle.pool.proofs.Making.{total_more, total-end}
use borrow.Author.Rules.{rules}
use Rattle.pool.proofs.placing.total.Goals as goal

pub loop-s-init : goal.loop-s-init
loop-s-init c = (search rules, (sym (sum-start _), search rules))

pub loop-s-preserved : goal.loop-s-preserved
loop-s-preserved c = (search rules, (search total_more, search rules))

pub returns : goal.returns
returns c = search total-end

use Rattle.kinship.proofs.Costs.{charged-start, charged_more, charged-end}
use borrow.Author.Rules.{rules}
use Rattle.kinship.proofs.room.charge.Goals as goal

pub loop-s-init : goal.loop-s-init
loop-s-init c = (search rules, (search charged-start, search rules))

pub loop-s-preserved : goal.loop-s-preserved
loop-s-preserved c = (search rules, (search charged_more, search rules))

pub returns : goal.returns
returns c = (search (charged-end, rules), search rules)

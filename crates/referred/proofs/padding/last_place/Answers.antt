use borrow.Author.Rules.{rules}
use Rattle.referred.proofs.Ends.{walks}
use Rattle.referred.proofs.padding.last_place.Goals as goal

pub loop-at-init : goal.loop-at-init
loop-at-init c = search walks

pub returns-then-row-at : goal.returns-then-row-at
returns-then-row-at c = search walks

pub returns-then-to-at-lt2 : goal.returns-then-to-at-lt2
returns-then-to-at-lt2 c = search walks

pub loop-at-preserved : goal.loop-at-preserved
loop-at-preserved c = search (walks, rules)

pub returns : goal.returns
returns c = search walks

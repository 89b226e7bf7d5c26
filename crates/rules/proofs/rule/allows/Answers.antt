use Rattle.rules.proofs.Groups.{allowing, less_next}
use Rattle.rules.proofs.rule.allows.Goals as goal

pub loop-here-init : goal.loop-here-init
loop-here-init c = search allowing

pub returns-then-holds : goal.returns-then-holds
returns-then-holds c = search allowing

pub loop-here-smaller : goal.loop-here-smaller
loop-here-smaller c = search less_next

pub loop-here-preserved : goal.loop-here-preserved
loop-here-preserved c = search allowing

pub returns : goal.returns
returns c = search allowing

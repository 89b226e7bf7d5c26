use Rattle.rules.proofs.Groups.{formed, less_next}
use Rattle.rules.proofs.rule.well_formed.Goals as goal

pub loop-at-init : goal.loop-at-init
loop-at-init c = search formed

pub returns-then-rule-at-gt127 : goal.returns-then-rule-at-gt127
returns-then-rule-at-gt127 c = search formed

pub returns-then-rule-to : goal.returns-then-rule-to
returns-then-rule-to c = search formed

pub loop-at-smaller : goal.loop-at-smaller
loop-at-smaller c = search less_next

pub loop-at-preserved : goal.loop-at-preserved
loop-at-preserved c = search formed

pub returns : goal.returns
returns c = search formed

use Rattle.rules.proofs.Groups.{tabled}
use Rattle.rules.proofs.rule.groups_by.Goals as goal

pub loop-at-init : goal.loop-at-init
loop-at-init c = search tabled

pub loop-at-preserved-then-am-eq0 : goal.loop-at-preserved-then-am-eq0
loop-at-preserved-then-am-eq0 c = search tabled

pub returns-then-n-eq0 : goal.returns-then-n-eq0
returns-then-n-eq0 c = search tabled

pub returns-then-rule-at : goal.returns-then-rule-at
returns-then-rule-at c = search tabled

pub loop-at-preserved : goal.loop-at-preserved
loop-at-preserved c = search tabled

pub returns : goal.returns
returns c = search tabled

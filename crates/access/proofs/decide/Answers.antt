-- `decide`: granted; or asked under the full sets.
use Rattle.access.proofs.Decided.{decide_granted, decide_lacking, decide_closed}
use Rattle.access.proofs.decide.Goals as goal

pub returns-then-granted : goal.returns-then-granted
returns-then-granted c = decide_granted _ _ _ _ c.granted.ensures c.if-granted.true

pub returns-then-granted-2 : goal.returns-then-granted-2
returns-then-granted-2 c =
    decide_lacking _ _ _ _ c.granted.ensures c.if-granted.false
    c.everything.ensures c.granted-2.ensures c.if-granted-2.true

pub returns : goal.returns
returns c =
    decide_closed _ _ _ _ c.granted.ensures c.if-granted.false
    c.everything.ensures c.granted-2.ensures c.if-granted-2.false

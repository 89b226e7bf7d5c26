-- `Card::select`: five tries, the first match wins.
use Rattle.judge_target.proofs.Finding.{try_yes, try_no, beside_at}
use Rattle.judge_target.specs.Target.{selected}
use Rattle.judge_target.proofs.Card.select.Goals as goal

pub returns-then-identifier-x : goal.returns-then-identifier-x
unfolding selected
returns-then-identifier-x c = search try_yes

pub returns-then-identifier-x-2 : goal.returns-then-identifier-x-2
unfolding selected
returns-then-identifier-x-2 c =
    try_no _ _ _ _ c.identifier.ensures c.if-identifier-x.false
    (try_yes _ _ _ _ c.identifier-2.ensures c.if-identifier-x-2.true)

pub returns : goal.returns
unfolding selected
returns c =
    try_no _ _ _ _ c.identifier.ensures c.if-identifier-x.false
    (try_no _ _ _ _ c.identifier-2.ensures c.if-identifier-x-2.false
    (beside_at _ _ _ _ c.parent_of.ensures.0 c.beside.ensures))

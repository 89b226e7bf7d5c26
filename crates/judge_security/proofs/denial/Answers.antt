-- `denial`: step J is asked once more, where it was the one that refused.
use mathlib.Core.Path.{ap}
use mathlib.Core.Bool.{not}
use Rattle.judge_security.proofs.Denied.{denied_needs}
use Rattle.judge_security.proofs.denial.Goals as goal

pub decided-requires-clause-d_value : goal.decided-requires-clause-d_value
decided-requires-clause-d_value c = rw c.new.ensures.lent.0 c.new.ensures.read.1

pub decided-requires-clause-in_bounds : goal.decided-requires-clause-in_bounds
decided-requires-clause-in_bounds c =
    denied_needs _ _ _ _ _ c.is_denied.ensures (ap not c.if-not-is_denied.false) c.requires.due_value

-- `child`: the slot that the search found.
use Rattle.judge_security.proofs.Deciding.{child-slot}
use Rattle.judge_security.proofs.child.Goals as goal

pub returns : goal.returns
returns c = child-slot _ _ _ _ c.args.card.now.judgeable c.child_named.ensures c.unwrap_or.ensures

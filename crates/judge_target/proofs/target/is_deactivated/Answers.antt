-- `target::is_deactivated`: the class of the byte that stands there.
use Rattle.judge_target.proofs.target.is_deactivated.Goals as goal

pub returns : goal.returns
returns c = cc

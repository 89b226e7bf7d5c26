-- `target::can_activate`: the class of the byte that stands there.
use Rattle.judge_target.proofs.target.can_activate.Goals as goal

pub returns : goal.returns
returns c = cc

-- `target::is_terminated`: the class of the byte that stands there.
use Rattle.sound.specs.Kinship.{terminated_at}
use Rattle.judge_target.proofs.target.is_terminated.Goals as goal

pub returns : goal.returns
unfolding terminated_at
returns c = cc

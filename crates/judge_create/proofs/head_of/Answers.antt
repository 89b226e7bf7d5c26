-- `judge_create::head_of`: the numbers, one level down.
use Rattle.judge_create.proofs.head_of.Goals as goal

pub returns : goal.returns
returns c = cc

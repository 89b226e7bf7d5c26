use Rattle.kinship.proofs.Foreign.{passed_none, passed_four}
use Rattle.kinship.proofs.search.next_kin.Goals as goal

pub returns-then-d-gt65535 : goal.returns-then-d-gt65535
returns-then-d-gt65535 c = search passed_none

pub loop-s-init : goal.loop-s-init
loop-s-init c = search passed_none

pub loop-s-preserved : goal.loop-s-preserved
loop-s-preserved c = search passed_four

use Rattle.subtree.proofs.Way.{pass_start, pass_more, pass_less}
use Rattle.subtree.proofs.Marks.{find_known, find_here, find_other}
use Rattle.subtree.proofs.find.Goals as goal

pub loop-t-init : goal.loop-t-init
loop-t-init c = search pass_start

pub loop-t-smaller : goal.loop-t-smaller
loop-t-smaller c = search pass_less

pub loop-t-preserved : goal.loop-t-preserved
loop-t-preserved c = search pass_more

pub returns-then-mark-ne0 : goal.returns-then-mark-ne0
returns-then-mark-ne0 c = search find_known

pub returns-then-t-d : goal.returns-then-t-d
returns-then-t-d c = search find_here

pub returns : goal.returns
returns c = search find_other

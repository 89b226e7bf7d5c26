use Rattle.subtree.proofs.Way.{pass_start, pass_more, pass_less}
use Rattle.subtree.proofs.Marks.{keeps_all, spread-known, spread_keeps}
use borrow.Author.Rules.{rules}
use Rattle.subtree.proofs.spread.Goals as goal

pub loop-marks-init : goal.loop-marks-init
loop-marks-init c = (search pass_start, (search rules, keeps_all _))

pub loop-marks-smaller : goal.loop-marks-smaller
loop-marks-smaller c = search pass_less

pub loop-marks-preserved : goal.loop-marks-preserved
loop-marks-preserved c = (search pass_more, (search spread-known, search spread_keeps))

-- `open`: a mark, or the level.
use Rattle.subtree.proofs.Way.{open_known, open_is}
use Rattle.subtree.proofs.open.Goals as goal

pub returns-then-marks-s-ne0 : goal.returns-then-marks-s-ne0
returns-then-marks-s-ne0 c = search open_known

pub returns : goal.returns
returns c = search open_is

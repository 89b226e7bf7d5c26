-- `nearest::child_marked`: a directory without a mark has no such file.
use Rattle.referred.proofs.Marking.{unmarked}
use Rattle.referred.proofs.nearest.child_marked.Goals as goal

pub returns-then-marks-t-ne1 : goal.returns-then-marks-t-ne1
returns-then-marks-t-ne1 c = search unmarked

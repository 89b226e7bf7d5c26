-- `nearest::mark`: a law for each way out.
use Rattle.referred.proofs.Marking.{mark_free, mark_other, mark_low, mark_set}
use Rattle.referred.proofs.nearest.mark.Goals as goal

pub returns-then-not-is_file : goal.returns-then-not-is_file
returns-then-not-is_file c = search mark_free

pub returns-then-identifier-x : goal.returns-then-identifier-x
returns-then-identifier-x c = search mark_other

pub bounds-marks-p : goal.bounds-marks-p
bounds-marks-p c = search mark_low

pub returns : goal.returns
returns c = search mark_set

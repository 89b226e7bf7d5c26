-- `at_once`: by its parent's mark, or by its level.
use Rattle.subtree.proofs.Marks.{once_parent, once_here, once_other, parent-fits}
use Rattle.subtree.proofs.at_once.Goals as goal

pub bounds-marks-parent : goal.bounds-marks-parent
bounds-marks-parent c = search parent-fits

pub returns-then-level : goal.returns-then-level
returns-then-level c = search once_parent

pub returns-then-s-d : goal.returns-then-s-d
returns-then-s-d c = search once_here

pub returns : goal.returns
returns c = search once_other

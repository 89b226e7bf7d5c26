-- `is_beneath`: at or beneath, and not d.
use mathlib.Core.Path.{refl}
use Rattle.subtree.proofs.Marks.{told-no, told-yes}
use Rattle.subtree.proofs.is_beneath.Goals as goal

pub returns-then-marks-s-ne1 : goal.returns-then-marks-s-ne1
returns-then-marks-s-ne1 c = search told-no

pub returns : goal.returns
returns c = search (told-yes, refl)

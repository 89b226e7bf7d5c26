use borrow.Author.Rules.{rules}
use Rattle.referred.proofs.Marking.{marks_start, marks_end}
use Rattle.referred.proofs.nearest.mark_all.Goals as goal

pub loop-s-init : goal.loop-s-init
loop-s-init c = (search rules, search marks_start)

pub returns : goal.returns
returns c = search marks_end

-- `answer::name_length`: two more than the name, or nothing.
use borrow.Author.Rules.{rules}
use Rattle.fcp.specs.Writing.{name_length}
use Rattle.laws.proofs.Branches.{is_eq, not-eq}
use Rattle.fcp.proofs.answer.name_length.Goals as goal

pub returns-then-n-eq0 : goal.returns-then-n-eq0
unfolding name_length
returns-then-n-eq0 c = (search is_eq, search rules)

pub returns : goal.returns
unfolding name_length
returns c = (search not-eq, search rules)

-- `answer::descriptor_length`: six where the structure has records, else four.
use borrow.Author.Rules.{rules}
use Rattle.fcp.specs.Writing.{descriptor_length}
use Rattle.laws.proofs.Branches.{called, refused}
use Rattle.fcp.proofs.answer.descriptor_length.Goals as goal

pub returns-then-has_records : goal.returns-then-has_records
unfolding descriptor_length
returns-then-has_records c = (search called, search rules)

pub returns : goal.returns
unfolding descriptor_length
returns c = (search refused, search rules)

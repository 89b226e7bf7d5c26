-- `condition::is_byte_at`: the tag, and one byte.
use Rattle.expanded.proofs.Standing.{not_there, stands_byte}
use Rattle.expanded.proofs.condition.is_byte_at.Goals as goal

pub returns-then-s-at : goal.returns-then-s-at
returns-then-s-at c = not_there

pub returns : goal.returns
returns c = λ t. search stands_byte

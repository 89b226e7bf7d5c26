-- `condition::is_constant_at`: the tag, and no byte.
use Rattle.expanded.proofs.Standing.{not_there, stands_constant}
use Rattle.expanded.proofs.condition.is_constant_at.Goals as goal

pub returns-then-not-is_constant : goal.returns-then-not-is_constant
returns-then-not-is_constant c = not_there

pub returns : goal.returns
returns c = λ t. search stands_constant

-- `room::charge_of`: a child costs its size and 64, any other file nothing.
use Rattle.kinship.proofs.Costs.{costs_nothing, costs_size}
use borrow.Author.Rules.{rules}
use Rattle.kinship.proofs.room.charge_of.Goals as goal

pub returns-then-not-is_child : goal.returns-then-not-is_child
returns-then-not-is_child c = (search costs_nothing, search rules)

pub returns : goal.returns
returns c = (search costs_size, search rules)

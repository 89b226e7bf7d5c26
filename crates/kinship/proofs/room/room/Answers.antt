-- `room::room`: total less charge.
use Rattle.kinship.proofs.Costs.{room_is}
use borrow.Author.Rules.{rules}
use Rattle.kinship.proofs.room.room.Goals as goal

pub returns : goal.returns
returns c = (search room_is, search rules)

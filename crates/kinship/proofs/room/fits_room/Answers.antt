-- `room::fits_room`: size and 64 are at most the room.
use Rattle.kinship.proofs.Costs.{fits_is}
use Rattle.kinship.proofs.room.fits_room.Goals as goal

pub returns : goal.returns
returns c = search fits_is

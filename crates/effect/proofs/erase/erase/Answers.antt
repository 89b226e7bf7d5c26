-- `erase::erase`: records and bodies go, then what is current.
use Rattle.effect.proofs.Writes.{deleted_is, wiped_is}
use Rattle.effect.proofs.erase.erase.Goals as goal

pub returns : goal.returns
returns c = (search deleted_is, search wiped_is)

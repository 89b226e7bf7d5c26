-- `apply::update`: the command's data, written into the pool.
use mathlib.Core.Path.{refl}
use Rattle.effect.proofs.Sent.{data_fits, data_written}
use Rattle.effect.proofs.apply.update.Goals as goal

pub copy_in-requires : goal.copy_in-requires
copy_in-requires c = search data_fits

pub returns : goal.returns
returns c = (refl, search data_written)

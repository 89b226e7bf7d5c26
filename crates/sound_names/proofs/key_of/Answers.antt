-- `key_of`: the four words of the name.
use native.Mathlib.Omega.{arith}
use Rattle.sound_names.proofs.Alike.{name-key}
use Rattle.sound_names.proofs.key_of.Goals as goal

pub returns : goal.returns
returns c = (search name-key, omega arith)

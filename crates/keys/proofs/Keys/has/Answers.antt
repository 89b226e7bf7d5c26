-- `has`: the bit_in of the key in its word.
use mathlib.Core.Path.{refl}
use Rattle.keys.specs.Marks.{marked, bit_in}
use Rattle.keys.proofs.Keys.has.Goals as goal

pub returns : goal.returns
unfolding marked bit_in
returns c = rw (← c.self.view_is) refl

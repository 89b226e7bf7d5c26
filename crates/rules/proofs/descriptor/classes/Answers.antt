-- `descriptor::classes`: the table is right at each of its entries, by one test that is computed.
use mathlib.Core.Path.{refl}
use Rattle.rules.specs.Descriptor.{class_of}
use Rattle.rules.proofs.Bits.{classes_by}
use Rattle.rules.proofs.descriptor.classes.Goals as goal

pub returns : goal.returns
unfolding class_of
returns c = classes_by _ refl tt

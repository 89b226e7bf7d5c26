-- `fields::descriptor` gives the descriptor byte of record s.
use mathlib.Core.Path.{sym}
use Rattle.image.proofs.Places.{descriptor_in}
use Rattle.image.proofs.fields.descriptor.Goals as goal

pub returns : goal.returns
returns c = sym (descriptor_in _ _)

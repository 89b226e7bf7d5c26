-- `fields::kind` gives the kind of record s.
use mathlib.Core.Path.{sym}
use Rattle.image.proofs.Places.{kind_in}
use Rattle.image.proofs.fields.kind.Goals as goal

pub returns : goal.returns
returns c = sym (kind_in _ _)

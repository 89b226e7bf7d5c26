-- `fields::identifier` gives the identifier of record s.
use mathlib.Core.Path.{sym, ◌∙◌}
use Rattle.image.proofs.Places.{identifier_in}
use Rattle.image.proofs.fields.identifier.Goals as goal

pub returns : goal.returns
returns c = c.u16_at.ensures ∙ sym (identifier_in _ _)

-- `fields::record_length` gives the record length of record s.
use mathlib.Core.Path.{sym, ◌∙◌}
use Rattle.image.proofs.Places.{record_length_in}
use Rattle.image.proofs.fields.record_length.Goals as goal

pub returns : goal.returns
returns c = c.u16_at.ensures ∙ sym (record_length_in _ _)

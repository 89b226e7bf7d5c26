-- `fields::form` gives the form of the rule of record s.
use mathlib.Core.Path.{sym}
use Rattle.image.proofs.Places.{form_in_lem}
use Rattle.image.proofs.fields.form.Goals as goal

pub returns : goal.returns
returns c = sym (form_in_lem _ _)

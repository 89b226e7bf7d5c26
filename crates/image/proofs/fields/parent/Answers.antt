-- `fields::parent` gives the parent slot of record s, and its bound.
use mathlib.Core.Path.{sym, ◌∙◌}
use native.Mathlib.Omega.{arith}
use Rattle.image.proofs.Places.{parent_in}
use Rattle.image.proofs.fields.parent.Goals as goal

pub returns : goal.returns
returns c = (c.from.ensures ∙ c.u16_at.ensures ∙ sym (parent_in _ _), omega arith)

-- `fields::start` gives where the body of record s starts, and its bound.
use mathlib.Core.Path.{sym, ◌∙◌}
use native.Mathlib.Omega.{arith}
use Rattle.image.proofs.Places.{start-in}
use Rattle.image.proofs.fields.start.Goals as goal

pub returns : goal.returns
returns c = (c.from.ensures ∙ c.u16_at.ensures ∙ sym (start-in _ _), omega arith)

-- `fields::size` gives the size of record s, and its bound.
use mathlib.Core.Path.{sym, ◌∙◌}
use native.Mathlib.Omega.{arith}
use Rattle.image.proofs.Places.{size_in}
use Rattle.image.proofs.fields.size.Goals as goal

pub returns : goal.returns
returns c = (c.from.ensures ∙ c.u32_at.ensures ∙ sym (size_in _ _), omega arith)

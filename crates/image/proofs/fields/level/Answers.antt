-- `fields::level` gives the level of record s, and its bound.
use mathlib.Core.Path.{sym, ◌∙◌}
use native.Mathlib.Omega.{arith}
use Rattle.image.proofs.Places.{level_in}
use Rattle.image.proofs.fields.level.Goals as goal

pub returns : goal.returns
returns c = (c.from.ensures ∙ c.u16_at.ensures ∙ sym (level_in _ _), omega arith)

-- `fields::life_cycle` gives the life-cycle byte of record s.
use mathlib.Core.Path.{sym}
use Rattle.image.proofs.Places.{life-in}
use Rattle.image.proofs.fields.life_cycle.Goals as goal

pub returns : goal.returns
returns c = sym (life-in _ _)

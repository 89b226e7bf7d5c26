-- `fresh::form_of`: no version has a form that a byte does not hold.
use mathlib.Core.Path.{refl, sym}
use native.Mathlib.Omega.{arith}
use Rattle.maker.proofs.Buffers.{form-none}
use Rattle.maker.proofs.fresh.form_of.Goals as goal

pub returns-in_default : goal.returns-in_default
returns-in_default c = (sym (form-none _ _ _ (omega (arith, c.in_default.ensures))), refl)

-- `write::set_current` writes four bytes, two by two.
use mathlib.Core.Path.{refl}
use native.Mathlib.Omega.{arith}
use Rattle.laws.proofs.Splices.{splice-step}
use Rattle.image.specs.Layout.{set_current}
use Rattle.image.proofs.write.set_current.Goals as goal

pub returns : goal.returns
unfolding set_current
returns c = splice-step _ _ _ _ _ _ _
    c.put16.ensures
    (omega arith) refl c.put16-2.ensures

-- `covered_at`: no DF, or its children cost at most its total.
use Rattle.sound_charges.proofs.Sums.{charges-no, charges_is}
use Rattle.sound_charges.proofs.covered_at.Goals as goal

pub returns-then-kind-ne-DF : goal.returns-then-kind-ne-DF
returns-then-kind-ne-DF c = search charges-no

pub returns : goal.returns
returns c = search charges_is

-- `current::stands`: the DF, then none or its child EF.
use mathlib.Core.Path.{refl}
use Rattle.sound_test.proofs.Parts.{current-high, current-kind, current-none, current_far, current-other, current-last}
use Rattle.sound_test.proofs.current.stands.Goals as goal

pub returns-then-df-n : goal.returns-then-df-n
returns-then-df-n c = search current-high

pub returns-then-kind-ne-DF : goal.returns-then-kind-ne-DF
returns-then-kind-ne-DF c = search current-kind

pub returns-then-ef-eq-NO_SLOT : goal.returns-then-ef-eq-NO_SLOT
returns-then-ef-eq-NO_SLOT c = search current-none

pub returns-then-ef-n : goal.returns-then-ef-n
returns-then-ef-n c = search current_far

pub returns-then-kind-ne-EF : goal.returns-then-kind-ne-EF
returns-then-kind-ne-EF c = search current-other

pub returns : goal.returns
returns c = search (current-last, refl)

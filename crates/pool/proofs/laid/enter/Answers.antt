-- `laid::enter`: a law for each way out.
use mathlib.Core.Path.{refl}
use Rattle.pool.specs.Entered.{yes, no}
use Rattle.pool.proofs.Entering.{enter_empty, enter_outside, enter_twice, enter_new}
use Rattle.pool.proofs.laid.enter.Goals as goal

pub returns-then-size-eq0 : goal.returns-then-size-eq0
returns-then-size-eq0 c = yes refl (search enter_empty)

pub returns-then-start-size : goal.returns-then-start-size
returns-then-start-size c = no refl (search enter_outside)

pub returns-then-has : goal.returns-then-has
returns-then-has c = no refl (search enter_twice)

pub returns : goal.returns
returns c = yes refl (search enter_new)

use mathlib.Core.Path.{refl}
use Rattle.pool.specs.Entered.{yes, no}
use Rattle.pool.proofs.Entering.{passed_start, passed_more, passed_fails, passed_end}
use Rattle.pool.proofs.stretch.none_between.Goals as goal

pub loop-p-init : goal.loop-p-init
loop-p-init c = search passed_start

pub returns-then-not-low_zero : goal.returns-then-not-low_zero
returns-then-not-low_zero c = no refl (search passed_fails)

pub loop-p-preserved : goal.loop-p-preserved
loop-p-preserved c = search passed_more

pub returns : goal.returns
returns c = yes refl (search passed_end)

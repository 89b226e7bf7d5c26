use mathlib.Core.Path.{ap, refl}
use mathlib.Core.Bool.{not}
use Rattle.pool.specs.Entered.{yes, no}
use Rattle.pool.proofs.Entering.{when_yes, when_no, entered-end}
use borrow.Author.Rules.{rules}
use Rattle.pool.proofs.laid.enter_all.Goals as goal

pub returns-then-not-enter : goal.returns-then-not-enter
returns-then-not-enter c = no refl (when_no _ c.enter.ensures (ap not c.if-not-enter.true))

pub loop-s-preserved : goal.loop-s-preserved
loop-s-preserved c = (search rules, when_yes _ c.enter.ensures (ap not c.if-not-enter.false))

pub returns : goal.returns
returns c = yes refl (search entered-end)

use mathlib.Core.Path.{ap}
use mathlib.Core.Bool.{not}
use borrow.Author.Count.{below_none, below_more}
use Rattle.pool.proofs.Entering.{when_yes, when_no, not-laid, alone-end}
use borrow.Author.Rules.{rules}
use Rattle.pool.proofs.laid.alone_all.Goals as goal

pub loop-s-init : goal.loop-s-init
loop-s-init c = (search rules, below_none _)

pub returns-then-not-alone : goal.returns-then-not-alone
returns-then-not-alone c = not-laid _ _ _ _ (when_no _ c.alone.ensures (ap not c.if-not-alone.true))

pub loop-s-preserved : goal.loop-s-preserved
loop-s-preserved c =
    (search rules, below_more _ _ c.loop-s.invariant.1 (when_yes _ c.alone.ensures (ap not c.if-not-alone.false)))

pub returns : goal.returns
returns c = search alone-end

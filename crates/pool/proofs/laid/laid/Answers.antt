-- `laid::laid`: all starts are put into a set, then each body is looked at.
use mathlib.Core.Path.{ap}
use mathlib.Core.Bool.{not}
use Rattle.pool.proofs.Entering.{entered-none, when_yes, when_no, not-laid}
use borrow.Author.Rules.{rules}
use Rattle.pool.proofs.laid.laid.Goals as goal

pub enter_all-requires : goal.enter_all-requires
enter_all-requires c = record { sized = search rules; entered_in = rw c.new-seen.ensures (entered-none _ _ _) }

pub returns-then-not-enter_all : goal.returns-then-not-enter_all
returns-then-not-enter_all c = not-laid _ _ _ _ (when_no _ c.enter_all.ensures (ap not c.if-not-enter_all.true))

pub alone_all-requires : goal.alone_all-requires
alone_all-requires c = record { sized = search rules; entered_in = when_yes _ c.enter_all.ensures (ap not c.if-not-enter_all.false) }

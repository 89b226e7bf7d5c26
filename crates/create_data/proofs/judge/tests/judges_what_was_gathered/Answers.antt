-- What was gathered is held.
use mathlib.Core.Path.{sym, subst}
use Rattle.template.specs.Objects.{Held}
use Rattle.template.proofs.Holding.{held}
use Rattle.create_data.proofs.judge.tests.judges_what_was_gathered.Goals as goal

pub invariant_of-gathered : goal.invariant_of-gathered
invariant_of-gathered g c = record { held = subst (Held _) (sym c.all.ensures) (held _) }

pub invariant_of-more : goal.invariant_of-more
invariant_of-more g c = record { held = subst (Held _) (sym c.all-2.ensures) (held _) }

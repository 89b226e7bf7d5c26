-- `target::current_file`: the EF, if there is one.
use Rattle.laws.proofs.Branches.{got_eq, got_ne}
use mathlib.Core.Path.{refl}
use Rattle.judge_target.specs.Target.{current_file}
use Rattle.judge_target.proofs.target.current_file.Goals as goal

pub returns-then-e-eq-NO_SLOT : goal.returns-then-e-eq-NO_SLOT
unfolding current_file
returns-then-e-eq-NO_SLOT c = search (got_eq, got_ne, refl) depth 30

pub returns : goal.returns
unfolding current_file
returns c = search (got_eq, got_ne, refl) depth 30

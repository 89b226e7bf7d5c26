-- `decided`: what a fit length says, by the instruction.
use mathlib.Core.Path.{refl}
use Rattle.judge.proofs.Plans.{delete-long, create-long}
use Rattle.judge_security.proofs.decided.Goals as goal

pub sent_data-requires : goal.sent_data-requires
sent_data-requires c = create-long _ c.requires.in_bounds.1 refl c.in-224.is

pub sent_identifier-requires : goal.sent_identifier-requires
sent_identifier-requires c = delete-long _ c.requires.in_bounds.1 refl c.in-228.is

-- `step`: the word of the reply that the card gives.
use mathlib.Core.Path.{refl}
use Rattle.replay_text.proofs.Lines.{stepped}
use Rattle.replay_text.proofs.step.Goals as goal

pub returns-in-Ok : goal.returns-in-Ok
returns-in-Ok c = stepped c.command-reply.ensures c.in-Ok.is refl

pub returns-in-Err : goal.returns-in-Err
returns-in-Err c = stepped c.command-reply.ensures c.in-Err.is refl

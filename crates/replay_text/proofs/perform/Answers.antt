-- `perform`: the maker done, and the run; or a refusal, and `BAD`.
use Rattle.text.proofs.Written.{same_text}
use Rattle.replay_text.proofs.Made.{performed, refused}
use Rattle.replay_text.proofs.perform.Goals as goal

pub returns-in-Ok : goal.returns-in-Ok
returns-in-Ok c = same_text _ _ c.run.ensures (performed _ _ _ _ c.u32_at-total.ensures c.make-made.ensures.0 _ c.in-Ok.is c.make-made.ensures.1)

pub returns-in-Err : goal.returns-in-Err
returns-in-Err c = same_text _ _ c.put_bad.ensures (refused _ _ _ _ c.u32_at-total.ensures c.make-made.ensures.0 c.in-Err.is)

-- `Card::new`: a sound image is ready for judging.
use Rattle.judge_target.proofs.FromSound.{judgeable}
use Rattle.judge_target.proofs.Card.new.Goals as goal

pub invariant_of-result : goal.invariant_of-result
invariant_of-result c = record { judgeable = rw (c.count.ensures.0, c.current_df.ensures.0) (judgeable _ c.requires) }

-- `order::judge`: with the slot count and the current DF that the image gives.
use Rattle.judge.proofs.order.judge.Goals as goal

pub judge_for-requires : goal.judge_for-requires
judge_for-requires c = record { d_value = rw c.new.ensures.lent.0 c.new.ensures.read.1 }

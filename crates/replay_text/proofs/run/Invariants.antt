-- `run`: the invariant says what has been written, and that it and what is left of the walk are the whole text.
use Prim.Native.Nat.{◌-◌}
use lib.ListN.{length}
use Rattle.replay_text.proofs.Turns.{Going}
use Rattle.replay_text.proofs.run.Given as goal

abbrev pub invariant-loop-at : goal.invariant-loop-at
invariant-loop-at l = Going l.s l.initial.image l.initial.out l.image l.out l.at l.put

abbrev pub decreases-loop-at : goal.decreases-loop-at
decreases-loop-at l = length l.s - l.at

-- `padding::last_place`: a law for each way through the loop.
use Prim.Native.Nat.{◌-◌}
use lib.ListN.{length}
use Rattle.referred.proofs.Ends.{Walked}
use Rattle.referred.proofs.padding.last_place.Given as goal

abbrev pub invariant-loop-at : goal.invariant-loop-at
invariant-loop-at l = Walked l.row l.at

abbrev pub decreases-loop-at : goal.decreases-loop-at
decreases-loop-at l = length l.row - l.at

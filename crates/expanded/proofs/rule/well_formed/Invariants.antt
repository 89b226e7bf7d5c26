-- `rule::well_formed`: a law for each way through the loop.
use Prim.Native.Nat.{◌-◌}
use lib.ListN.{length}
use Rattle.expanded.proofs.Rows.{Going}
use Rattle.expanded.proofs.rule.well_formed.Given as goal

abbrev pub invariant-loop-at : goal.invariant-loop-at
invariant-loop-at l = Going l.due l.rule l.at

abbrev pub decreases-loop-at : goal.decreases-loop-at
decreases-loop-at l = length l.rule - l.at

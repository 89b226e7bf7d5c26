-- `rule::well_formed`: the invariant is what is left of the walk over the groups.
use Prim.Native.Nat.{◌-◌}
use lib.ListN.{length}
use Rattle.rules.proofs.Groups.{Formed}
use Rattle.rules.proofs.rule.well_formed.Given as goal

abbrev pub invariant-loop-at : goal.invariant-loop-at
invariant-loop-at l = Formed l.rule l.at

abbrev pub decreases-loop-at : goal.decreases-loop-at
decreases-loop-at l = length l.rule - l.at

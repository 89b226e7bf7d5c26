-- `rule::groups_by`: the invariant is what is left of the walk over the groups; a group's length is the table's.
use Prim.Native.Nat.{◌-◌}
use lib.ListN.{length}
use Rattle.rules.proofs.Groups.{Formed}
use Rattle.rules.proofs.rule.groups_by.Given as goal

abbrev pub invariant-loop-at : goal.invariant-loop-at
invariant-loop-at l = Formed l.rule l.at

abbrev pub decreases-loop-at : goal.decreases-loop-at
decreases-loop-at l = length l.rule - l.at

-- The cycle of `condition::is_formed` and `condition::are_formed`: the number of templates left falls.
use Rattle.std.proofs.Common.{length, ◌-◌, ◌+◌, ◌*◌}
use Rattle.expanded.specs.Condition.{formed}
use Rattle.expanded.proofs.Objects.{Each}
use Rattle.expanded.proofs.condition.+are_formed_is_formed.Given as goal

abbrev pub decreases-are_formed : goal.decreases-are_formed
decreases-are_formed l = 2 * l.left + 1

abbrev pub decreases-is_formed : goal.decreases-is_formed
decreases-is_formed l = 2 * l.left

abbrev pub invariant-are_formed-loop-at : goal.invariant-are_formed-loop-at
invariant-are_formed-loop-at l = Each (formed l.left) l.s l.at

abbrev pub decreases-are_formed-loop-at : goal.decreases-are_formed-loop-at
decreases-are_formed-loop-at l = length l.s - l.at

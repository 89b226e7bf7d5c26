-- The cycle of `condition::does_hold`, `does_one` and `do_all`: the number of templates left falls.
use Rattle.std.proofs.Common.{◌+◌, ◌*◌}
use Rattle.expanded.specs.Object.{objects_of}
use Rattle.expanded.specs.Condition.{holds}
use Rattle.expanded.proofs.Given.{Each, Some}
use Rattle.expanded.proofs.condition.+do_all_does_hold_does_one.Given as goal

abbrev pub decreases-do_all : goal.decreases-do_all
decreases-do_all l = 2 * l.left + 1

abbrev pub decreases-does_hold : goal.decreases-does_hold
decreases-does_hold l = 2 * l.left

abbrev pub decreases-does_one : goal.decreases-does_one
decreases-does_one l = 2 * l.left + 1

abbrev pub invariant-do_all-loop-o : goal.invariant-do_all-loop-o
invariant-do_all-loop-o l = Each (holds l.left l.sets) (objects_of l.s) (objects_of l.o-iterator.0.now)

abbrev pub invariant-does_one-loop-o : goal.invariant-does_one-loop-o
invariant-does_one-loop-o l = Some (holds l.left l.sets) (objects_of l.s) (objects_of l.o-iterator.0.now)

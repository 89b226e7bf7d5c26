-- The lines on both sides of what a rule decides compute.
use mathlib.Core.Path.{refl}
use Rattle.rules.specs.Condition.{met, fulfilled, one_of, all_of, holds_of}
use Rattle.rules.specs.Group.{sc_at, slots_of, next_of, some_group}
use Rattle.rules.specs.Rule.{holds_at, allows_of, compact_grants}
use Rattle.expanded.specs.Object.{objects_from, objects_of, every, some, several}
use Rattle.expanded.specs.Condition.{formed_plain, is_template, formed, sc_of, holds_plain, holds}
use Rattle.expanded.specs.Expanded.{is_am, am_after, in_place, goes_on, expanded_formed, opens, opens_one, expanded_grants}
use Rattle.access.specs.Access.{well_formed, granted_of}
use Rattle.access.specs.Decision.{decision_of}
use Rattle.access.specs.Lines.{DecisionsTold, ReferencesTold}

pub decisions_told : DecisionsTold
unfolding decision_of granted_of compact_grants allows_of some_group holds_at slots_of sc_at next_of holds_of all_of one_of fulfilled met expanded_grants
    expanded_formed goes_on in_place is_am am_after opens_one opens formed formed_plain is_template holds holds_plain sc_of objects_of objects_from
    every some several
decisions_told = (refl, refl, refl, refl, refl)

pub references_told : ReferencesTold
unfolding well_formed decision_of granted_of
references_told = (refl, refl)

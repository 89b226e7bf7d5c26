-- `search_child`: the slot of the child.
use Rattle.searches.proofs.Told.{is_sized, told_none, told_child}
use Rattle.searches.proofs.search_child.Goals as goal

pub returns-in_default : goal.returns-in_default
returns-in_default c = search told_none

pub child_named-requires : goal.child_named-requires
child_named-requires c = search is_sized

pub returns : goal.returns
returns c = search told_child

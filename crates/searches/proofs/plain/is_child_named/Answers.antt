-- `plain::is_child_named`: a child, and its identifier is x.
use Rattle.laws.proofs.Chains.{calls}
use Rattle.laws.proofs.Branches.{tested}
use mathlib.Core.Path.{refl}
use Rattle.sound.specs.Kinship.{is_child_named}
use Rattle.searches.proofs.plain.is_child_named.Goals as goal

pub returns-then-not-is_child : goal.returns-then-not-is_child
unfolding is_child_named
returns-then-not-is_child c = search (calls, tested, refl) depth 30

pub returns : goal.returns
unfolding is_child_named
returns c = search (calls, tested, refl) depth 30

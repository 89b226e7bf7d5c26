-- `plain::is_child`: a file, and its parent is d.
use Rattle.laws.proofs.Chains.{calls}
use Rattle.laws.proofs.Branches.{tested}
use mathlib.Core.Path.{refl}
use Rattle.sound.specs.Kinship.{is_child}
use Rattle.searches.proofs.plain.is_child.Goals as goal

pub returns-then-not-is_file : goal.returns-then-not-is_file
unfolding is_child
returns-then-not-is_file c = search (calls, tested, refl) depth 30

pub returns : goal.returns
unfolding is_child
returns c = search (calls, tested, refl) depth 30

-- `search::is_child`: a file, and its parent is d, in either order.
use Rattle.laws.proofs.Chains.{calls}
use Rattle.laws.proofs.Branches.{tested}
use mathlib.Core.Path.{refl}
use Rattle.sound.specs.Kinship.{is_child}
use Rattle.kinship.proofs.Foreign.{other-parent, same-parent}
use Rattle.kinship.proofs.search.is_child.Goals as goal

pub returns-then-not-is_file : goal.returns-then-not-is_file
unfolding is_child
returns-then-not-is_file c = search (calls, tested, refl) depth 30

pub returns-then-d-eq0 : goal.returns-then-d-eq0
unfolding is_child
returns-then-d-eq0 c = search (calls, tested, refl) depth 30

pub returns-then-not-stands_in : goal.returns-then-not-stands_in
returns-then-not-stands_in c = search other-parent

pub returns : goal.returns
returns c = search same-parent

-- `search::is_file`: used, and not the root.
use Rattle.laws.proofs.Chains.{got_not-and, got_is_and}
use mathlib.Core.Path.{refl}
use Rattle.kinship.proofs.search.is_file.Goals as goal

pub returns-then-kind-eq-FREE : goal.returns-then-kind-eq-FREE
returns-then-kind-eq-FREE c = search (got_is_and, refl) depth 30

pub returns : goal.returns
returns c = search (got_not-and, refl) depth 30

-- `erase::ef_left`: none where it was the deleted one.
use Rattle.laws.proofs.Branches.{is_eq, not-eq}
use Rattle.effect.proofs.erase.ef_left.Goals as goal

pub returns-then-ef-d : goal.returns-then-ef-d
returns-then-ef-d c = search is_eq

pub returns : goal.returns
returns c = search not-eq

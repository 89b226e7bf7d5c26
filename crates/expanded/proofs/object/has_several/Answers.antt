-- `object::has_several`: a law for each way out.
use Rattle.expanded.proofs.Objects.{severals}
use Rattle.expanded.proofs.object.has_several.Goals as goal

pub returns-then-s-lt1 : goal.returns-then-s-lt1
returns-then-s-lt1 c = search severals

pub returns-then-to-lt2 : goal.returns-then-to-lt2
returns-then-to-lt2 c = search severals

pub returns : goal.returns
returns c = search severals

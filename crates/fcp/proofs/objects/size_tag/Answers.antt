-- `objects::size_tag`: 81 for a DF, else 80.
use Rattle.fcp.specs.Template.{size_tag}
use Rattle.laws.proofs.Branches.{got_eq, got_ne}
use Rattle.fcp.proofs.objects.size_tag.Goals as goal

pub returns-then-kind-eq-DF : goal.returns-then-kind-eq-DF
unfolding size_tag
returns-then-kind-eq-DF c = search got_eq

pub returns : goal.returns
unfolding size_tag
returns c = search got_ne

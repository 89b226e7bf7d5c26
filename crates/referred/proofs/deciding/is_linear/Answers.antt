-- `deciding::is_linear`: kind and structure.
use Rattle.referred.proofs.Places.{linear-no, linear-last}
use Rattle.referred.proofs.deciding.is_linear.Goals as goal

pub returns-then-kind-ne-EF : goal.returns-then-kind-ne-EF
returns-then-kind-ne-EF c = search linear-no

pub returns : goal.returns
returns c = search linear-last

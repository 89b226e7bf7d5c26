-- `object::has`: nothing is said where there is no room, else the length byte decides.
use Rattle.expanded.proofs.Standing.{not_there, has-whole}
use Rattle.expanded.proofs.object.has.Goals as goal

pub returns-then-s-at : goal.returns-then-s-at
returns-then-s-at c = not_there

pub returns : goal.returns
returns c = λ t. search has-whole

use Rattle.subtree.proofs.Marks.{settled_end}
use Rattle.subtree.proofs.settle_all.Goals as goal

pub returns : goal.returns
returns c = search settled_end

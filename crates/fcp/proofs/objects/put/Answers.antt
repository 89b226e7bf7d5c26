-- `objects::put` writes a tag, a length and a value.
use Rattle.fcp.proofs.Pieces.{object-written}
use Rattle.fcp.proofs.objects.put.Goals as goal

pub returns : goal.returns
returns c = search object-written

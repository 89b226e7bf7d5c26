-- `fresh::put_fresh`: header, root and free records are the whole buffer.
use Rattle.maker.proofs.Buffers.{fresh-written}
use Rattle.maker.proofs.fresh.put_fresh.Goals as goal

pub returns : goal.returns
returns c = search fresh-written

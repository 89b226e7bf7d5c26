use Rattle.pool.proofs.Indexes.{chained_none}
use Rattle.pool.proofs.index.Index.new.Goals as goal

pub returns : goal.returns
returns c = chained_none

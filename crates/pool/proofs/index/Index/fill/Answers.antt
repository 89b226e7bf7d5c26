use Rattle.pool.proofs.Indexes.{chained_end}
use Rattle.pool.proofs.index.Index.fill.Goals as goal

pub returns : goal.returns
returns c = search chained_end

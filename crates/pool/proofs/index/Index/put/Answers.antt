-- `index::put`: one slot more.
use Rattle.pool.proofs.Indexes.{chained_skip, chained_put}
use Rattle.pool.proofs.index.Index.put.Goals as goal

pub returns-then-size-eq0 : goal.returns-then-size-eq0
returns-then-size-eq0 c = search chained_skip

pub returns : goal.returns
returns c = search chained_put

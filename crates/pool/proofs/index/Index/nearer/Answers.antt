-- `index::nearer`: a law for each way out.
use Rattle.pool.proofs.Nearest.{nearer-below, nearer-past, nearer-is}
use Rattle.pool.proofs.index.Index.nearer.Goals as goal

pub returns-then-at-p : goal.returns-then-at-p
returns-then-at-p c = search nearer-below

pub returns-then-best-at : goal.returns-then-best-at
returns-then-best-at c = search nearer-past

pub returns : goal.returns
returns c = search nearer-is

use Rattle.pool.proofs.Nearest.{near-start, near-low, near-less, near-more, near-end}
use Rattle.pool.proofs.index.Index.ahead.Goals as goal

pub loop-on-init : goal.loop-on-init
loop-on-init c = search near-start

pub nearer-best-requires : goal.nearer-best-requires
nearer-best-requires c = search near-low

pub after-on-requires : goal.after-on-requires
after-on-requires c = search near-low

pub loop-on-smaller : goal.loop-on-smaller
loop-on-smaller c = search near-less

pub loop-on-preserved : goal.loop-on-preserved
loop-on-preserved c = search near-more

pub returns : goal.returns
returns c = search near-end

-- `card::pool_fits`: its two ways out are the two sides of `pool_fits`.
use Rattle.card.proofs.Called.{pool_any, pool-long, sound-long, root-within}
use Rattle.card.proofs.pool_fits.Goals as goal

pub version-requires : goal.version-requires
version-requires c = search sound-long

pub returns-then-not-has_bodies : goal.returns-then-not-has_bodies
returns-then-not-has_bodies c = search pool_any

pub size-requires : goal.size-requires
size-requires c = search root-within

pub returns : goal.returns
returns c = search pool-long

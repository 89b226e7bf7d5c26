-- `placing::make`: the gap that was found, or the moving down.
use Rattle.pool.proofs.Making.{gap_room, make_gap, make-packed}
use Rattle.pool.proofs.placing.make.Goals as goal

pub fill-requires : goal.fill-requires
fill-requires c = search gap_room

pub returns-in-Some : goal.returns-in-Some
returns-in-Some c = search make_gap

pub returns : goal.returns
returns c = search make-packed

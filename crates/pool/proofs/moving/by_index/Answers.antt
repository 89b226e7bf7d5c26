use borrow.Author.Rules.{rules}
use Rattle.pool.proofs.Indexes.{chained-linked}
use Rattle.pool.proofs.Walking.{going_start, going_none, going_within, going_room, going_less, going_body, going_count}
use Rattle.pool.proofs.Walking.{going_image, going_pool, ahead_less}
use Rattle.pool.proofs.moving.by_index.Goals as goal

pub loop-p-init : goal.loop-p-init
loop-p-init c = search going_start

pub ahead-ahead-requires : goal.ahead-ahead-requires
ahead-ahead-requires c = record { linked = search chained-linked; p_lt_len = search rules }

pub loop-p-smaller-in_default : goal.loop-p-smaller-in_default
loop-p-smaller-in_default c = search ahead_less

pub loop-p-preserved-in_default : goal.loop-p-preserved-in_default
loop-p-preserved-in_default c = search going_none

pub size-size-requires : goal.size-size-requires
size-size-requires c = search going_within

pub move_down-requires : goal.move_down-requires
move_down-requires c = (search rules, search going_room)

pub set_start-requires : goal.set_start-requires
set_start-requires c = (search going_within, search rules)

pub loop-p-smaller : goal.loop-p-smaller
loop-p-smaller c = search going_less

pub loop-p-preserved : goal.loop-p-preserved
loop-p-preserved c = search going_body

pub returns : goal.returns
returns c = record { value = search going_count; image_after = search going_image; pool_after = search going_pool }

use borrow.Author.Rules.{rules}
use Rattle.pool.proofs.Indexes.{chained-linked}
use Rattle.pool.proofs.Searching.{searched_start, searched_none}
use Rattle.pool.proofs.Walking.{seek_gap, seek_found, seek_body, ahead_less, ahead_within, body_less}
use Rattle.pool.proofs.gap.by_index.Goals as goal

pub loop-p-init : goal.loop-p-init
loop-p-init c = search searched_start

pub ahead-ahead-requires : goal.ahead-ahead-requires
ahead-ahead-requires c = record { linked = search chained-linked; p_lt_len = search rules }

pub returns-then-size-ahead : goal.returns-then-size-ahead
returns-then-size-ahead c = search seek_found

pub loop-p-smaller-in_default : goal.loop-p-smaller-in_default
loop-p-smaller-in_default c = search ahead_less

pub loop-p-preserved-in_default : goal.loop-p-preserved-in_default
loop-p-preserved-in_default c = search seek_gap

pub size-p-requires : goal.size-p-requires
size-p-requires c = search ahead_within

pub loop-p-smaller : goal.loop-p-smaller
loop-p-smaller c = search body_less

pub loop-p-preserved : goal.loop-p-preserved
loop-p-preserved c = search seek_body

pub returns : goal.returns
returns c = search searched_none

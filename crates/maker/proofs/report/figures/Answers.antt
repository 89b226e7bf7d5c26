-- `report::figures`: the four numbers of the current DF.
use Rattle.maker.proofs.Sums.{df-low, df-paid, rooted_read, figures_are}
use borrow.Author.Rules.{rules}
use Rattle.maker.proofs.report.figures.Goals as goal

pub size-total-requires : goal.size-total-requires
size-total-requires c = search (df-low, rules)

pub room-room-requires : goal.room-room-requires
room-room-requires c = record { sized = search rules; d_lt_n = search df-low; paid = search df-paid }

pub beneath-beneath-requires : goal.beneath-beneath-requires
beneath-beneath-requires c = record { rooted = search rooted_read; d_lt_n = search df-low }

pub returns : goal.returns
returns c = search figures_are

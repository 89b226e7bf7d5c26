-- `gap::lowest_gap`: an index is filled, then asked.
use borrow.Author.Rules.{rules}
use Rattle.pool.proofs.gap.lowest_gap.Goals as goal

pub fill-requires : goal.fill-requires
fill-requires c = record { sized = search rules; chained = c.new-index.ensures _ _ }

-- `moving::pack`: an index is filled, then the bodies are moved by it.
use borrow.Author.Rules.{rules}
use Rattle.pool.proofs.moving.pack.Goals as goal

pub fill-requires : goal.fill-requires
fill-requires c = record { sized = search rules; chained = c.new-index.ensures _ _ }

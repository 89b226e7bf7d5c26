-- `tell::tell_read`: bytes of the pool, if the response has room for them.
use Rattle.effect.proofs.Told.{read_short, read_done}
use Rattle.effect.proofs.tell.tell_read.Goals as goal

pub returns-then-response-count : goal.returns-then-response-count
returns-then-response-count c = search read_short

pub returns : goal.returns
returns c = search read_done

-- `laid::alone`: a law for each way out.
use mathlib.Core.Path.{refl}
use Rattle.pool.specs.Entered.{yes, no}
use Rattle.pool.proofs.Entering.{alone-empty, alone-room, alone_is, alone-not}
use Rattle.pool.proofs.laid.alone.Goals as goal

pub returns-then-size-eq0 : goal.returns-then-size-eq0
returns-then-size-eq0 c = yes refl (search alone-empty)

pub none_between-requires : goal.none_between-requires
none_between-requires c = search alone-room

pub returns-then-not-none_between : goal.returns-then-not-none_between
returns-then-not-none_between c = no refl (search alone-not)

pub returns : goal.returns
returns c = yes refl (search alone_is)

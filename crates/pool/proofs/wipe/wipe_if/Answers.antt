-- `wipe::wipe_if`: a law for each way out.
use Rattle.pool.proofs.Wiping.{wipe_stays, wipe_empty, wipe_some, body-room}
use Rattle.pool.proofs.wipe.wipe_if.Goals as goal

pub returns-then-not-goes : goal.returns-then-not-goes
returns-then-not-goes c = search wipe_stays

pub returns-then-size-eq0 : goal.returns-then-size-eq0
returns-then-size-eq0 c = search wipe_empty

pub zero_out-requires : goal.zero_out-requires
zero_out-requires c = search body-room

pub returns : goal.returns
returns c = search wipe_some

-- `own::recorded`: size, then record length.
use Rattle.sound_records.proofs.Bytes.{recorded_not, recorded_is}
use Rattle.sound_records.proofs.own.recorded.Goals as goal

pub returns-then-size-lt1 : goal.returns-then-size-lt1
returns-then-size-lt1 c = search recorded_not

pub returns : goal.returns
returns c = search recorded_is

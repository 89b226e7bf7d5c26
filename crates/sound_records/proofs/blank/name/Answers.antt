-- `blank::name`: three words, the last two overlapping.
use Rattle.sound_records.proofs.Zeros.{none_first, none_second, none_last}
use Rattle.sound_records.proofs.blank.name.Goals as goal

pub returns-then-not-eight : goal.returns-then-not-eight
returns-then-not-eight c = search none_first

pub returns-then-not-eight-2 : goal.returns-then-not-eight-2
returns-then-not-eight-2 c = search none_second

pub returns : goal.returns
returns c = search none_last

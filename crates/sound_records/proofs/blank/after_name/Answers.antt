-- `blank::after_name`: byte by byte, or two words.
use Rattle.sound_records.proofs.Zeros.{name-first, name-last}
use Rattle.sound_records.proofs.blank.after_name.Goals as goal

pub returns-then-not-eight : goal.returns-then-not-eight
returns-then-not-eight c = search name-first

pub returns : goal.returns
returns c = search name-last

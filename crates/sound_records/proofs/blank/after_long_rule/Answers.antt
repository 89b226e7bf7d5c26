-- `blank::after_long_rule`: two words, or the few bytes one by one.
use Rattle.sound_records.proofs.Zeros.{long-first, long-last}
use Rattle.sound_records.proofs.blank.after_long_rule.Goals as goal

pub returns-then-not-eight : goal.returns-then-not-eight
returns-then-not-eight c = search long-first

pub returns : goal.returns
returns c = search long-last

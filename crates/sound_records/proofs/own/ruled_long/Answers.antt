-- `own::ruled_long`: how long the rule is, zeros from its end on, then the rule itself.
use Rattle.sound_records.proofs.Tails.{long-room}
use Rattle.sound_records.proofs.Bytes.{ruled-tail, long-past, long_is}
use borrow.Author.Rules.{rules}
use Rattle.sound_records.proofs.own.ruled_long.Goals as goal

pub returns-then-longest_rule-n : goal.returns-then-longest_rule-n
returns-then-longest_rule-n c = search long-past

pub after_long_rule-requires : goal.after_long_rule-requires
after_long_rule-requires c = record { r_len = (search rules, (search rules, search long-room)); le_to = search rules }

pub returns-then-not-after_long_rule : goal.returns-then-not-after_long_rule
returns-then-not-after_long_rule c = search ruled-tail

pub returns : goal.returns
returns c = search long_is

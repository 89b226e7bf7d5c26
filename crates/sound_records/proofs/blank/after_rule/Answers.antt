-- `blank::after_rule`: four words, from the end of the rule to where the zeros end.
use Rattle.sound_records.proofs.Zeros.{rule-first, rule_second, rule-third, rule-last}
use Rattle.sound_records.proofs.blank.after_rule.Goals as goal

pub returns-then-not-eight : goal.returns-then-not-eight
returns-then-not-eight c = search rule-first

pub returns-then-not-eight-2 : goal.returns-then-not-eight-2
returns-then-not-eight-2 c = search rule_second

pub returns-then-not-eight-3 : goal.returns-then-not-eight-3
returns-then-not-eight-3 c = search rule-third

pub returns : goal.returns
returns c = search rule-last

-- `rule::begins_at`: the tag, nothing due, one byte, and b8 of it clear.
use Rattle.expanded.proofs.Standing.{not_there, stands_am, am_within}
use Rattle.expanded.proofs.rule.begins_at.Goals as goal

pub returns-then-rule-at : goal.returns-then-rule-at
returns-then-rule-at c = not_there

pub returns-then-due : goal.returns-then-due
returns-then-due c = not_there

pub returns-then-not-has : goal.returns-then-not-has
returns-then-not-has c = not_there

pub bounds-rule-at-2 : goal.bounds-rule-at-2
bounds-rule-at-2 c = search am_within

pub returns : goal.returns
returns c = λ t. search stands_am

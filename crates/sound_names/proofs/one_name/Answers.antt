-- `one_name`: a has no name, a number is another one, or the lengths tell.
use Rattle.sound_names.proofs.OneName.{unnamed_one, other_one, same_at, one_is}
use borrow.Author.Rules.{rules}
use Rattle.sound_names.proofs.one_name.Goals as goal

pub returns-then-a-eq0 : goal.returns-then-a-eq0
returns-then-a-eq0 c = search unnamed_one

pub returns-then-eight_at : goal.returns-then-eight_at
returns-then-eight_at c = search (other_one, rules)

pub returns-then-eight_at-2 : goal.returns-then-eight_at-2
returns-then-eight_at-2 c = search (other_one, rules)

pub returns : goal.returns
returns c = search (one_is, same_at)

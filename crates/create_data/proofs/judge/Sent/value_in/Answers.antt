-- A value as a part of the data.
use Rattle.laws.specs.Lists.{part}
use borrow.Author.Rules.{rules}
use Rattle.create_data.proofs.judge.Sent.value_in.Goals as goal

pub returns : goal.returns
unfolding part
returns c = search rules

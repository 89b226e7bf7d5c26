-- `numbers::put8` writes a splice of one byte: one store.
use Rattle.laws.proofs.Splices.{set-one}
use borrow.Author.Rules.{rules}
use Rattle.numbers.proofs.put8.Goals as goal

pub returns : goal.returns
returns c = set-one _ _ _ (search rules)

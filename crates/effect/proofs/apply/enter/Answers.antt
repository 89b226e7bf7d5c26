-- `apply::enter`: the record, then what is current.
use Rattle.effect.proofs.Writes.{rule_fits, created-df, created-ef}
use borrow.Author.Rules.{rules}
use Rattle.effect.proofs.apply.enter.Goals as goal

pub put_record-requires : goal.put_record-requires
put_record-requires c = (search rules, (search rules, search rule_fits))

pub returns-then-head-eq-DF : goal.returns-then-head-eq-DF
returns-then-head-eq-DF c = search created-df

pub returns : goal.returns
returns c = search created-ef

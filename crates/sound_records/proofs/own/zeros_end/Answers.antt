-- `own::zeros_end`: at the start of a body where one stands, else at the end of the record.
use Rattle.sound_records.proofs.Tails.{end_older, end-start, end_none}
use borrow.Author.Rules.{rules}
use Rattle.sound_records.proofs.own.zeros_end.Goals as goal

pub returns-then-not-has_bodies : goal.returns-then-not-has_bodies
returns-then-not-has_bodies c = (search end_older, search rules)

pub returns-then-r-eq-EF : goal.returns-then-r-eq-EF
returns-then-r-eq-EF c = (search end-start, search rules)

pub returns : goal.returns
returns c = (search end_none, search rules)

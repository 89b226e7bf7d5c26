-- `report::report`: unsound, or the numbers.
use Rattle.maker.proofs.Sums.{reported_unsound, is_sound, long_enough, is_sized, reported_numbers}
use borrow.Author.Rules.{rules}
use Rattle.maker.proofs.report.report.Goals as goal

pub returns-then-not-sound : goal.returns-then-not-sound
returns-then-not-sound c = search reported_unsound

pub count-n-requires : goal.count-n-requires
count-n-requires c = search long_enough

pub figures-requires : goal.figures-requires
figures-requires c = record { sized = (search is_sized, search rules); sound = search is_sound }

pub returns : goal.returns
returns c = search reported_numbers

-- `slots`: as many records as the image counts, where it is as long.
use Rattle.searches.proofs.Told.{too_short, too_few, too_many, not_so_long, as_long}
use Rattle.searches.proofs.slots.Goals as goal

pub returns-then-image-lt16 : goal.returns-then-image-lt16
returns-then-image-lt16 c = search too_short

pub returns-then-n-lt2 : goal.returns-then-n-lt2
returns-then-n-lt2 c = search too_few

pub returns-then-n-gt1023 : goal.returns-then-n-gt1023
returns-then-n-gt1023 c = search too_many

pub returns-then-image-n : goal.returns-then-image-n
returns-then-image-n c = search not_so_long

pub returns : goal.returns
returns c = search as_long

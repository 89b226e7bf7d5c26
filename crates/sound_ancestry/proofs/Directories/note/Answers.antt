-- `note`: no DF, an identifier that was noted, or a new one.
use Rattle.sound_ancestry.proofs.Noting.{seen_free, seen_again, seen_new}
use Rattle.sound_ancestry.proofs.Directories.note.Goals as goal

pub returns-then-kind-ne-DF : goal.returns-then-kind-ne-DF
returns-then-kind-ne-DF c = search seen_free

pub returns-then-has : goal.returns-then-has
returns-then-has c = search seen_again

pub returns : goal.returns
returns c = search seen_new

-- `placed_at`: a file has as parent a DF with level one less.
use mathlib.Core.Path.{refl}
use Rattle.sound_links.proofs.Placing.{placed-free, placed-high, placed-kind, placed-last}
use Rattle.sound_links.proofs.placed_at.Goals as goal

pub returns-then-not-is_file : goal.returns-then-not-is_file
returns-then-not-is_file c = search placed-free

pub returns-then-p-n : goal.returns-then-p-n
returns-then-p-n c = search placed-high

pub returns-then-kind-ne-DF : goal.returns-then-kind-ne-DF
returns-then-kind-ne-DF c = search placed-kind

pub returns : goal.returns
returns c = search (placed-last, refl)

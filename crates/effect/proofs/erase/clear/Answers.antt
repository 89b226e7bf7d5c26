-- `erase::clear`: an EF alone; else what is marked on the image as it came.
use mathlib.Core.Path.{refl}
use Rattle.pool.proofs.Wiping.{wipe_room}
use Rattle.subtree.proofs.Marks.{settled_none}
use Rattle.effect.proofs.Writes.{cleared_chosen, wiped-chosen}
use Rattle.effect.proofs.Alone.{cleared_alone, wiped-alone}
use borrow.Author.Rules.{rules}
use Rattle.effect.proofs.erase.clear.Goals as goal

pub wipe_if-requires : goal.wipe_if-requires
wipe_if-requires c = record { within = search rules; ends_in = search (wipe_room, refl, rules) }

pub returns-then-kind-eq-EF : goal.returns-then-kind-eq-EF
returns-then-kind-eq-EF c = (search (cleared_alone, rules), search (wiped-alone, rules))

pub settle_all-requires : goal.settle_all-requires
settle_all-requires c = record { rooted = search rules; d_lt_n = search rules; settled = search settled_none }

pub returns : goal.returns
returns c = (search cleared_chosen, search wiped-chosen)

use mathlib.Core.Path.{sym}
use native.Mathlib.Omega.{arith}
use Rattle.laws.proofs.Sums.{count-start}
use Rattle.sound.specs.Kinship.{files_beneath}
use Rattle.kinship.proofs.Counts.{count_turn, count-end, counts-low}
use Rattle.subtree.proofs.Marks.{settled_none}
use borrow.Author.Rules.{rules}
use Rattle.subtree.proofs.beneath.Goals as goal

pub settle_all-requires : goal.settle_all-requires
settle_all-requires c = record { rooted = search rules; d_lt_n = search rules; settled = search settled_none }

pub loop-s-init : goal.loop-s-init
loop-s-init c = (search rules, (sym (count-start _), search rules))

pub loop-s-preserved : goal.loop-s-preserved
loop-s-preserved c =
    let h = counts-low _ _ c.from-sum.ensures in
    (search rules, (search count_turn, omega arith))

pub returns : goal.returns
unfolding files_beneath
returns c = search count-end

use mathlib.Core.Path.{sym}
use native.Mathlib.Omega.{arith}
use Rattle.laws.proofs.Sums.{count-start}
use Rattle.sound.specs.Kinship.{children_of}
use Rattle.kinship.proofs.Counts.{count_turn, count-end, counts-low}
use borrow.Author.Rules.{rules}
use Rattle.kinship.proofs.count.children.Goals as goal

pub loop-s-init : goal.loop-s-init
loop-s-init c = (search rules, (sym (count-start _), search rules))

pub loop-s-preserved : goal.loop-s-preserved
loop-s-preserved c =
    let h = counts-low _ _ c.from-sum.ensures in
    (search rules, (search count_turn, omega arith))

pub returns : goal.returns
unfolding children_of
returns c = search count-end

use borrow.Author.Rules.{rules}
use mathlib.Core.Path.{sym}
use lib.ListN.{length-set}
use Rattle.laws.proofs.Splices.{splice-nil, copy_turn, copy_end}
use Rattle.numbers.proofs.copy_in.Goals as goal

pub loop-j-init : goal.loop-j-init
loop-j-init c = (search rules, sym (splice-nil _ _))

pub loop-j-preserved : goal.loop-j-preserved
loop-j-preserved c = (
  simp length-set (search rules),
  copy_turn _ _ _ _ _ (search rules) (search rules) c.loop-j.invariant.1,
)

pub returns : goal.returns
returns c = copy_end _ _ _ _ _ (search rules) c.loop-j.invariant.1

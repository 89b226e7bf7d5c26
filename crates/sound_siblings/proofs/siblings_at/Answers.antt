use Rattle.laws.proofs.Walks.{all-zero}
use Rattle.sound_siblings.proofs.Siblings.{siblings-free, siblings_turn, siblings_stop, siblings-end}
use borrow.Author.Rules.{rules}
use Rattle.sound_siblings.proofs.siblings_at.Goals as goal

pub returns-then-not-is_file : goal.returns-then-not-is_file
returns-then-not-is_file c = search siblings-free

pub loop-t-init : goal.loop-t-init
loop-t-init c = (search rules, all-zero _)

pub returns-then-is_child_named : goal.returns-then-is_child_named
returns-then-is_child_named c = search siblings_stop

pub loop-t-preserved : goal.loop-t-preserved
loop-t-preserved c = (search rules, search siblings_turn)

pub returns : goal.returns
returns c = search siblings-end

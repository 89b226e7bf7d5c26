use Rattle.laws.proofs.Walks.{all-zero, all_turn, all_stop, all_end}
use borrow.Author.Rules.{rules}
use Rattle.sound_links.proofs.Gathered.second.Goals as goal

pub loop-s-init : goal.loop-s-init
loop-s-init c = (search rules, all-zero _)

pub returns-then-not-second_at : goal.returns-then-not-second_at
returns-then-not-second_at c = search all_stop

pub loop-s-preserved : goal.loop-s-preserved
loop-s-preserved c = (search rules, search all_turn)

pub returns : goal.returns
returns c = search all_end

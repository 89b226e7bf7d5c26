use Rattle.laws.proofs.Walks.{all-zero, all_turn}
use Rattle.sound_links.proofs.Linking.{placed_passed, linked_left, linked_last, gathered-end}
use borrow.Author.Rules.{rules}
use Rattle.sound_links.proofs.linked.Goals as goal

pub loop-s-init : goal.loop-s-init
loop-s-init c = (search rules, (c.new-gathered.ensures _, all-zero _))

pub returns-then-not-first_at : goal.returns-then-not-first_at
returns-then-not-first_at c = search linked_left

pub loop-s-preserved : goal.loop-s-preserved
loop-s-preserved c = (search rules, (search rules, search all_turn))

pub second-requires : goal.second-requires
second-requires c = record { sized = search rules; image_value = (search rules, search placed_passed); gathered = search gathered-end }

pub returns : goal.returns
returns c = search linked_last

-- `second_at`: charges, then identifiers above.
use Rattle.sound_charges.proofs.Sums.{sum_is}
use Rattle.sound_links.specs.Linked.{second_at}
use Rattle.sound_links.proofs.Linking.{first-no, first-yes}
use borrow.Author.Rules.{rules}
use Rattle.sound_links.proofs.Gathered.second_at.Goals as goal

pub covered_at-requires : goal.covered_at-requires
covered_at-requires c = record { sized = search rules; sum_value = search (sum_is, rules) }

pub returns-then-not-covered_at : goal.returns-then-not-covered_at
unfolding second_at
returns-then-not-covered_at c = search first-no

pub returns : goal.returns
unfolding second_at
returns c = search first-yes

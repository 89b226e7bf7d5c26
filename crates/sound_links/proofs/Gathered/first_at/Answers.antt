-- `first_at`: sets and sums first, then siblings, then the place.
use Rattle.sound_links.specs.Linked.{first_at}
use Rattle.sound_links.proofs.Linking.{first-no, first-yes}
use borrow.Author.Rules.{rules}
use Rattle.sound_links.proofs.Gathered.first_at.Goals as goal

pub returns-then-not-alone : goal.returns-then-not-alone
unfolding first_at
returns-then-not-alone c =
    record { value = search first-no; gathered_2 = record { keyed = search rules; seen = search rules; summed = search rules } }

pub returns : goal.returns
unfolding first_at
returns c = record { value = search first-yes; gathered_2 = record { keyed = search rules; seen = search rules; summed = search rules } }

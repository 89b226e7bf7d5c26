-- `kin`: the root, the two walks, the names.
use Rattle.sound_test.proofs.Passed.{passed, kin-root, kin_linked, kin-last}
use borrow.Author.Rules.{rules}
use Rattle.sound_test.proofs.kin.Goals as goal

pub returns-then-not-stands : goal.returns-then-not-stands
returns-then-not-stands c = search kin-root

pub linked-requires : goal.linked-requires
linked-requires c = record { sized = search rules; image_value = search passed }

pub returns-then-not-linked : goal.returns-then-not-linked
returns-then-not-linked c = search kin_linked

pub returns : goal.returns
returns c = search kin-last

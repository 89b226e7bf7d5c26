-- `alone`: no file, a key that was seen, or a new one.
use Rattle.keys.proofs.Walking.{keyed_free, keyed_again, keyed_put}
use Rattle.kinship.proofs.Files.{no-file}
use Rattle.sound_siblings.proofs.Siblings.{siblings-free, sibling-key, siblings_new}
use borrow.Author.Rules.{rules}
use Rattle.sound_siblings.proofs.alone.Goals as goal

pub returns-then-not-is_file : goal.returns-then-not-is_file
returns-then-not-is_file c = (search siblings-free, search (keyed_free, no-file))

pub returns-then-has : goal.returns-then-has
returns-then-has c = (search rules, search (keyed_again, sibling-key))

pub returns : goal.returns
returns c = (search (siblings_new, sibling-key), search (keyed_put, sibling-key))

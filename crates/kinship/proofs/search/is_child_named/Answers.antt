-- `search::is_child_named`: the word of x and d, and a file.
use Rattle.kinship.proofs.Foreign.{no-parent, other_word, same_word}
use borrow.Author.Rules.{rules}
use Rattle.kinship.proofs.search.is_child_named.Goals as goal

pub returns-then-d-gt65535 : goal.returns-then-d-gt65535
returns-then-d-gt65535 c = search no-parent

pub returns-then-word : goal.returns-then-word
returns-then-word c = search other_word

pub returns : goal.returns
returns c = search (same_word, rules)

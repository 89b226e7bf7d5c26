-- `search::four_foreign`: each of the four has another word.
use Rattle.kinship.proofs.Foreign.{some-there, none-there}
use Rattle.kinship.proofs.search.four_foreign.Goals as goal

pub returns-then-word_at-word : goal.returns-then-word_at-word
returns-then-word_at-word c = search some-there

pub returns-then-word_at-word-2 : goal.returns-then-word_at-word-2
returns-then-word_at-word-2 c = search some-there

pub returns-then-word_at-word-3 : goal.returns-then-word_at-word-3
returns-then-word_at-word-3 c = search some-there

pub returns : goal.returns
returns c = search none-there

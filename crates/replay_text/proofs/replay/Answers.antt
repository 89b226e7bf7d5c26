-- `replay`: what `write` writes, in an array.
use Rattle.text.proofs.Written.{counted, taken}
use borrow.Author.Rules.{rules}
use Rattle.replay_text.proofs.replay.Goals as goal

pub returns : goal.returns
returns c = record { wrote = search rules; counted = search counted; taken = search taken }

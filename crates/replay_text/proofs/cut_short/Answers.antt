-- `cut_short`: the length first, then the command.
use Rattle.replay_text.proofs.Lines.{cut-length, cut-command}
use Rattle.replay_text.proofs.cut_short.Goals as goal

pub returns-then-s-at : goal.returns-then-s-at
returns-then-s-at c = search cut-length

pub returns : goal.returns
returns c = search cut-command

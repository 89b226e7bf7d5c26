-- `put_line`: five bytes, each the digit that its function gives.
use Rattle.replay_text.proofs.Lines.{line_put}
use Rattle.replay_text.proofs.put_line.Goals as goal

pub returns : goal.returns
returns c = search line_put

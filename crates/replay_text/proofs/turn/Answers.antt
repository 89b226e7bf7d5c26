-- `turn`: one command carried out, one line written.
use Rattle.replay_text.proofs.Lines.{turned-image, turned_out}
use Rattle.replay_text.proofs.turn.Goals as goal

pub returns : goal.returns
returns c = (
  turned-image _ _ _ _ _ c.sent-command.ensures
      c.step-word.ensures.1,
  turned_out _ _ _ _ _ _ _ _
      c.sent-command.ensures
      c.step-word.ensures.0 c.put_line.ensures,
)

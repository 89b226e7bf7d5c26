-- `put_mark`: two digits and a space, and the word behind them.
use Rattle.objects_text.specs.Lines.{mark_line}
use Rattle.text.proofs.Written.{written_on}
use Rattle.objects_text.proofs.put_mark.Goals as goal

pub returns : goal.returns
unfolding mark_line
returns c = written_on _ (rw c.hex.ensures at c.put-next.ensures) _ c.put.ensures

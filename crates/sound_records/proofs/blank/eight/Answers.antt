-- `blank::eight`: a number is zero where its bytes are.
use Rattle.sound_records.proofs.Zeros.{eight_zero}
use Rattle.sound_records.proofs.blank.eight.Goals as goal

pub returns : goal.returns
returns c = search eight_zero

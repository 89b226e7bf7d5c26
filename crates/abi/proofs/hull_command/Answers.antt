-- `hull_command`: the answer and the word in one number, what the card leaves, and the three numbers.
use Rattle.abi.proofs.Cases.{commanded}
use Rattle.abi.proofs.hull_command.Goals as goal

pub returns : goal.returns
returns c = search commanded

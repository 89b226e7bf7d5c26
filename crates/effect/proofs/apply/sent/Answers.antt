-- `apply::sent` gives the value that stands at a place of the data.
use Rattle.effect.proofs.Sent.{part-sent}
use Rattle.effect.proofs.apply.sent.Goals as goal

pub returns : goal.returns
returns c = part-sent _ c.args.place

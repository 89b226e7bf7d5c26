-- `deciding::stretch`: a law for each way out.
use Rattle.referred.proofs.Places.{stretch_none, stretch_rest, stretch_all}
use Rattle.referred.proofs.deciding.stretch.Goals as goal

pub returns-then-pool-from : goal.returns-then-pool-from
returns-then-pool-from c = search stretch_none

pub returns-then-pool-from-2 : goal.returns-then-pool-from-2
returns-then-pool-from-2 c = search stretch_rest

pub returns : goal.returns
returns c = search stretch_all

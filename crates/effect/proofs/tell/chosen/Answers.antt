-- `tell::chosen`: the EF, else the DF.
use Rattle.laws.proofs.Branches.{branches}
use Rattle.effect.specs.Told.{chosen}
use Rattle.effect.proofs.tell.chosen.Goals as goal

pub returns-then-ef-eq-NONE : goal.returns-then-ef-eq-NONE
unfolding chosen
returns-then-ef-eq-NONE c = search branches

pub returns : goal.returns
unfolding chosen
returns c = search branches

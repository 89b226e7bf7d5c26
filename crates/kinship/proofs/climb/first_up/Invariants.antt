-- `climb::first_up`: the invariant is where the walk stands, and that nothing passed had an answer.
use Rattle.sound.specs.Table.{view_at}
use Rattle.kinship.specs.Climb.{NoneUp}
use Rattle.kinship.proofs.Steps.{Climbed}
use Rattle.kinship.proofs.climb.first_up.Given as goal

abbrev pub invariant-loop : goal.invariant-loop
invariant-loop g l =
    Climbed l.image l.n l.s l.counter l.t × NoneUp (view_at l.image) l.s (goal.F-post g l.asked) l.counter

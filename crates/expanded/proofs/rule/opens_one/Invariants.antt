-- `rule::opens_one`: the invariant is what is left of the walk over the objects.
use Rattle.expanded.specs.Object.{objects_of}
use Rattle.expanded.proofs.Rows.{Closed}
use Rattle.expanded.proofs.rule.opens_one.Given as goal

abbrev pub invariant-loop-o : goal.invariant-loop-o
invariant-loop-o l = Closed l.bit l.sets l.am (objects_of l.rule) (objects_of l.o-iterator.0.now)

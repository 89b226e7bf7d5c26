-- `find`: all that the way up passed are at or beneath d as s is.
use Rattle.sound.specs.Table.{view_at}
use Rattle.subtree.proofs.Way.{Passed}
use Rattle.subtree.proofs.find.Given as goal

abbrev pub invariant-loop-t : goal.invariant-loop-t
invariant-loop-t l = Passed l.image l.n l.d l.s l.t

abbrev pub decreases-loop-t : goal.decreases-loop-t
decreases-loop-t l = (view_at l.image l.t).level

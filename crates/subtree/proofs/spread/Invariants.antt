-- `spread`: all that the way up passed have the mark of s.
use Rattle.sound.specs.Table.{view_at}
use Rattle.subtree.specs.Known.{Known, Keeps}
use Rattle.subtree.proofs.Way.{Passed}
use Rattle.subtree.proofs.spread.Given as goal

abbrev pub invariant-loop-marks : goal.invariant-loop-marks
invariant-loop-marks l = Passed l.image l.n l.d l.s l.t × (Known (view_at l.image) l.n l.d l.marks × Keeps l.initial.marks l.marks)

abbrev pub decreases-loop-marks : goal.decreases-loop-marks
decreases-loop-marks l = (view_at l.image l.t).level

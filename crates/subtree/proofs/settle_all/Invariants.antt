-- `settle_all`: every slot below s is known.
use Prim.Native.Nat.{◌≤◌}
use Rattle.sound.specs.Table.{view_at}
use Rattle.subtree.specs.Known.{Settled}
use Rattle.subtree.proofs.settle_all.Given as goal

abbrev pub invariant-loop-s : goal.invariant-loop-s
invariant-loop-s l = (l.s ≤ l.n) × Settled (view_at l.image) l.n l.d l.s l.marks

-- `search::next_kin`: the invariant is that no slot passed is such a child.
use Prim.Native.Nat.{◌-◌}
use Rattle.sound.specs.Table.{view_at}
use Rattle.kinship.specs.Search.{PassedOver}
use Rattle.kinship.proofs.search.next_kin.Given as goal

abbrev pub invariant-loop-s : goal.invariant-loop-s
invariant-loop-s l = PassedOver (view_at l.image) l.n l.d l.x l.from l.s

abbrev pub decreases-loop-s : goal.decreases-loop-s
decreases-loop-s l = l.n - l.s

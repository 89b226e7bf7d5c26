-- `room::charge`: the invariant is the sum over the slots passed, and its bound.
use Prim.Native.Nat.{◌≤◌, ◌*◌}
use mathlib.Core.Path.{◌≡◌}
use Rattle.kinship.proofs.Costs.{charged_below}
use Rattle.kinship.proofs.room.charge.Given as goal

abbrev pub invariant-loop-s : goal.invariant-loop-s
invariant-loop-s l = (l.s ≤ l.n) × ((l.sum ≡ charged_below l.image l.d l.s) × (l.sum ≤ l.s * 4294967359))

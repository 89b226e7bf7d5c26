-- `placing::total`: the sum over the slots before s, and a bound of it.
use Prim.Native.Nat.{◌*◌, ◌≤◌}
use mathlib.Core.Path.{◌≡◌}
use Rattle.laws.specs.Walks.{sum_below}
use Rattle.pool.specs.Bodies.{body_at}
use Rattle.pool.proofs.placing.total.Given as goal

abbrev pub invariant-loop-s : goal.invariant-loop-s
invariant-loop-s l = (l.s ≤ l.n) × ((l.sum ≡ sum_below l.s (body_at l.image)) × (l.sum ≤ l.s * 4294967296))

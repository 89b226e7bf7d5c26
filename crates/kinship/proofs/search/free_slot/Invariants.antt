-- `search::free_slot`: the invariant is that no slot passed is free; the loop breaks with the first that is.
use Prim.Native.Nat.{◌-◌, ◌≤◌}
use mathlib.Core.Path.{◌≡◌}
use Rattle.std.specs.Prelude.{None}
use Rattle.laws.specs.Walks.{first_below}
use Rattle.sound.specs.Table.{view_at}
use lib.Dec.{eqb}
use Rattle.kinship.proofs.search.free_slot.Given as goal

abbrev pub invariant-loop-s : goal.invariant-loop-s
invariant-loop-s l = (l.s ≤ l.n) × (first_below l.s (λ k. eqb (view_at l.image k).kind 0) ≡ None)

abbrev pub decreases-loop-s : goal.decreases-loop-s
decreases-loop-s l = l.n - l.s

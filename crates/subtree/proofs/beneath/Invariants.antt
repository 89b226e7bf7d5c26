-- `beneath`: the count over the slots before s, and a bound of it.
use Prim.Native.Nat.{◌≤◌}
use mathlib.Core.Path.{◌≡◌}
use Rattle.laws.specs.Walks.{count_below}
use Rattle.sound.specs.Table.{view_at}
use Rattle.sound.specs.Kinship.{beneath}
use Rattle.subtree.proofs.beneath.Given as goal

abbrev pub invariant-loop-s : goal.invariant-loop-s
invariant-loop-s l = (l.s ≤ l.n) × ((l.sum ≡ count_below l.s (beneath (view_at l.image) l.d)) × (l.sum ≤ l.s))

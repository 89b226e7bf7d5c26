-- `count::children`: the count over the slots before s, and a bound of it.
use Prim.Native.Nat.{◌≤◌}
use mathlib.Core.Path.{◌≡◌}
use Rattle.laws.specs.Walks.{count_below}
use Rattle.sound.specs.Table.{view_at}
use Rattle.sound.specs.Kinship.{is_child}
use Rattle.kinship.proofs.count.children.Given as goal

abbrev pub invariant-loop-s : goal.invariant-loop-s
invariant-loop-s l = (l.s ≤ l.n) × ((l.sum ≡ count_below l.s (is_child (view_at l.image) l.d)) × (l.sum ≤ l.s))

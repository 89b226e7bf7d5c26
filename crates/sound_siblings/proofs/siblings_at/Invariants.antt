-- `siblings_at`: s is apart from each record before t.
use Prim.Native.Nat.{◌≤◌}
use mathlib.Core.Path.{◌≡◌}
use mathlib.Core.Bool.{true}
use Rattle.laws.specs.Walks.{all_below}
use Rattle.sound.specs.Table.{view_at}
use Rattle.sound.specs.Kin.{apart_at}
use Rattle.sound_siblings.proofs.siblings_at.Given as goal

abbrev pub invariant-loop-t : goal.invariant-loop-t
invariant-loop-t l = (l.t ≤ l.s) × (all_below l.t (apart_at (view_at l.image) l.s) ≡ true)

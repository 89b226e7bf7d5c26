-- `linked`: the records before s passed the first walk, and what is gathered is theirs; then the second walk.
use Prim.Native.Nat.{◌≤◌}
use mathlib.Core.Path.{◌≡◌}
use mathlib.Core.Bool.{true}
use Rattle.laws.specs.Walks.{all_below}
use Rattle.sound.specs.Table.{view_at}
use Rattle.sound_links.specs.Linked.{first_at}
use Rattle.sound_links.specs.Gathers.{Gathers}
use Rattle.sound_links.proofs.linked.Given as goal

abbrev pub invariant-loop-s : goal.invariant-loop-s
invariant-loop-s l = (l.s ≤ l.n) × (Gathers (view_at l.image) l.s l.gathered × (all_below l.s (first_at l.n (view_at l.image)) ≡ true))

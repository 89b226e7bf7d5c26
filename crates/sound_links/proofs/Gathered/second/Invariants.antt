-- `second`: the records before s passed the second walk.
use Prim.Native.Nat.{◌≤◌}
use mathlib.Core.Path.{◌≡◌}
use mathlib.Core.Bool.{true}
use Rattle.laws.specs.Walks.{all_below}
use Rattle.sound.specs.Table.{view_at}
use Rattle.sound_links.specs.Linked.{second_at}
use Rattle.sound_links.proofs.Gathered.second.Given as goal

abbrev pub invariant-loop-s : goal.invariant-loop-s
invariant-loop-s l = (l.s ≤ l.n) × (all_below l.s (second_at l.n (view_at l.image)) ≡ true)

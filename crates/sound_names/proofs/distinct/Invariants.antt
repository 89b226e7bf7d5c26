-- `distinct`: no pair before (s, t) has one name; the label is left at the first that has.
use Prim.Native.Nat.{◌≤◌}
use mathlib.Core.Path.{◌≡◌}
use mathlib.Core.Bool.{true}
use Rattle.keys.specs.Marks.{Keyed}
use Rattle.sound.specs.Table.{view_at}
use Rattle.sound_names.specs.Key.{name_key_at, has_name}
use Rattle.sound_names.proofs.Pairs.{Apart, ApartTo}
use Rattle.sound_names.proofs.distinct.Given as goal

abbrev pub invariant-loop-t : goal.invariant-loop-t
invariant-loop-t l = (l.t ≤ l.back) × ((l.distinct ≡ true) × ApartTo l.image l.s l.t)

abbrev pub invariant-pairs : goal.invariant-pairs
invariant-pairs l =
    (l.s ≤ l.n) × ((l.distinct ≡ true) × (Apart l.image l.s × Keyed (has_name (view_at l.image)) (name_key_at l.image) l.s l.seen))

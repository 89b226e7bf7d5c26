-- `own::records`: each record before s is good by itself.
use Prim.Native.Nat.{◌≤◌}
use mathlib.Core.Path.{◌≡◌}
use mathlib.Core.Bool.{true}
use Rattle.laws.specs.Walks.{all_below}
use Rattle.image.specs.Layout.{rec_at}
use Rattle.sound.specs.Own.{ownb}
use Rattle.sound_records.proofs.own.records.Given as goal

abbrev pub invariant-loop-s : goal.invariant-loop-s
invariant-loop-s l = (l.s ≤ l.n) × (all_below l.s (λ t. ownb l.by.0 (rec_at l.image t)) ≡ true)

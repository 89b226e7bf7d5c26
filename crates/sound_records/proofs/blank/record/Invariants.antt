-- `blank::record`: the bytes before k are gathered.
use Prim.Native.Nat.{◌≤◌}
use mathlib.Core.Path.{◌≡◌}
use lib.Dec.{eqb}
use Rattle.sound.specs.Own.{zerosb}
use Rattle.sound_records.proofs.blank.record.Given as goal

abbrev pub invariant-loop-k : goal.invariant-loop-k
invariant-loop-k l = (l.k ≤ 64) × (eqb l.all 0 ≡ zerosb l.r 0 l.k)

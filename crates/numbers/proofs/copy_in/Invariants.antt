-- `numbers::copy_in` writes a splice of src. The invariant: after j turns the first j bytes of src are written.
use Prim.Native.Nat.{◌≤◌}
use mathlib.Core.Path.{◌≡◌}
use lib.ListN.{length, take}
use Rattle.laws.specs.Lists.{splice}
use Rattle.numbers.proofs.copy_in.Given as goal

abbrev pub invariant-loop-j : goal.invariant-loop-j
invariant-loop-j l = ((l.j ≤ length l.src) × (length l.dst ≡ length l.initial.dst)) × (l.dst ≡ splice l.initial.dst l.at (take l.j l.src))

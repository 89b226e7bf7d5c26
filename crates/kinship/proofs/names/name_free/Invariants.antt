-- `names::name_free`: the invariant is that no record passed has the name.
use Prim.Native.Nat.{◌≤◌}
use mathlib.Core.Path.{◌≡◌}
use mathlib.Core.Bool.{true}
use Rattle.sound.specs.Table.{view_at}
use Rattle.kinship.proofs.Sameness.{free_up_to}
use Rattle.kinship.proofs.names.name_free.Given as goal

abbrev pub invariant-loop-s : goal.invariant-loop-s
invariant-loop-s l = (l.s ≤ l.n) × (free_up_to (view_at l.image) l.name l.s ≡ true)

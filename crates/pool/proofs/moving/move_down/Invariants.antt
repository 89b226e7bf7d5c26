-- `moving::move_down`: after j turns the first j bytes are copied.
use Prim.Native.Nat.{◌≤◌}
use mathlib.Core.Path.{◌≡◌}
use lib.ListN.{length}
use Rattle.pool.proofs.Downs.{Copied}
use Rattle.pool.proofs.moving.move_down.Given as goal

abbrev pub invariant-loop-j : goal.invariant-loop-j
invariant-loop-j l = ((l.j ≤ l.size) × (length l.pool ≡ length l.initial.pool)) × Copied l.initial.pool l.pool l.from l.to l.j

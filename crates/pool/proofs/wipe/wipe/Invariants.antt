-- `wipe::wipe`: the marked bodies of the slots below s are zeroed, and no other byte is changed.
use Prim.Native.Nat.{◌≤◌}
use mathlib.Core.Path.{◌≡◌}
use lib.Dec.{eqb}
use lib.ListN.{length, get_or}
use Rattle.pool.specs.Bodies.{start_at, body_at}
use Rattle.pool.specs.Wiped.{wipe_below}
use Rattle.pool.proofs.wipe.wipe.Given as goal

abbrev pub invariant-loop-s : goal.invariant-loop-s
invariant-loop-s l =
    ((l.s ≤ l.n) × (length l.pool ≡ length l.initial.pool)) × (l.pool ≡ wipe_below l.s (λ k. eqb (get_or l.marks k 0) 1) (start_at l.image) (body_at l.image) l.initial.pool)

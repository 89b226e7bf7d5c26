-- `erase::clear_chosen`: the invariant is that the marked records below s are cleared, and no other.
use Prim.Native.Nat.{◌≤◌}
use mathlib.Core.Path.{◌≡◌}
use lib.Dec.{eqb}
use lib.ListN.{length, get_or}
use Rattle.sound.specs.Effects.{clear_below}
use Rattle.effect.proofs.erase.clear_chosen.Given as goal

abbrev pub invariant-loop-s : goal.invariant-loop-s
invariant-loop-s l =
    ((l.s ≤ l.n) × (length l.image ≡ length l.initial.image)) × (l.image ≡ clear_below l.s (λ k. eqb (get_or l.marks k 0) 1) l.initial.image)

-- `numbers::zero_out` writes a splice of n zeros.
use mathlib.Core.Path.{ap, ◌∙◌}
use native.Mathlib.Omega.{arith}
use Prim.Native.Nat.{ℕ}
use lib.ListN.{replicate, length-replicate, length-take, length-drop}
use Rattle.numbers.proofs.Writing.{put_mid-splice}
use Rattle.numbers.proofs.zero_out.Goals as goal

pub returns : goal.returns
returns c =
    put_mid-splice _ _ _ _ _
    (c.fill.ensures.after (λ y e. e) ∙ ap (λ (k : ℕ). replicate k 0) (rw (length-take, length-drop) (omega arith)))
    (rw length-replicate (omega arith))

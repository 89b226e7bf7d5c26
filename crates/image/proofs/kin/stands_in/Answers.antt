-- `kin::stands_in`: no parent slot is a number of more than two bytes; else its bytes are those of d.
use Prim.Native.Nat.{◌<◌}
use mathlib.Core.Path.{◌≡◌, ap, ◌∙◌}
use native.Mathlib.Omega.{arith}
use Rattle.image.specs.Kin.{turned}
use Rattle.image.proofs.Words.{never_in, in_or-not}
use Rattle.image.proofs.kin.stands_in.Goals as goal

pub returns-in-Ok : goal.returns-in-Ok
returns-in-Ok c =
    let h : (c.args.d < 65536) × (c.in-Ok.d ≡ c.args.d) = c.in-Ok.ensures in
    let read = c.turned_at-parent.ensures in
    in_or-not _ _ _ read.0 read.1 _ _ (c.turned.ensures ∙ ap turned h.1) (omega (arith, h.0))

pub returns-in-Err : goal.returns-in-Err
returns-in-Err c =
    let h : c.args.d < 65536 → ⊥ = c.in-Err.ensures in
    let read = c.turned_at-parent.ensures in
    never_in _ _ _ read.0 read.1 _ (omega (arith, h))

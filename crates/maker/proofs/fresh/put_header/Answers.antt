-- `fresh::put_header`: eight writes, each where the one before ended.
use Prim.Native.Nat.{◌≤◌}
use mathlib.Core.Path.{refl}
use native.Mathlib.Omega.{arith}
use lib.ListN.{length}
use Rattle.laws.proofs.Splices.{splice-step}
use Rattle.sound.specs.Effects.{fresh_header}
use Rattle.maker.proofs.fresh.put_header.Goals as goal

pub returns : goal.returns
unfolding fresh_header
returns c =
    let p : 16 ≤ length
    c.args.image.now =
    c.requires in
    splice-step _ _ _ _ _ _ _
    (splice-step _ _ _ _ _ _ _
    (splice-step _ _ _ _ _ _ _
    (splice-step _ _ _ _ _ _ _
    (splice-step _ _ _ _ _ _ _
    (splice-step _ _ _ _ _ _ _
    (splice-step _ _ _ _ _ _ _
    c.put8.ensures
    (omega arith) refl
    c.put8-2.ensures)
    (omega arith) refl
    c.put8-3.ensures)
    (omega arith) refl
    c.put16.ensures)
    (omega arith) refl
    c.put16-2.ensures)
    (omega arith) refl c.put16-3.ensures)
    (omega arith) refl c.put16-4.ensures)
    (omega arith) refl c.zero_out.ensures

-- `write::put_head` writes 16 bytes, number by number: each write starts where the one before ended.
use Prim.Native.Nat.{◌+◌, ◌≤◌}
use mathlib.Core.Path.{refl}
use native.Mathlib.Omega.{arith}
use lib.ListN.{length}
use Rattle.laws.proofs.Splices.{splice-step}
use Rattle.image.specs.Layout.{head_bytes}
use Rattle.image.proofs.write.put_head.Goals as goal

pub overflow_add-at-8 : goal.overflow_add-at-8
overflow_add-at-8 c =
    omega (
      arith,
      c,
    )

pub returns : goal.returns
unfolding head_bytes
returns c =
    let start =
    c in
    let p : start.args.at + 16 ≤ length start.args.image.now = start.requires in
    splice-step _ _ _ _ _ _ _
    (splice-step _ _ _ _ _ _ _
    (splice-step _ _ _ _ _ _ _
    (splice-step _ _ _ _ _ _ _
    (splice-step _ _ _ _ _ _ _
    (splice-step _ _ _ _ _ _ _
    (splice-step _ _ _ _ _ _ _
    (splice-step _ _ _ _ _ _ _
    c.put8.ensures
    (omega arith) refl
    c.put8-2.ensures)
    (omega arith) refl
    c.put8-3.ensures)
    (omega arith) refl
    c.put8-4.ensures)
    (omega arith) refl
    c.put16.ensures)
    (omega arith) refl
    c.put16-2.ensures)
    (omega arith) refl c.put16-3.ensures)
    (omega arith) refl c.put16-4.ensures)
    (omega arith) refl c.put32.ensures

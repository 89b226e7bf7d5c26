-- `write::put_field` writes a length, so many bytes and the zeros after them.
use Prim.Native.Nat.{◌+◌, ◌≤◌}
use mathlib.Core.Path.{refl}
use native.Mathlib.Omega.{arith}
use lib.ListN.{length}
use Rattle.laws.proofs.Splices.{splice-step}
use Rattle.image.specs.Layout.{field}
use Rattle.image.proofs.write.put_field.Goals as goal

pub returns : goal.returns
unfolding field
returns c =
    let start = c in
    let p : start.args.at + 1 + start.args.most ≤ length start.args.image.now = start.requires.0 in
    let q : length start.args.v.now ≤ start.args.most = start.requires.1.0 in
    splice-step _ _ _ _ _ _ _
    (splice-step _ _ _ _ _ _ _
    c.put8.ensures
    (omega arith) refl c.copy_in.ensures)
    (omega arith) (omega arith) c.zero_out.ensures

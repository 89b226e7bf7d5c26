-- `placing::fill`: the bytes of the part are written over.
use Prim.Native.Nat.{ℕ, ◌+◌, ◌-◌, ◌≤◌}
use mathlib.Core.Path.{◌≡◌, refl, sym, ap, ◌∙◌}
use mathlib.Core.List.{List}
use native.Mathlib.Omega.{arith}
use lib.ListN.{replicate, length-replicate}
use Rattle.std.proofs.lemmas.Slice.{put_mid-paste}
use Rattle.laws.specs.Lists.{splice}
use Rattle.pool.proofs.Fills.{filled_part, pasted}
use Rattle.pool.proofs.placing.fill.Goals as goal

pub returns : goal.returns
returns c =
    let l = c.args.pool.now in
    let at = c.args.at in
    let end = at + c.args.m in
    let bytes : List ℕ = replicate (end - at) 255 in
    let low : at ≤ end = omega arith in
    let m : end - at ≡ c.args.m = omega arith in
    let y = filled_part l at end 255 c.fill.new.self low c.requires (c.fill.ensures.after (λ y h. h)) in
    put_mid-paste at _ l c.fill.new.self bytes (end - at) y refl (sym (length-replicate (end - at) 255))
    ∙ pasted l at (end - at) 255
    ∙ ap (λ (k : ℕ). splice l at (replicate k 255)) m

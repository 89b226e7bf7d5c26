use Prim.Native.Nat.{ℕ, ◌+◌, ◌-◌, ◌≤◌}
use mathlib.Core.Path.{refl, sym, ◌∙◌}
use mathlib.Core.List.{List}
use native.Mathlib.Omega.{arith}
use lib.ListN.{length, replicate, length-replicate, length-set}
use borrow.Author.Rules.{rules}
use Rattle.std.proofs.lemmas.Slice.{put_mid-paste}
use Rattle.pool.proofs.Downs.{down_stayed, copied_none, copied_more, copied-end, down_is}
use Rattle.pool.proofs.Fills.{filled_part, pasted}
use Rattle.pool.proofs.moving.move_down.Goals as goal

pub returns-then-from-to : goal.returns-then-from-to
returns-then-from-to c = search down_stayed

pub loop-j-init : goal.loop-j-init
loop-j-init c = (search rules, copied_none _ _ _)

pub loop-j-preserved : goal.loop-j-preserved
loop-j-preserved c = (simp length-set (search rules), copied_more _ _ _ _ _ (search rules) (omega arith) c.loop-j.invariant.1)

pub returns : goal.returns
returns c =
    let l = c.args.pool.now in
    let x = c.loop-j.pool in
    let left = c.max-left.result in
    let end = c.args.from + c.args.size in
    let copied = copied-end _ _ _ _ _ c.args.size (search rules) (search rules) c.loop-j.invariant.1 in
    let room : end ≤ length x = omega (arith, copied.long) in
    let low : left ≤ end = omega (arith, c.max-left.ensures) in
    let zeros : List ℕ = replicate (end - left) 0 in
    let y = filled_part x left end 0 c.fill.new.self low room (c.fill.ensures.after (λ y h. h)) in
    put_mid-paste left _ x c.fill.new.self zeros (end - left) y refl (sym (length-replicate (end - left) 0))
    ∙ pasted x left (end - left) 0
    ∙ down_is l c.args.from c.args.to c.args.size (search rules) (search rules) x copied left c.max-left.ensures

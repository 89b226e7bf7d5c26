-- Lines behind a place: what the pieces that are written make together.
use mathlib.Core.Path.{◌≡◌, sym, ◌∙◌}
use mathlib.Core.Bool.{Bool, true, false, cond}
use mathlib.Core.List.{List, [], ◌∷◌}
use Prim.Native.Nat.{ℕ, ◌+◌, ◌≤◌}
use native.Mathlib.Omega.{arith}
use lib.Dec.{eqb}
use lib.ListN.{length}
use Rattle.text.specs.Written.{WroteAt, Wrote}
use Rattle.text.proofs.Written.{nothing_written, same-room}
use Rattle.create_data.specs.Data.{is_template}
use Rattle.objects_text.specs.Lines.{mark_line, end, break, head}
use Rattle.objects_text.specs.Listing.{stop_at, head_of}

-- behind a mark of eight bytes 19 are left of 27
pub mark_room : {put m : ℕ} {o x : List ℕ} (at a b c d : ℕ) → WroteAt put m o x (mark_line at (a ∷ b ∷ 32 ∷ c ∷ d ∷ []))
    → put + 27 ≤ length o → m + 19 ≤ length x
unfolding mark_line
mark_room at a b c d w h = omega (arith, w.long, same-room _ w)

pub head-right : (s o : List ℕ) {t : Bool} → t ≡ is_template s → t ≡ true → Wrote 0 o o (head_of s)
unfolding head_of
head-right s o e f = rw (sym e ∙ f) (nothing_written 0 o (omega arith))

-- neither is long
pub stop_short : (s : List ℕ) (at : ℕ) → length (stop_at s at) ≤ 9
unfolding stop_at mark_line
stop_short s at = go (eqb at (length s))
  where
    go : (b : Bool) → length (mark_line at (cond b end break)) ≤ 9
    go true = omega arith
    go false = omega arith

pub head_little : {r : ℕ} {o y : List ℕ} (s : List ℕ) → Wrote r o y (head_of s) → r ≤ 10
unfolding head_of mark_line
head_little {r} s w = go (is_template s) w.long
  where
    go : (b : Bool) → r ≡ 0 + length (cond b [] (mark_line 0 head)) → r ≤ 10
    go true e = omega arith
    go false e = omega arith

-- How CREATE reads the data, as a line, and the whole text.
use native.Mathlib.Omega.{arith}
use mathlib.Core.Path.{◌≡◌, sym, subst}
use mathlib.Core.Bool.{Bool, true, false, cond}
use mathlib.Core.List.{List, ◌++◌}
use Prim.Native.Nat.{ℕ, zero, suc, ◌<◌, ◌≤◌}
use lib.Dec.{eqb}
use lib.ListN.{length, get_or}
use borrow.Author.Tests.{lt-ltb, le-ltb}
use Rattle.template.specs.declared.Object.{Object}
use Rattle.template.specs.declared.Objects.{Objects}
use Rattle.std.specs.Prelude.{Option, Some, None}
use Rattle.template.specs.Objects.{object_at, order, noted, on_tag, taken_at, taken_below, objects_of}
use Rattle.template.proofs.Holding.{Inside, inside}
use Rattle.text.specs.Written.{WroteAt, Wrote, big}
use Rattle.text.proofs.Written.{written_on}
use Rattle.objects_text.specs.Listing.{lines_from, head_of, reading_of, list_of}

-- the place up to which CREATE takes the objects fits two digits
module _ (s : List ℕ) (h : length s < 256) where
  next-on : (o : Objects) (k at : ℕ) (r : Option Object) → Inside s at r → o.next < 256 → (on_tag o k r).next < 256
  next-on o k at None i p = p
  next-on o k at (Some x) i p = go (eqb x.tag (get_or order k 0))
    where
      go : (b : Bool) → (cond b (noted o k x.value) o).next < 256
      go true = omega (arith, i.3)
      go false = p

  next-below : (n : ℕ) → (taken_below n s).next < 256
  unfolding taken_below taken_at
  next-below zero = omega arith
  next-below (suc n) =
      next-on (taken_below n s) n (taken_below n s).next (object_at s (taken_below n s).next) (inside s (taken_below n s).next)
      (next-below n)

  pub next_small : (o : Objects) → o ≡ objects_of s → o.next < 256
  unfolding objects_of
  next_small o e = subst (λ (x : Objects). x.next < 256) (sym e) (next-below 12)

-- the two ways of `write`
pub too_big : {m : ℕ} {x y : List ℕ} (s : List ℕ) → 255 < length s → Wrote m x y big → Wrote m x y (list_of s)
unfolding list_of
too_big s h w = rw (lt-ltb 255 (length s) h) w

pub all_told : {a b c : ℕ} {o x y z : List ℕ} (s : List ℕ) → length s ≤ 255 → Wrote a o x (head_of s)
    → WroteAt a b x y (lines_from (length s) s 2) → WroteAt b c y z (reading_of s) → Wrote c o z (list_of s)
unfolding list_of
all_told s h f g k =
    rw (le-ltb 255 (length s) h)
    (written_on (head_of s ++ lines_from (length s) s 2) (written_on (head_of s) f (lines_from (length s) s 2) g) (reading_of s) k)

-- The image with other starts: bodies are as long as they were; a start that is set twice; and an image is its header and its records.
use mathlib.Core.Path.{◌≡◌, refl, sym, ap, ◌∙◌}
use mathlib.Core.List.{List}
use mathlib.Core.Logic.{◌⊎◌, inl, inr}
use Prim.Native.Nat.{ℕ, ◌+◌, ◌-◌, ◌/◌, ◌%◌, ◌<◌, ◌≤◌}
use native.Mathlib.Omega.{arith}
use lib.ListN.{length, get_or}
use lib.Seq.{ext_get_or}
use Rattle.laws.proofs.Splices.{get_or-part, get_or-splice_in}
use Rattle.laws.proofs.Says.{lt-or}
use Rattle.numbers.specs.Numbers.{be16}
use Rattle.image.specs.Layout.{base, Sized, version_of, rec_at, with_start}
use Rattle.image.proofs.Starts.{length-with, byte_kept, kind-kept, size-kept}
use Rattle.image.proofs.Headers.{SameHeader, same_front, same_version}
use Rattle.pool.specs.Bodies.{body_of, body_at}

pub body_kept : (v : ℕ) (r : List ℕ) (x : ℕ) → length r ≡ 64 → body_of v (with_start r x) ≡ body_of v r
unfolding body_of
body_kept v r x whole = rw (kind-kept r x whole, size-kept r x whole)

-- headers that are the same: in one step, in two
pub header_refl : (a : List ℕ) → SameHeader a a
header_refl a = record { long = refl; bytes = λ k l. refl }

pub header_trans : (a b c : List ℕ) → SameHeader a b → SameHeader b c → SameHeader a c
header_trans a b c f g = record { long = g.long ∙ f.long; bytes = λ k l. g.bytes k l ∙ f.bytes k l }

-- a body's size goes by the version and the record
pub same-body-size : (a b : List ℕ) (t : ℕ) → SameHeader a b → body_of (version_of a) (rec_at b t) ≡ body_at a t → body_at b t ≡ body_at a t
unfolding body_at
same-body-size a b t h e = ap (λ (v : ℕ). body_of v (rec_at b t)) (same_version a b (same_front a b h)) ∙ e

-- an image is its header and its records: x and y have those of a
module _ (a x y : List ℕ) (n : ℕ) (sized : Sized x n) (f : SameHeader a x) (g : SameHeader a y)
    (each : (t : ℕ) → t < n → rec_at x t ≡ rec_at y t) where
  one : (i : ℕ) → i < length x → (i < 16) ⊎ (16 ≤ i) → get_or x i 0 ≡ get_or y i 0
  unfolding rec_at
  one i l (inl k) = f.bytes i k ∙ sym (g.bytes i k)
  one i l (inr k) =
      let s = (i - 16) / 64 in
      let j = (i - 16) % 64 in
      let e : base s + j ≡ i = omega arith in
      ap (λ (u : ℕ). get_or x u 0) (sym e)
      ∙ sym (get_or-part x (base s) 64 j (omega arith))
      ∙ ap (λ (u : List ℕ). get_or u j 0) (each s (omega (arith, sized.long)))
      ∙ get_or-part y (base s) 64 j (omega arith)
      ∙ ap (λ (u : ℕ). get_or y u 0) e

  pub same-image : x ≡ y
  same-image = ext_get_or 0 x y (f.long ∙ sym g.long) (λ i l. one i l (lt-or i 16))

-- a start that is set twice
pub with_twice : (r : List ℕ) (x : ℕ) → length r ≡ 64 → with_start (with_start r x) x ≡ with_start r x
unfolding with_start
with_twice r x whole =
    ext_get_or 0 (with_start (with_start r x) x) (with_start r x)
    (length-with (with_start r x) x (length-with r x whole) ∙ sym (length-with r x whole))
    (λ k l. one k (lt-or k 62) (rw (length-with (with_start r x) x (length-with r x whole)) at l))
  where
    one : (k : ℕ) → (k < 62) ⊎ (62 ≤ k) → k < 64 → get_or (with_start (with_start r x) x) k 0 ≡ get_or (with_start r x) k 0
    one k (inl h) l = byte_kept (with_start r x) x (length-with r x whole) k h
    one k (inr h) l =
        let f : 62 + (k - 62) ≡ k = omega arith in
        ap (λ (i : ℕ). get_or (with_start (with_start r x) x) i 0) (sym f)
        ∙ get_or-splice_in (with_start r x) 62 (be16 x) (omega (arith, length-with r x whole)) (k - 62) (omega arith)
        ∙ sym (get_or-splice_in r 62 (be16 x) (omega arith) (k - 62) (omega arith))
        ∙ ap (λ (i : ℕ). get_or (with_start r x) i 0) f

-- Writes into bodies: one that stays within a body changes that body alone, as a write into its bytes; a new body changes no other.
use mathlib.Core.Path.{◌≡◌, sym, ap, ◌∙◌}
use mathlib.Core.List.{List, [], ◌∷◌}
use mathlib.Core.Bool.{true}
use mathlib.Core.Logic.{◌⊎◌, inl, inr, ⊎_elim}
use Prim.Native.Nat.{ℕ, ◌+◌, ◌-◌, ◌<◌, ◌≤◌}
use native.Mathlib.Omega.{arith}
use lib.ListN.{length, get_or, replicate, length-replicate}
use lib.Seq.{ext_get_or}
use Rattle.laws.specs.Lists.{part, splice}
use Rattle.laws.proofs.Splices.{splice-nil, length-splice, get_or-splice_in, get_or-splice_below, get_or-splice_above, length_part, get_or-part}
use Rattle.laws.proofs.Splices.{part-splice, part-splice-other}
use Rattle.laws.proofs.Says.{lt-or}
use Rattle.pool.specs.Laid.{Laid}
use Rattle.pool.specs.Gaps.{fits}
use Rattle.pool.proofs.Clears.{fits_gives}

-- a write within a part is a write into the part
pub part-splice-within : (l : List ℕ) (at n k : ℕ) (d : List ℕ) → at + n ≤ length l → k + length d ≤ n
    → part (splice l (at + k) d) at n ≡ splice (part l at n) k d
part-splice-within l at n k d room fit =
    ext_get_or 0 (part (splice l (at + k) d) at n) (splice (part l at n) k d)
    (cut ∙ sym (length-splice (part l at n) k d (omega (arith, whole)) ∙ whole))
    (λ i h. byte i (rw cut at h) (lt-or i k) (lt-or i (k + length d)))
  where
    whole : length (part l at n) ≡ n
    whole = length_part l at n room

    cut : length (part (splice l (at + k) d) at n) ≡ n
    cut = length_part (splice l (at + k) d) at n (omega (arith, length-splice l (at + k) d (omega arith)))

    byte : (i : ℕ) → i < n → (i < k) ⊎ (k ≤ i) → (i < k + length d) ⊎ (k + length d ≤ i)
        → get_or (part (splice l (at + k) d) at n) i 0 ≡ get_or (splice (part l at n) k d) i 0
    byte i h (inl x) y =
        get_or-part (splice l (at + k) d) at n i h
        ∙ get_or-splice_below l (at + k) d (omega arith) (at + i) (omega arith)
        ∙ sym (get_or-part l at n i h)
        ∙ sym (get_or-splice_below (part l at n) k d (omega (arith, whole)) i x)
    byte i h (inr x) (inr y) =
        get_or-part (splice l (at + k) d) at n i h
        ∙ get_or-splice_above l (at + k) d (omega arith) (at + i) (omega arith)
        ∙ sym (get_or-part l at n i h)
        ∙ sym (get_or-splice_above (part l at n) k d (omega (arith, whole)) i y)
    byte i h (inr x) (inl y) =
        let e : at + i ≡ at + k + (i - k) = omega arith in
        let f : k + (i - k) ≡ i = omega arith in
        get_or-part (splice l (at + k) d) at n i h
        ∙ ap (λ (j : ℕ). get_or (splice l (at + k) d) j 0) e
        ∙ get_or-splice_in l (at + k) d (omega arith) (i - k) (omega arith)
        ∙ sym (get_or-splice_in (part l at n) k d (omega (arith, whole)) (i - k) (omega arith))
        ∙ ap (λ (j : ℕ). get_or (splice (part l at n) k d) j 0) f

-- a part of no bytes
part_none : (l m : List ℕ) (at n : ℕ) → n ≡ 0 → part l at n ≡ part m at n
unfolding part
part_none l m at n e = rw e

module _ (n : ℕ) (a z : ℕ → ℕ) (pool : List ℕ) (laid : Laid n a z (length pool)) where
  -- UPDATE: d is written from byte k of the body of s on
  pub body_updated : (s k : ℕ) (d : List ℕ) → s < n → k + length d ≤ z s
      → part (splice pool (a s + k) d) (a s) (z s) ≡ splice (part pool (a s) (z s)) k d
  body_updated s k [] l h = ap (λ (x : List ℕ). part x (a s) (z s)) (splice-nil pool (a s + k)) ∙ sym (splice-nil (part pool (a s) (z s)) k)
  body_updated s k (x ∷ d) l h = part-splice-within pool (a s) (z s) k (x ∷ d) (laid.inside s l (omega arith)) h

  pub other_updated : (s k : ℕ) (d : List ℕ) → s < n → k + length d ≤ z s → (t : ℕ) → t < n → (t ≡ s → ⊥)
      → part (splice pool (a s + k) d) (a t) (z t) ≡ part pool (a t) (z t)
  other_updated s k [] l h t j e = ap (λ (x : List ℕ). part x (a t) (z t)) (splice-nil pool (a s + k))
  other_updated s k (x ∷ d) l h t j e =
      ⊎_elim (λ y. some y (lt-or (a s) (a t))) (λ y. part_none (splice pool (a s + k) (x ∷ d)) pool (a t) (z t) (omega arith))
      (lt-or 0 (z t))
    where
      own : 0 < z s
      own = omega arith

      some : 0 < z t → (a s < a t) ⊎ (a t ≤ a s) → part (splice pool (a s + k) (x ∷ d)) (a t) (z t) ≡ part pool (a t) (z t)
      some y (inl i) =
          part-splice-other pool (a s + k) (x ∷ d) (a t) (z t) (omega (arith, laid.inside s l own)) (laid.inside t j y)
          (inr (omega (arith, laid.apart s t l j own y (omega arith) (λ u. e (sym u)))))
      some y (inr i) =
          part-splice-other pool (a s + k) (x ∷ d) (a t) (z t) (omega (arith, laid.inside s l own)) (laid.inside t j y)
          (inl (omega (arith, laid.apart t s j l y own i e)))

  -- a new body of m bytes FF, in a place that was free
  module _ (p m : ℕ) (room : p + m ≤ length pool) where
    long : length {A = ℕ} (replicate m 255) ≡ m
    long = length-replicate m 255

    pub new_reads : part (splice pool p (replicate m 255)) p m ≡ replicate m 255
    new_reads =
        ap (λ (k : ℕ). part (splice pool p (replicate m 255)) p k) (sym long) ∙ part-splice pool p (replicate m 255) (omega (arith, long))

    pub other_new : fits n a z m p ≡ true → (t : ℕ) → t < n → part (splice pool p (replicate m 255)) (a t) (z t) ≡ part pool (a t) (z t)
    other_new free t l =
        ⊎_elim some (λ y. part_none (splice pool p (replicate m 255)) pool (a t) (z t) (omega arith)) (lt-or 0 (z t))
      where
        some : 0 < z t → part (splice pool p (replicate m 255)) (a t) (z t) ≡ part pool (a t) (z t)
        some y =
            part-splice-other pool p (replicate m 255) (a t) (z t) (omega (arith, long)) (laid.inside t l y)
            (⊎_elim (λ h. inl h) (λ h. inr (omega (arith, long))) (fits_gives n a z m p free t l y))

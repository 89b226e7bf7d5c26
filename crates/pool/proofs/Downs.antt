-- One body moved down: each byte afterwards; a body that stays; a copy, and zeros over what it left.
use mathlib.Core.Path.{◌≡◌, refl, sym, ap, ◌∙◌}
use mathlib.Core.List.{List}
use mathlib.Core.Logic.{◌⊎◌, inl, inr, ⊎_elim}
use Prim.Native.Nat.{ℕ, ◌+◌, ◌-◌, ◌<◌, ◌≤◌, max}
use native.Mathlib.Omega.{arith}
use lib.ListN.{length, get_or, set, replicate, length-replicate, get_or-replicate, length-set}
use lib.Seq.{ext_get_or, get_or-set_same, get_or-set_other}
use Rattle.laws.specs.Lists.{part, splice}
use Rattle.laws.proofs.Splices.{length-splice, get_or-splice_in, get_or-splice_below, get_or-splice_above, length_part, get_or-part}
use Rattle.laws.proofs.Says.{same_or, lt-or}
use Rattle.pool.specs.Packed.{move_down}

module _ (l : List ℕ) (from to m : ℕ) (down : to ≤ from) (fits : from + m ≤ length l) where
  long : length {A = ℕ} (replicate m 0) ≡ m
  long = length-replicate m 0

  cut : length (part l from m) ≡ m
  cut = length_part l from m fits

  wiped : length (splice l from (replicate m 0)) ≡ length l
  wiped = length-splice l from (replicate m 0) (omega (arith, long))

  pub length_down : length (move_down l from to m) ≡ length l
  unfolding move_down
  length_down = length-splice (splice l from (replicate m 0)) to (part l from m) (omega (arith, wiped, cut)) ∙ wiped

  -- the body, at its new place
  pub down_body : (k : ℕ) → k < m → get_or (move_down l from to m) (to + k) 0 ≡ get_or l (from + k) 0
  unfolding move_down
  down_body k h =
      get_or-splice_in (splice l from (replicate m 0)) to (part l from m) (omega (arith, wiped, cut)) k (omega (arith, cut))
      ∙ get_or-part l from m k h

  outside : (q : ℕ) → (q < to) ⊎ (to + m ≤ q) → get_or (move_down l from to m) q 0 ≡ get_or (splice l from (replicate m 0)) q 0
  unfolding move_down
  outside q (inl h) = get_or-splice_below (splice l from (replicate m 0)) to (part l from m) (omega (arith, wiped, cut)) q h
  outside q (inr h) =
      get_or-splice_above (splice l from (replicate m 0)) to (part l from m) (omega (arith, wiped, cut)) q (omega (arith, cut))

  -- what it left
  pub down_gone : (q : ℕ) → to + m ≤ q → from ≤ q → q < from + m → get_or (move_down l from to m) q 0 ≡ 0
  down_gone q h j k =
      let e : from + (q - from) ≡ q = omega arith in
      outside q (inr h)
      ∙ ap (λ (i : ℕ). get_or (splice l from (replicate m 0)) i 0) (sym e)
      ∙ get_or-splice_in l from (replicate m 0) (omega (arith, long)) (q - from) (omega (arith, long))
      ∙ get_or-replicate m (q - from) 0 0 (omega arith)

  -- all other bytes
  pub down_low : (q : ℕ) → q < to → get_or (move_down l from to m) q 0 ≡ get_or l q 0
  down_low q h = outside q (inl h) ∙ get_or-splice_below l from (replicate m 0) (omega (arith, long)) q (omega arith)

  pub down_between : (q : ℕ) → to + m ≤ q → q < from → get_or (move_down l from to m) q 0 ≡ get_or l q 0
  down_between q h k = outside q (inr h) ∙ get_or-splice_below l from (replicate m 0) (omega (arith, long)) q k

  pub down_high : (q : ℕ) → from + m ≤ q → get_or (move_down l from to m) q 0 ≡ get_or l q 0
  down_high q h = outside q (inr (omega arith)) ∙ get_or-splice_above l from (replicate m 0) (omega (arith, long)) q (omega (arith, long))

-- a body that stays
pub down_stays : (l : List ℕ) (from m : ℕ) → from + m ≤ length l → move_down l from from m ≡ l
down_stays l from m fits =
    ext_get_or 0 (move_down l from from m) l (length_down l from from m (omega arith) fits) (λ q h. at q (lt-or q from) (lt-or q (from + m)))
  where
    at : (q : ℕ) → (q < from) ⊎ (from ≤ q) → (q < from + m) ⊎ (from + m ≤ q) → get_or (move_down l from from m) q 0 ≡ get_or l q 0
    at q (inl h) k = down_low l from from m (omega arith) fits q h
    at q (inr h) (inr k) = down_high l from from m (omega arith) fits q k
    at q (inr h) (inl k) =
        let e : from + (q - from) ≡ q = omega arith in
        rw e at (down_body l from from m (omega arith) fits (q - from) (omega arith))

-- .. as the code asks
pub down_stayed : (l : List ℕ) (from to m : ℕ) → from + m ≤ length l → from ≡ to → l ≡ move_down l from to m
down_stayed l from to m fits e = rw (← e) (sym (down_stays l from m fits))

-- x is the list with the first j bytes of the body copied
pub record Copied (l x : List ℕ) (from to j : ℕ) : Type 0 where
  pub long : length x ≡ length l
  pub body : (k : ℕ) → to ≤ k → k < to + j → get_or x k 0 ≡ get_or l (from + (k - to)) 0
  pub low : (k : ℕ) → k < to → get_or x k 0 ≡ get_or l k 0
  pub high : (k : ℕ) → to + j ≤ k → get_or x k 0 ≡ get_or l k 0

pub copied_none : (l : List ℕ) (from to : ℕ) → Copied l l from to 0
copied_none l from to =
    record { long = refl; body = λ k a b. absurd (omega (arith, a, b)); low = λ k a. refl; high = λ k a. refl }

-- one more, from above what has been written
pub copied_more : (l x : List ℕ) (from to j : ℕ) → to ≤ from → to + j < length x → Copied l x from to j
    → Copied l (set x (to + j) (get_or x (from + j) 0)) from to (j + 1)
copied_more l x from to j down room c =
    record {
      long = length-set x (to + j) (get_or x (from + j) 0) ∙ c.long;
      body = λ k a b. at k a b (same_or k (to + j));
      low = λ k a. other k (λ e. omega (arith, a, e)) ∙ c.low k a;
      high = λ k a. other k (λ e. omega (arith, a, e)) ∙ c.high k (omega (arith, a));
    }
  where
    y : List ℕ
    y = set x (to + j) (get_or x (from + j) 0)

    other : (k : ℕ) → (k ≡ to + j → ⊥) → get_or y k 0 ≡ get_or x k 0
    other k n = get_or-set_other x (to + j) k (get_or x (from + j) 0) 0 n

    at : (k : ℕ) → to ≤ k → k < to + (j + 1) → (k ≡ to + j) ⊎ (k ≡ to + j → ⊥) → get_or y k 0 ≡ get_or l (from + (k - to)) 0
    at k a b (inl e) =
        let f : from + j ≡ from + (k - to) = omega (arith, e) in
        ap (λ (i : ℕ). get_or y i 0) e
        ∙ get_or-set_same x (to + j) (get_or x (from + j) 0) 0 room
        ∙ c.high (from + j) (omega (arith, down))
        ∙ ap (λ (i : ℕ). get_or l i 0) f
    at k a b (inr n) = other k n ∙ c.body k a (⊎_elim (λ z. z) (λ z. absurd (n (omega (arith, b, z)))) (lt-or k (to + j)))

pub copied-end : (l x : List ℕ) (from to j m : ℕ) → j ≤ m → m ≤ j → Copied l x from to j → Copied l x from to m
copied-end l x from to j m h k c = let e : j ≡ m = omega arith in rw e at c

-- x is the list with the body copied, `left` where what it left begins, and y has that zeroed
module _ (l : List ℕ) (from to m : ℕ) (down : to ≤ from) (fits : from + m ≤ length l) (x : List ℕ) (copied : Copied l x from to m)
    (left : ℕ) (e : left ≡ max from (to + m)) where
  pub down_is : splice x left (replicate (from + m - left) 0) ≡ move_down l from to m
  down_is =
      ext_get_or 0 y (move_down l from to m) (length-splice x left zeros room ∙ copied.long ∙ sym (length_down l from to m down fits))
      (λ q h. at q (lt-or q to) (lt-or q (to + m)) (lt-or q from) (lt-or q (from + m)))
    where
      zeros : List ℕ
      zeros = replicate (from + m - left) 0

      y : List ℕ
      y = splice x left zeros

      size : length zeros ≡ from + m - left
      size = length-replicate (from + m - left) 0

      room : left + length zeros ≤ length x
      room = omega (arith, size, copied.long, e)

      -- below what is left, and above it
      before : (q : ℕ) → q < left → get_or y q 0 ≡ get_or x q 0
      before q h = get_or-splice_below x left zeros room q h

      at : (q : ℕ) → (q < to) ⊎ (to ≤ q) → (q < to + m) ⊎ (to + m ≤ q) → (q < from) ⊎ (from ≤ q) → (q < from + m) ⊎ (from + m ≤ q)
          → get_or y q 0 ≡ get_or (move_down l from to m) q 0
      at q (inl a) b c d = before q (omega (arith, e)) ∙ copied.low q a ∙ sym (down_low l from to m down fits q a)
      at q (inr a) (inl b) c d =
          let f : to + (q - to) ≡ q = omega arith in
          before q (omega (arith, e)) ∙ copied.body q a b
          ∙ sym (ap (λ (i : ℕ). get_or (move_down l from to m) i 0) (sym f) ∙ down_body l from to m down fits (q - to) (omega arith))
      at q (inr a) (inr b) (inl c) d = before q (omega (arith, e)) ∙ copied.high q b ∙ sym (down_between l from to m down fits q b c)
      at q (inr a) (inr b) (inr c) (inl d) =
          let f : left + (q - left) ≡ q = omega (arith, e) in
          ap (λ (i : ℕ). get_or y i 0) (sym f)
          ∙ get_or-splice_in x left zeros room (q - left) (omega (arith, size, e))
          ∙ get_or-replicate (from + m - left) (q - left) 0 0 (omega (arith, e))
          ∙ sym (down_gone l from to m down fits q b c d)
      at q (inr a) (inr b) (inr c) (inr d) =
          get_or-splice_above x left zeros room q (omega (arith, size, e)) ∙ copied.high q b ∙ sym (down_high l from to m down fits q d)

-- DELETE's part in the pool: a turn of its loop, and what it leaves. Bodies that go read as zeros, bodies that stay read the same, and
-- every byte in no body that goes is as it was.
use mathlib.Core.Path.{◌≡◌, refl, sym, ap, ◌∙◌}
use mathlib.Core.List.{List}
use mathlib.Core.Bool.{Bool, true, false, not, false≢true}
use mathlib.Core.Logic.{◌⊎◌, inl, inr, ⊎_elim}
use Prim.Native.Nat.{ℕ, zero, suc, ◌+◌, ◌-◌, ◌<◌, ◌≤◌}
use native.Mathlib.Nat.{not-suc-le-zero}
use native.Mathlib.Numerals.{add-one}
use native.Mathlib.Omega.{arith}
use lib.ListN.{length, get_or, replicate, length-replicate, get_or-replicate}
use lib.Seq.{ext_get_or}
use borrow.Author.Tests.{not-true, not-false}
use Rattle.laws.specs.Lists.{part, splice}
use Rattle.laws.proofs.Splices.{splice-nil, length-splice, get_or-splice_in, get_or-splice_below, get_or-splice_above, length_part, get_or-part}
use Rattle.laws.proofs.Walks.{split_lt}
use Rattle.laws.proofs.Says.{lt-or}
use Rattle.pool.specs.Laid.{Laid}
use Rattle.pool.specs.Wiped.{EndsIn, wipe_if, wipe_below}

-- m zeros from `at` on, where there is room for them if there are any
module _ (l : List ℕ) (at m : ℕ) (room : 0 < m → at + m ≤ length l) where
  none : m ≡ 0 → splice l at (replicate m 0) ≡ l
  none e = ap (λ (k : ℕ). splice l at (replicate k 0)) e ∙ splice-nil l at

  long : length {A = ℕ} (replicate m 0) ≡ m
  long = length-replicate m 0

  length_zeroed : length (splice l at (replicate m 0)) ≡ length l
  length_zeroed =
      ⊎_elim (λ h. length-splice l at (replicate m 0) (omega (arith, long, room h))) (λ h. ap length (none (omega arith))) (lt-or 0 m)

  zeroed_here : (q : ℕ) → at ≤ q → q < at + m → get_or (splice l at (replicate m 0)) q 0 ≡ 0
  zeroed_here q h k =
      let e : at + (q - at) ≡ q = omega arith in
      ap (λ (i : ℕ). get_or (splice l at (replicate m 0)) i 0) (sym e)
      ∙ get_or-splice_in l at (replicate m 0) (omega (arith, long, room (omega arith))) (q - at) (omega (arith, long))
      ∙ get_or-replicate m (q - at) 0 0 (omega arith)

  zeroed_stays : (q : ℕ) → (at ≤ q → at + m ≤ q) → get_or (splice l at (replicate m 0)) q 0 ≡ get_or l q 0
  zeroed_stays q f = ⊎_elim (λ x. some x (lt-or q at)) (λ x. ap (λ (y : List ℕ). get_or y q 0) (none (omega arith))) (lt-or 0 m)
    where
      some : 0 < m → (q < at) ⊎ (at ≤ q) → get_or (splice l at (replicate m 0)) q 0 ≡ get_or l q 0
      some x (inl h) = get_or-splice_below l at (replicate m 0) (omega (arith, long, room x)) q h
      some x (inr h) = get_or-splice_above l at (replicate m 0) (omega (arith, long, room x)) q (omega (arith, long, f h))

  zero-kept : (q : ℕ) → get_or l q 0 ≡ 0 → get_or (splice l at (replicate m 0)) q 0 ≡ 0
  zero-kept q e = go (lt-or q at) (lt-or q (at + m))
    where
      go : (q < at) ⊎ (at ≤ q) → (q < at + m) ⊎ (at + m ≤ q) → get_or (splice l at (replicate m 0)) q 0 ≡ 0
      go (inl h) k = zeroed_stays q (λ j. omega arith) ∙ e
      go (inr h) (inr k) = zeroed_stays q (λ j. k) ∙ e
      go (inr h) (inl k) = zeroed_here q h k

module _ (a z : ℕ → ℕ) where
  -- one slot, as its code asks: r is the size that was read, f the start
  pub wipe_stays : (pool : List ℕ) (s : ℕ) (b : Bool) → not b ≡ true → pool ≡ wipe_if b a z pool s
  unfolding wipe_if
  wipe_stays pool s b e = rw (not-true b e)

  pub wipe_empty : (pool : List ℕ) (s : ℕ) (b : Bool) → not b ≡ false → (r : ℕ) → r ≡ z s → r ≡ 0 → pool ≡ wipe_if b a z pool s
  unfolding wipe_if
  wipe_empty pool s b e r f h = rw (not-false b e) (sym (none pool (a s) (z s) (λ x. absurd (omega arith)) (sym f ∙ h)))

  pub wipe_some : (pool new : List ℕ) (s : ℕ) (b : Bool) → not b ≡ false → (r f : ℕ) → r ≡ z s → f ≡ a s
      → new ≡ splice pool f (replicate r 0) → new ≡ wipe_if b a z pool s
  unfolding wipe_if
  wipe_some pool new s b e r f g h i = rw (not-false b e, ← g, ← h) i

  pub body-room : (s r f len : ℕ) → r ≡ z s → (r ≡ 0 → ⊥) → f ≡ a s → EndsIn a z len s → f + r ≤ len
  body-room s r f len g e h i = ⊎_elim (λ x. omega (arith, i.inside (omega arith))) (λ x. absurd (e (omega arith))) (lt-or 0 r)

  pub wipe_room : (n : ℕ) (x pool : List ℕ) → Laid n a z (length pool) → length x ≡ length pool → (s : ℕ) → s < n → EndsIn a z (length x) s
  wipe_room n x pool laid e s l = record { inside = λ h. omega (arith, laid.inside s l h) }

  -- the loop
  pub wipe_none : (p : ℕ → Bool) (pool : List ℕ) → wipe_below 0 p a z pool ≡ pool
  unfolding wipe_below
  wipe_none p pool = refl

  pub wipe_turn : (p : ℕ → Bool) (pool x y : List ℕ) (s : ℕ) → x ≡ wipe_below s p a z pool → y ≡ wipe_if (p s) a z x s
      → y ≡ wipe_below (s + 1) p a z pool
  unfolding wipe_below
  wipe_turn p pool x y s e f = f ∙ ap (λ (w : List ℕ). wipe_if (p s) a z w s) e ∙ sym (rw add-one)

  -- one slot of a pool in which its body ends
  module _ (x : List ℕ) (s : ℕ) (room : 0 < z s → a s + z s ≤ length x) where
    pub length-if : (b : Bool) → length (wipe_if b a z x s) ≡ length x
    unfolding wipe_if
    length-if true = length_zeroed x (a s) (z s) room
    length-if false = refl

    if_stays : (b : Bool) (q : ℕ) → (b ≡ true → a s ≤ q → a s + z s ≤ q) → get_or (wipe_if b a z x s) q 0 ≡ get_or x q 0
    unfolding wipe_if
    if_stays true q f = zeroed_stays x (a s) (z s) room q (f refl)
    if_stays false q f = refl

    if_here : (b : Bool) (q : ℕ) → b ≡ true → a s ≤ q → q < a s + z s → get_or (wipe_if b a z x s) q 0 ≡ 0
    unfolding wipe_if
    if_here true q e h k = zeroed_here x (a s) (z s) room q h k
    if_here false q e h k = absurd (false≢true e)

    if-zero : (b : Bool) (q : ℕ) → get_or x q 0 ≡ 0 → get_or (wipe_if b a z x s) q 0 ≡ 0
    unfolding wipe_if
    if-zero true q e = zero-kept x (a s) (z s) room q e
    if-zero false q e = e

-- What the bodies that go leave: those are the slots of which p holds
module _ (n : ℕ) (a z : ℕ → ℕ) (pool : List ℕ) (laid : Laid n a z (length pool)) (p : ℕ → Bool) where
  pub length-wiped : (k : ℕ) → k ≤ n → length (wipe_below k p a z pool) ≡ length pool
  unfolding wipe_below
  length-wiped zero h = refl
  length-wiped (suc k) h =
      let e : length (wipe_below k p a z pool) ≡ length pool = length-wiped k (omega arith) in
      length-if a z (wipe_below k p a z pool) k (λ x. omega (arith, laid.inside k h x)) (p k) ∙ e

  room : (k : ℕ) → k < n → 0 < z k → a k + z k ≤ length (wipe_below k p a z pool)
  room k l x = omega (arith, length-wiped k (omega arith), laid.inside k l x)

  -- a byte in no body that goes
  stays_below : (k : ℕ) → k ≤ n → (q : ℕ) → ((t : ℕ) → t < k → p t ≡ true → a t ≤ q → a t + z t ≤ q)
      → get_or (wipe_below k p a z pool) q 0 ≡ get_or pool q 0
  unfolding wipe_below
  stays_below zero h q f = refl
  stays_below (suc k) h q f =
      if_stays a z (wipe_below k p a z pool) k (room k h) (p k) q (f k (omega arith))
      ∙ stays_below k (omega arith) q (λ t l. f t (omega arith))

  -- a byte of a body that goes
  zero-below : (k : ℕ) → k ≤ n → (t : ℕ) → t < k → p t ≡ true → (q : ℕ) → a t ≤ q → q < a t + z t → get_or (wipe_below k p a z pool) q 0 ≡ 0
  unfolding wipe_below
  zero-below zero h t l e q i j = absurd (not-suc-le-zero l)
  zero-below (suc k) h t l e q i j =
      ⊎_elim here (λ m. if-zero a z (wipe_below k p a z pool) k (room k h) (p k) q (zero-below k (omega arith) t m e q i j)) (split_lt l)
    where
      here : t ≡ k → get_or (wipe_if (p k) a z (wipe_below k p a z pool) k) q 0 ≡ 0
      here m =
          if_here a z (wipe_below k p a z pool) k (room k h) (p k) q (sym (ap p m) ∙ e) (omega (arith, ap a m))
          (omega (arith, ap a m, ap z m))

  pub wiped_stays : (q : ℕ) → ((t : ℕ) → t < n → p t ≡ true → a t ≤ q → a t + z t ≤ q) → get_or (wipe_below n p a z pool) q 0 ≡ get_or pool q 0
  wiped_stays q f = stays_below n (omega arith) q f

  pub wiped-zero : (t : ℕ) → t < n → p t ≡ true → (q : ℕ) → a t ≤ q → q < a t + z t → get_or (wipe_below n p a z pool) q 0 ≡ 0
  wiped-zero t l e q h k = zero-below n (omega arith) t l e q h k

  -- a body that stays reads the same
  pub wiped-reads : (t : ℕ) → t < n → p t ≡ false → part (wipe_below n p a z pool) (a t) (z t) ≡ part pool (a t) (z t)
  unfolding part
  wiped-reads t l e = ⊎_elim some (λ x. empty (omega arith)) (lt-or 0 (z t))
    where
      empty : z t ≡ 0 → part (wipe_below n p a z pool) (a t) (z t) ≡ part pool (a t) (z t)
      empty x = rw x

      other : (q : ℕ) → 0 < z t → a t ≤ q → q < a t + z t → (s : ℕ) → s < n → p s ≡ true → a s ≤ q → a s + z s ≤ q
      other q x h k s j f i = ⊎_elim (λ y. beside y (lt-or (a s) (a t))) (λ y. omega arith) (lt-or 0 (z s))
        where
          differ : s ≡ t → ⊥
          differ m = false≢true (sym e ∙ sym (ap p m) ∙ f)

          beside : 0 < z s → (a s < a t) ⊎ (a t ≤ a s) → a s + z s ≤ q
          beside y (inl m) = omega (arith, laid.apart s t j l y x (omega arith) differ)
          beside y (inr m) = omega (arith, laid.apart t s l j x y m (λ u. differ (sym u)))

      some : 0 < z t → part (wipe_below n p a z pool) (a t) (z t) ≡ part pool (a t) (z t)
      some x =
          let r = laid.inside t l x in
          let cut : length (part (wipe_below n p a z pool) (a t) (z t)) ≡ z t =
          length_part (wipe_below n p a z pool) (a t) (z t) (omega (arith, length-wiped n (omega arith))) in
          ext_get_or 0 (part (wipe_below n p a z pool) (a t) (z t)) (part pool (a t) (z t)) (cut ∙ sym (length_part pool (a t) (z t) r))
          (λ k h. one k (rw cut at h))
        where
          one : (k : ℕ) → k < z t → get_or (part (wipe_below n p a z pool) (a t) (z t)) k 0 ≡ get_or (part pool (a t) (z t)) k 0
          one k h =
              get_or-part (wipe_below n p a z pool) (a t) (z t) k h
              ∙ wiped_stays (a t + k) (other (a t + k) x (omega arith) (omega arith))
              ∙ sym (get_or-part pool (a t) (z t) k h)

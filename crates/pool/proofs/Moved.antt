-- What moving down does to starts and gaps, over starts `a` and sizes `z`: the lowest gap afterwards; a body moves
-- exactly where a gap lies below it (Ticket 8); a second moving down changes nothing.
use mathlib.Core.Path.{◌≡◌, refl, sym, ap, ◌∙◌}
use mathlib.Core.Bool.{Bool, true, false, cond, not}
use mathlib.Core.Logic.{◌⊎◌, inl, inr, ⊎_elim}
use Prim.Native.Nat.{ℕ, zero, suc, ◌+◌, ◌-◌, ◌<◌, ◌≤◌}
use native.Mathlib.Omega.{arith}
use lib.Dec.{eqb, leb}
use borrow.Author.Tests.{eq-eqb, ne_eqb, le-leb, lt-leb}
use Rattle.std.specs.Prelude.{Option, Some, None}
use Rattle.laws.specs.Walks.{sum_below, first_below, any_below, if_so}
use Rattle.laws.proofs.Firsts.{first-at, first_is, no-first, nothing-below}
use Rattle.laws.proofs.Walks.{any_at, none_any}
use Rattle.laws.proofs.Sums.{sum_cong, sum-none, sum-le}
use Rattle.laws.proofs.Says.{lt-or}
use Rattle.pool.specs.Laid.{Laid}
use Rattle.pool.specs.Index.{StartsAt}
use Rattle.pool.specs.Gaps.{fits, is_free, lowest_gap, above_gap}
use Rattle.pool.specs.Packed.{starts_below, below, packed_start, owner_of, moved_size, moved_bytes, gap_bytes}
use Rattle.pool.proofs.Belows.{counts, counts-not, below-has}
use Rattle.pool.proofs.Apart.{NoneFrom, Covering, covering, some_or, same_body, ends_before, climb, climb_all, none-step, packed-low}
use Rattle.pool.proofs.Apart.{packed-order, packed-within, covered, below_len}
use Rattle.pool.proofs.Clears.{fits_is, fits_not, fits_gives}
use Rattle.pool.proofs.Pools.{owner_is, owner_none}
use Rattle.pool.proofs.Walking.{counts_less}

-- byte q is in a body
pub data Held (n : ℕ) (a z : ℕ → ℕ) (q : ℕ) : Type 0 where
  held : (t : ℕ) → t < n → a t ≤ q → q < a t + z t → Held n a z q

pub weightless : (a w : ℕ → ℕ) (p t : ℕ) → w t ≡ 0 → starts_below a w p t ≡ 0
weightless a w p t e = ⊎_elim (λ h. counts a w p t h ∙ e) (λ h. counts-not a w p t h) (lt-or (a t) p)

module _ (n : ℕ) (a z : ℕ → ℕ) (len : ℕ) (laid : Laid n a z len) where
  -- The lowest gap afterwards starts where the bodies end, and there is one exactly where the sum of all sizes
  -- leaves the room: fragmentation never decides (Ticket 4)
  pub gap_after : (m : ℕ) → 0 < m → lowest_gap n (packed_start n a z) z len m ≡ cond (leb (sum_below n z + m) len) (Some (sum_below n z)) None
  unfolding lowest_gap
  gap_after m x = ⊎_elim room full (lt-or len (sum_below n z + m))
    where
      -- a byte below the sum of all is in a body
      never : (q : ℕ) → q < sum_below n z → fits n (packed_start n a z) z m q ≡ false
      never q h = go (covered n a z len laid len q (omega (arith, below_len n a z len laid z (λ t l. omega arith))))
        where
          go : Covering n a z q → fits n (packed_start n a z) z m q ≡ false
          go (covering t l j k) = fits_not n (packed_start n a z) z m q t l (omega arith) k (omega arith)

      room : len < sum_below n z + m
          → first_below (len + 1 - m) (fits n (packed_start n a z) z m) ≡ cond (leb (sum_below n z + m) len) (Some (sum_below n z)) None
      room h =
          rw (lt-leb (sum_below n z + m) len h) (nothing-below (fits n (packed_start n a z) z m) (len + 1 - m) (λ q l. never q (omega arith)))

      full : sum_below n z + m ≤ len
          → first_below (len + 1 - m) (fits n (packed_start n a z) z m) ≡ cond (leb (sum_below n z + m) len) (Some (sum_below n z)) None
      full h =
          rw (le-leb (sum_below n z + m) len h)
          (first-at (fits n (packed_start n a z) z m) (len + 1 - m) (sum_below n z) (omega arith)
          (nothing-below (fits n (packed_start n a z) z m) (sum_below n z) never)
          (fits_is n (packed_start n a z) z m (sum_below n z) (λ t l y. inl (packed-within n a z len laid t l y))))

  -- a gap below s: then s lies lower afterwards
  gap_moves : (s q : ℕ) → s < n → 0 < z s → q < a s → is_free n a z q ≡ true → packed_start n a z s < a s
  unfolding packed_start is_free
  gap_moves s q l x h e =
      let c = climb n a z len laid (q + 1) 1 (a s - (q + 1)) (a s) base (omega arith) (λ t k y j. before t k y (omega arith)) in
      omega (arith, ap (λ (u : ℕ). below n a z u) (split))
    where
      split : q + 1 + (a s - (q + 1)) ≡ a s
      split = omega arith

      here : StartsAt n a z (a s) s
      here = record { low = l; some = x; here = refl }

      before : (t : ℕ) → t < n → 0 < z t → a t < a s → a t + z t ≤ a s
      before t k y j = ends_before n a z len laid (a s) s t here k y j

      side : (t : ℕ) → t < n → 0 < z t → (a t + z t ≤ q) ⊎ (q + 1 ≤ a t)
      side t k y = fits_gives n a z 1 q e t k y

      none : NoneFrom n a z q (q + 1)
      none = record { none = λ t k y i j. ⊎_elim (λ u. omega arith) (λ u. omega arith) (side t k y) }

      base : below n a z (q + 1) + 1 ≤ q + 1
      base =
          omega (
            arith,
            none-step n a z q (q + 1) z (λ t k. omega arith) (omega arith) none,
            climb_all n a z len laid q q (omega arith) (λ t k y j. ⊎_elim (λ u. u) (λ u. absurd (omega arith)) (side t k y)),
          )

  -- a byte that is not free is in a body
  free_or : (q : ℕ) → is_free n a z q ≡ false → (f : Option ℕ) → owner_of n a z q ≡ f → Held n a z q
  unfolding is_free
  free_or q e (Some t) o = let h = owner_is n a z q t o in held t h.slot h.from h.upto
  free_or q e None o = absurd (differ (fits_is n a z 1 q (λ t l x. side t l (lt-or q (a t)))))
    where
      side : (t : ℕ) → t < n → (q < a t) ⊎ (a t ≤ q) → (a t + z t ≤ q) ⊎ (q + 1 ≤ a t)
      side t l (inl h) = inr (omega arith)
      side t l (inr h) = inl (⊎_elim (λ k. absurd (owner_none n a z q o t l h k)) (λ k. k) (lt-or q (a t + z t)))

      differ : fits n a z 1 q ≡ true → ⊥
      differ g = let bad : true ≡ false = sym g ∙ e in let zero_one : ◌≡◌ {A = ℕ} 0 1 = cc in omega arith

  -- no gap below P: then all that starts below fills it
  full-below : (P : ℕ) → ((q : ℕ) → q < P → is_free n a z q ≡ false) → (p : ℕ) → p ≤ P → (u : ℕ) → u ≤ p → u ≤ below n a z u
  full-below P f zero h u l = omega arith
  full-below P f (suc p) h u l =
      ⊎_elim (λ k. full-below P f p (omega arith) u (omega arith))
      (λ k. last k (λ v j. full-below P f p (omega arith) v j) (free_or p (f p (omega arith)) (owner_of n a z p) refl)) (lt-or u (suc p))
    where
      last : suc p ≤ u → ((v : ℕ) → v ≤ p → v ≤ below n a z v) → Held n a z p → u ≤ below n a z u
      last k rec (held t j from upto) = omega (arith, rec (a t) from, below-has a z n u t j (omega arith))

  gap_none : (s : ℕ) → s < n → 0 < z s → ((q : ℕ) → q < a s → is_free n a z q ≡ false) → a s ≡ packed_start n a z s
  unfolding packed_start
  gap_none s l x f =
      let h : a s ≤ below n a z (a s) = full-below (a s) f (a s) (omega arith) (a s) (omega arith) in
      let k : below n a z (a s) ≤ a s = packed-low n a z len laid s l x in
      omega arith

  -- a body lies above a gap exactly where its start differs afterwards
  pub gap_tells : (s : ℕ) → s < n → 0 < z s → above_gap n a z s ≡ not (eqb (a s) (packed_start n a z s))
  unfolding above_gap
  gap_tells s l x = go (first_below (a s) (is_free n a z)) refl
    where
      go : (f : Option ℕ) → first_below (a s) (is_free n a z) ≡ f → any_below (a s) (is_free n a z) ≡ not (eqb (a s) (packed_start n a z s))
      go (Some q) e =
          let f = first_is (a s) (is_free n a z) q e in
          let m = gap_moves s q l x f.low f.here in
          any_at (is_free n a z) (a s) q f.low f.here ∙ sym (ap not (ne_eqb (a s) (packed_start n a z s) (λ g. omega arith)))
      go None e =
          let f = (no-first (a s) (is_free n a z) e).none in
          none_any (is_free n a z) (a s) f ∙ sym (ap not (eq-eqb (a s) (packed_start n a z s) (gap_none s l x f)))

  -- so the count is the sum of sizes of those with a gap below, and never exceeds all live body bytes (Ticket 8)
  pub count_gaps : moved_bytes n a z ≡ gap_bytes n a z
  unfolding moved_bytes gap_bytes moved_size
  count_gaps = sum_cong n (moved_size n a z) (λ s. if_so (above_gap n a z s) (z s)) (λ s l. one s l (some_or n a z s))
    where
      nothing : (b c : Bool) (k : ℕ) → k ≡ 0 → if_so b k ≡ if_so c k
      nothing true true k e = refl
      nothing true false k e = e
      nothing false true k e = sym e
      nothing false false k e = refl

      one : (s : ℕ) → s < n → (0 < z s) ⊎ (z s ≡ 0) → if_so (not (eqb (a s) (packed_start n a z s))) (z s) ≡ if_so (above_gap n a z s) (z s)
      one s l (inl x) = ap (λ (b : Bool). if_so b (z s)) (sym (gap_tells s l x))
      one s l (inr x) = nothing (not (eqb (a s) (packed_start n a z s))) (above_gap n a z s) (z s) x

  pub count_bound : moved_bytes n a z ≤ sum_below n z
  unfolding moved_bytes
  count_bound = sum-le n (moved_size n a z) z (λ t l. counts_less n a z t)

  -- bodies that were moved down stay where they are
  pub packed_stays : (s : ℕ) → s < n → 0 < z s → packed_start n (packed_start n a z) z s ≡ packed_start n a z s
  unfolding packed_start below
  packed_stays s l x =
      sum_cong n (starts_below (packed_start n a z) z (packed_start n a z s)) (starts_below a z (a s))
      (λ t k. one t k (some_or n a z t) (lt-or (a t) (a s)))
    where
      same : (t : ℕ) → t < n → 0 < z t → a s ≤ a t → packed_start n a z s ≤ packed_start n a z t
      same t k y h =
          ⊎_elim (λ j. omega (arith, packed-order n a z len laid s t l j))
          (λ j. equal (same_body n a z len laid s t l k x y h (omega arith))) (lt-or (a s) (a t))
        where
          equal : s ≡ t → packed_start n a z s ≤ packed_start n a z t
          equal e = omega (arith, ap (λ (u : ℕ). packed_start n a z u) e)

      one : (t : ℕ) → t < n → (0 < z t) ⊎ (z t ≡ 0) → (a t < a s) ⊎ (a s ≤ a t)
          → starts_below (packed_start n a z) z (packed_start n a z s) t ≡ starts_below a z (a s) t
      one t k (inl y) (inl h) =
          counts (packed_start n a z) z (packed_start n a z s) t (omega (arith, packed-order n a z len laid t s k h))
          ∙ sym (counts a z (a s) t h)
      one t k (inl y) (inr h) =
          counts-not (packed_start n a z) z (packed_start n a z s) t (same t k y h) ∙ sym (counts-not a z (a s) t h)
      one t k (inr y) h = weightless (packed_start n a z) z (packed_start n a z s) t y ∙ sym (weightless a z (a s) t y)

-- where no body's start would differ, the count is 0
pub count_stays : (n : ℕ) (a z : ℕ → ℕ) → ((t : ℕ) → t < n → 0 < z t → packed_start n a z t ≡ a t) → moved_bytes n a z ≡ 0
unfolding moved_bytes moved_size
count_stays n a z still = sum-none n (moved_size n a z) (λ t l. one t l (some_or n a z t))
  where
    none : (b : Bool) (k : ℕ) → k ≡ 0 → if_so b k ≡ 0
    none true k e = e
    none false k e = refl

    one : (t : ℕ) → t < n → (0 < z t) ⊎ (z t ≡ 0) → if_so (not (eqb (a t) (packed_start n a z t))) (z t) ≡ 0
    one t l (inl x) = rw (eq-eqb (a t) (packed_start n a z t) (sym (still t l x)))
    one t l (inr x) = none (not (eqb (a t) (packed_start n a z t))) (z t) x

-- Sums and counts over the indices below a number: a loop that adds, bounds, what one change does, the
-- exchange of two sums, and that each row of a table is counted once, at its parent.
use Prim.Native.Nat.{ℕ, zero, suc, ◌+◌, ◌*◌, ◌≤◌, ◌<◌}
use mathlib.Core.Bool.{Bool, true, false}
use mathlib.Core.Path.{◌≡◌, refl, sym, ap, ◌∙◌}
use mathlib.Core.Logic.{◌⊎◌, inl, inr, ⊎_elim}
use native.Mathlib.Omega.{arith}
use native.Mathlib.Nat.{not-suc-le-zero}
use native.Mathlib.Numerals.{add-one}
use lib.Dec.{eqb, ltb}
use borrow.Author.Tests.{eq-eqb, ne_eqb, lt-ltb, le-ltb, ltb-true, ltb-false}
use Rattle.laws.specs.Walks.{sum_below, count_below, if_so}
use Rattle.laws.proofs.Walks.{split_lt}

module _ (f : ℕ → ℕ) where
  pub sum-start : sum_below 0 f ≡ 0
  unfolding sum_below
  sum-start = refl

  pub sum_more : (i : ℕ) → sum_below (i + 1) f ≡ sum_below i f + f i
  unfolding sum_below
  sum_more i = rw add-one

  -- a sum of n numbers, none above b, is at most n times b
  pub sum_bound : (n b : ℕ) → ((i : ℕ) → i < n → f i ≤ b) → sum_below n f ≤ n * b
  unfolding sum_below
  sum_bound zero b h = omega arith
  sum_bound (suc n) b h = omega (arith, sum_bound n b (λ i l. h i (omega arith)), h n (omega arith))

  -- each number is at most the sum
  pub sum-has : (n i : ℕ) → i < n → f i ≤ sum_below n f
  unfolding sum_below
  sum-has zero i l = absurd (not-suc-le-zero l)
  sum-has (suc n) i l = ⊎_elim (λ q. omega (arith, ap f q)) (λ m. omega (arith, sum-has n i m)) (split_lt l)

module _ (p : ℕ → Bool) where
  pub count-start : count_below 0 p ≡ 0
  unfolding count_below
  count-start = sum-start (λ k. if_so (p k) 1)

  pub count_more : (i : ℕ) → count_below (i + 1) p ≡ count_below i p + if_so (p i) 1
  unfolding count_below
  count_more i = sum_more (λ k. if_so (p k) 1) i

-- where two functions agree below n, the sums do
pub sum_cong : (n : ℕ) (f g : ℕ → ℕ) → ((i : ℕ) → i < n → f i ≡ g i) → sum_below n f ≡ sum_below n g
unfolding sum_below
sum_cong zero f g h = refl
sum_cong (suc n) f g h = rw (sum_cong n f g (λ i l. h i (omega arith)), h n (omega arith))

-- a sum of nothing
pub sum-none : (n : ℕ) (f : ℕ → ℕ) → ((i : ℕ) → i < n → f i ≡ 0) → sum_below n f ≡ 0
unfolding sum_below
sum-none zero f h = refl
sum-none (suc n) f h = omega (arith, sum-none n f (λ i l. h i (omega arith)), h n (omega arith))

pub sum-le : (n : ℕ) (f g : ℕ → ℕ) → ((i : ℕ) → i < n → f i ≤ g i) → sum_below n f ≤ sum_below n g
unfolding sum_below
sum-le zero f g h = omega arith
sum-le (suc n) f g h = omega (arith, sum-le n f g (λ i l. h i (omega arith)), h n (omega arith))

-- where two functions agree but at s, the sums differ by what they have there
pub sum_change : (n : ℕ) (f g : ℕ → ℕ) (s : ℕ) → s < n → ((i : ℕ) → i < n → (i ≡ s → ⊥) → f i ≡ g i)
    → sum_below n f + g s ≡ sum_below n g + f s
unfolding sum_below
sum_change zero f g s l h = absurd (not-suc-le-zero l)
sum_change (suc n) f g s l h =
    ⊎_elim (λ q. here q) (λ m. below m (sum_change n f g s m (λ i k. h i (omega arith)))) (split_lt l)
  where
    here : s ≡ n → sum_below n f + f n + g s ≡ sum_below n g + g n + f s
    here q =
        let e : sum_below n f ≡ sum_below n g = sum_cong n f g (λ i k. h i (omega arith) (λ r. omega arith)) in
        omega (arith, ap f q, ap g q)

    below : s < n → sum_below n f + g s ≡ sum_below n g + f s → sum_below n f + f n + g s ≡ sum_below n g + g n + f s
    below m e = omega (arith, h n (omega arith) (λ r. omega arith))

pub sum_const : (n w : ℕ) → sum_below n (λ i. w) ≡ n * w
unfolding sum_below
sum_const zero w = omega arith
sum_const (suc n) w = omega (arith, sum_const n w)

pub sum-add : (n : ℕ) (f g : ℕ → ℕ) → sum_below n (λ i. f i + g i) ≡ sum_below n f + sum_below n g
unfolding sum_below
sum-add zero f g = refl
sum-add (suc n) f g = omega (arith, sum-add n f g)

-- the order of two sums does not matter
pub sum_swap : (n m : ℕ) (f : ℕ → ℕ → ℕ)
    → sum_below n (λ i. sum_below m (λ j. f i j)) ≡ sum_below m (λ j. sum_below n (λ i. f i j))
unfolding sum_below
sum_swap zero m f = omega (arith, sum_const m 0)
sum_swap (suc n) m f =
    ap (λ (k : ℕ). k + sum_below m (λ j. f n j)) (sum_swap n m f) ∙ sym (sum-add m (λ j. sum_below n (λ i. f i j)) (λ j. f n j))

-- p is below n, is n, or is above n
three_ways : (p n : ℕ) → (p < n) ⊎ ((p ≡ n) ⊎ (n < p))
three_ways p n = at (ltb p n) refl
  where
    at : (b : Bool) → ltb p n ≡ b → (p < n) ⊎ ((p ≡ n) ⊎ (n < p))
    at true e = inl (ltb-true p n e)
    at false e = inr (other (ltb n p) refl)
      where
        other : (b : Bool) → ltb n p ≡ b → (p ≡ n) ⊎ (n < p)
        other true e' = inr (ltb-true n p e')
        other false e' = inl (omega (arith, ltb-false p n e, ltb-false n p e'))

-- exactly one index is p
pub sum_at : (n p w : ℕ) → sum_below n (λ i. if_so (eqb p i) w) ≡ if_so (ltb p n) w
unfolding sum_below
sum_at zero p w = rw (le-ltb p 0 (omega arith))
sum_at (suc n) p w = ap (λ (k : ℕ). k + if_so (eqb p n) w) (sum_at n p w) ∙ go (three_ways p n)
  where
    go : (p < n) ⊎ ((p ≡ n) ⊎ (n < p)) → if_so (ltb p n) w + if_so (eqb p n) w ≡ if_so (ltb p (suc n)) w
    go (inl h) = rw (lt-ltb p n h, ne_eqb p n (λ e. omega arith), lt-ltb p (suc n) (omega arith)) (omega arith)
    go (inr (inl h)) = rw (le-ltb p n (omega arith), eq-eqb p n h, lt-ltb p (suc n) (omega arith)) (omega arith)
    go (inr (inr h)) = rw (le-ltb p n (omega arith), ne_eqb p n (λ e. omega arith), le-ltb p (suc n) (omega arith)) (omega arith)

-- A table of n rows, each with a parent row and a weight: summed over all rows, what the children of each
-- weigh is what all rows weigh. Each row is counted once, at its parent.
pub children_once : (n : ℕ) (parent w : ℕ → ℕ) → ((i : ℕ) → i < n → parent i < n)
    → sum_below n (λ d. sum_below n (λ c. if_so (eqb (parent c) d) (w c))) ≡ sum_below n w
children_once n parent w h =
    sum_swap n n (λ d c. if_so (eqb (parent c) d) (w c))
    ∙ sum_cong n (λ c. sum_below n (λ d. if_so (eqb (parent c) d) (w c))) w
    (λ c l. sum_at n (parent c) (w c) ∙ rw (lt-ltb (parent c) n (h c l)))

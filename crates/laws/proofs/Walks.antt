-- The walks `all_below` and `any_below`: where they start, how a loop's turn goes on, how it is left, and
-- what the whole says of each index.
use mathlib.Core.Path.{◌≡◌, refl, sym, ◌∙◌}
use mathlib.Core.Bool.{Bool, true, false, not, ◌&&◌, ◌||◌, and-false, or-true, false≢true}
use mathlib.Core.Logic.{◌⊎◌, ⊎_elim}
use Prim.Native.Nat.{ℕ, zero, suc, ◌+◌, ◌<◌, ◌≤◌}
use native.Mathlib.Nat.{eq-or-lt_of_le, le_of_suc-le-suc, not-suc-le-zero}
use native.Mathlib.Numerals.{add-one}
use native.Mathlib.Omega.{arith}
use borrow.Author.Tests.{not-true, not-false}
use Rattle.laws.specs.Walks.{all_below, any_below}

-- below suc n: n itself, or below n
pub split_lt : {k n : ℕ} → k < suc n → (k ≡ n) ⊎ (k < n)
split_lt h = eq-or-lt_of_le (le_of_suc-le-suc h)

and_left : (a b : Bool) → (a && b) ≡ true → a ≡ true
and_left true b e = refl
and_left false b e = e

and_right : (a b : Bool) → (a && b) ≡ true → b ≡ true
and_right true b e = e
and_right false b e = absurd (false≢true e)

module _ (p : ℕ → Bool) where
  pub all-zero : all_below 0 p ≡ true
  unfolding all_below
  all-zero = refl

  pub all_more : (i : ℕ) → all_below i p ≡ true → p i ≡ true → all_below (i + 1) p ≡ true
  unfolding all_below
  all_more i h e = rw (add-one, h, e)

  -- one that fails makes the whole fail
  pub all_fails : (n i : ℕ) → i < n → p i ≡ false → all_below n p ≡ false
  unfolding all_below
  all_fails zero i l e = absurd (not-suc-le-zero l)
  all_fails (suc n) i l e = ⊎_elim (λ q. here q) (λ m. rw (all_fails n i m e)) (split_lt l)
    where
      here : i ≡ n → (all_below n p && p n) ≡ false
      here q = rw (← q, e) (and-false (all_below i p))

  -- what all have, each has
  pub all_each : (n i : ℕ) → i < n → all_below n p ≡ true → p i ≡ true
  unfolding all_below
  all_each zero i l e = absurd (not-suc-le-zero l)
  all_each (suc n) i l e =
      ⊎_elim (λ q. rw q (and_right (all_below n p) (p n) e)) (λ m. all_each n i m (and_left (all_below n p) (p n) e)) (split_lt l)

  -- what each has, all have
  pub each_all : (n : ℕ) → ((i : ℕ) → i < n → p i ≡ true) → all_below n p ≡ true
  unfolding all_below
  each_all zero h = refl
  each_all (suc n) h = rw (each_all n (λ i l. h i (omega arith)), h n (omega arith))

  -- a loop that asks a function of each index: r is what it answered
  pub all_turn : (k : ℕ) (r : Bool) → all_below k p ≡ true → r ≡ p k → not r ≡ false → all_below (k + 1) p ≡ true
  all_turn k r h e t = all_more k h (sym e ∙ not-false r t)

  pub all_stop : (n k : ℕ) (r : Bool) → k < n → r ≡ p k → not r ≡ true → false ≡ all_below n p
  all_stop n k r l e t = sym (all_fails n k l (sym e ∙ not-true r t))

  pub all_end : (n k : ℕ) → k ≤ n → n ≤ k → all_below k p ≡ true → true ≡ all_below n p
  all_end n k a b h = let e : k ≡ n = omega arith in sym (rw e at h)

  pub any_at : (n i : ℕ) → i < n → p i ≡ true → any_below n p ≡ true
  unfolding any_below
  any_at zero i l e = absurd (not-suc-le-zero l)
  any_at (suc n) i l e = ⊎_elim (λ q. here q) (λ m. rw (any_at n i m e)) (split_lt l)
    where
      here : i ≡ n → (any_below n p || p n) ≡ true
      here q = rw (← q, e) (or-true (any_below i p))

  -- where none has it, the walk says so
  pub none_any : (n : ℕ) → ((i : ℕ) → i < n → p i ≡ false) → any_below n p ≡ false
  unfolding any_below
  none_any zero h = refl
  none_any (suc n) h = rw (none_any n (λ i l. h i (omega arith)), h n (omega arith))

-- where two tests agree below n, the walks do
pub all_cong : (n : ℕ) (p q : ℕ → Bool) → ((i : ℕ) → i < n → p i ≡ q i) → all_below n p ≡ all_below n q
unfolding all_below
all_cong zero p q h = refl
all_cong (suc n) p q h = rw (all_cong n p q (λ i l. h i (omega arith)), h n (omega arith))

pub any_cong : (n : ℕ) (p q : ℕ → Bool) → ((i : ℕ) → i < n → p i ≡ q i) → any_below n p ≡ any_below n q
unfolding any_below
any_cong zero p q h = refl
any_cong (suc n) p q h = rw (any_cong n p q (λ i l. h i (omega arith)), h n (omega arith))

-- none has it: all have it not
pub all-not : (n : ℕ) (p : ℕ → Bool) → all_below n (λ k. not (p k)) ≡ not (any_below n p)
unfolding all_below any_below
all-not zero p = refl
all-not (suc n) p = rw (all-not n p) (split (any_below n p) (p n))
  where
    split : (a b : Bool) → (not a && not b) ≡ not (a || b)
    split true b = refl
    split false b = refl

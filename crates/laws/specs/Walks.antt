-- Walks over the indices below a number: all, any, the first, the sum, the count.
-- Each test or sum that 01 makes over records, slots or bytes is one of these five.
use Rattle.std.specs.Prelude.{◌≡◌, Bool, true, false, cond, ◌&&◌, ◌||◌, ◌⊎◌, ℕ, zero, suc, ◌+◌, ◌<◌, Option, Some, None}
use Rattle.std.specs.Option.{option_or}

-- p holds of each index below n
unfoldable pub all_below : ℕ → (ℕ → Bool) → Bool
all_below zero p = true
all_below (suc n) p = all_below n p && p n

-- p holds of some index below n
unfoldable pub any_below : ℕ → (ℕ → Bool) → Bool
any_below zero p = false
any_below (suc n) p = any_below n p || p n

-- the lowest index below n of which p holds
unfoldable pub first_below : ℕ → (ℕ → Bool) → Option ℕ
first_below zero p = None
first_below (suc n) p = option_or (first_below n p) (cond (p n) (Some n) None)

-- the sum of f over the indices below n
unfoldable pub sum_below : ℕ → (ℕ → ℕ) → ℕ
sum_below zero f = 0
sum_below (suc n) f = sum_below n f + f n

-- n where the test holds, else 0
abbrev pub if_so : Bool → ℕ → ℕ
if_so true n = n
if_so false n = 0

-- how many indices below n have p
unfoldable pub count_below : ℕ → (ℕ → Bool) → ℕ
count_below n p = sum_below n (λ k. if_so (p k) 1)

-- what an answer of `first_below` says: i has p, and none below it has
pub record FirstAt (n : ℕ) (p : ℕ → Bool) (i : ℕ) : Type 0 where
  pub low : i < n
  pub here : p i ≡ true
  pub none : (k : ℕ) → k < i → p k ≡ false

-- what its other answer says: none below n has p
pub record NoneBelow (n : ℕ) (p : ℕ → Bool) : Type 0 where
  pub none : (k : ℕ) → k < n → p k ≡ false

-- k of the indices below n have P, told one by one
abbrev pub Counts : (ℕ → Type 0) → ℕ → ℕ → Type 0
Counts P zero k = k ≡ 0
Counts P (suc n) k = (P n × ((j : ℕ) × (k ≡ suc j) × Counts P n j)) ⊎ ((P n → ⊥) × Counts P n k)

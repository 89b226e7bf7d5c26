-- "Sound bodies lie in the pool, apart" (02 Ticket 4): as a test and as a record. `a` is where the body of each slot starts, `z` how many
-- bytes it has, none for a slot without a body; `len` is the length of the pool.
use Rattle.std.specs.Prelude.{◌≡◌, List, Bool, ◌&&◌, ◌||◌, ℕ, ◌+◌, ◌<◌, ◌≤◌, eqb, leb}
use Rattle.laws.specs.Walks.{all_below}
use Rattle.pool.specs.Bodies.{start_at, body_at}

-- the body of t has no byte among the m bytes from p on
unfoldable pub clear : (ℕ → ℕ) → (ℕ → ℕ) → ℕ → ℕ → ℕ → Bool
clear a z p m t = eqb (z t) 0 || (leb (a t + z t) p || leb (p + m) (a t))

-- the body of s ends within the pool and meets no body before it
unfoldable pub laid_at : (ℕ → ℕ) → (ℕ → ℕ) → ℕ → ℕ → Bool
laid_at a z len s = eqb (z s) 0 || (leb (a s + z s) len && all_below s (clear a z (a s) (z s)))

unfoldable pub laid : ℕ → (ℕ → ℕ) → (ℕ → ℕ) → ℕ → Bool
laid n a z len = all_below n (laid_at a z len)

pub record Laid (n : ℕ) (a z : ℕ → ℕ) (len : ℕ) : Type 0 where
  -- each body ends within the pool
  pub inside : (t : ℕ) → t < n → 0 < z t → a t + z t ≤ len
  -- of two bodies, the one that starts first ends before the other starts
  pub apart : (s t : ℕ) → s < n → t < n → 0 < z s → 0 < z t → a s ≤ a t → (s ≡ t → ⊥) → a s + z s ≤ a t

-- the bodies of an image
abbrev pub LaidIn : List ℕ → ℕ → ℕ → Type 0
LaidIn img n len = Laid n (start_at img) (body_at img) len

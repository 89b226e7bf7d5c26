-- Gaps: bytes of the pool in no body; the lowest place for a new body (02 Ticket 4: "the lowest gap that fits"); what lies above a gap
-- (Ticket 8).
use Rattle.std.specs.Prelude.{Bool, ℕ, ◌+◌, ◌-◌, Option}
use Rattle.laws.specs.Walks.{all_below, any_below, first_below}
use Rattle.pool.specs.Laid.{clear}

-- the m bytes from p on are in no body
unfoldable pub fits : ℕ → (ℕ → ℕ) → (ℕ → ℕ) → ℕ → ℕ → Bool
fits n a z m p = all_below n (clear a z p m)

-- byte q is in no body
unfoldable pub is_free : ℕ → (ℕ → ℕ) → (ℕ → ℕ) → ℕ → Bool
is_free n a z q = fits n a z 1 q

-- the lowest byte from which on m bytes of the pool are in no body
unfoldable pub lowest_gap : ℕ → (ℕ → ℕ) → (ℕ → ℕ) → ℕ → ℕ → Option ℕ
lowest_gap n a z len m = first_below (len + 1 - m) (fits n a z m)

-- the body of s lies above a gap
unfoldable pub above_gap : ℕ → (ℕ → ℕ) → (ℕ → ℕ) → ℕ → Bool
above_gap n a z s = any_below (a s) (is_free n a z)

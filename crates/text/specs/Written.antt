-- What was written into a buffer, and what of it can be lent on.
use Rattle.std.specs.Prelude.{ℕ, ◌+◌, ◌≤◌, ◌≡◌, List, [], ◌∷◌, length, take}
use Rattle.laws.specs.Lists.{splice}
use Rattle.laws.specs.Settled.{Settles}

-- the text stands from `at` on, r is the place after it, and the rest of the buffer is as it came
pub record WroteAt (at r : ℕ) (before after text : List ℕ) : Type 0 where
  pub long : r ≡ at + length text
  pub fits : r ≤ length before
  pub bytes : after ≡ splice before at text

-- .. from the start on: r bytes were written
abbrev pub Wrote : ℕ → List ℕ → List ℕ → List ℕ → Type 0
Wrote r before after text = WroteAt 0 r before after text

-- r bytes stand at the start of a buffer, so that they can be lent as a part of it
abbrev pub Counted : ℕ → List ℕ → Type 0
Counted r after = (r ≤ length after) × (r ≡ length (take r after))

-- `BIG`, the only line where the input is too long
abbrev pub big : List ℕ
big = 66 ∷ 73 ∷ 71 ∷ 10 ∷ []

-- what was written settles the number and the buffer (proofs/Written, `wrote_once`)
abbrev pub WroteOnce : Type 0
WroteOnce = (before text : List ℕ) → Settles (ℕ × List ℕ) (λ p. Wrote p.0 before p.1 text)

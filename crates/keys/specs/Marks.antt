-- A set of 16-bit keys as the bits of 1,024 words, and what a walk over records keeps in it.
use Rattle.std.specs.Prelude.{◌≡◌, List, Bool, true, ℕ, ◌/◌, ◌%◌, ◌^◌, ◌<◌, length, get_or, set, eqb}
use Rattle.std.specs.Int.Bits.{bit_or}

-- bit j of a word
unfoldable pub bit_in : ℕ → ℕ → ℕ
bit_in w j = w / 2 ^ j % 2

-- the set has key k
unfoldable pub marked : List ℕ → ℕ → Bool
marked l k = eqb (bit_in (get_or l (k / 64) 0) (k % 64)) 1

-- the set with key k
unfoldable pub marking : List ℕ → ℕ → List ℕ
marking l k = set l (k / 64) (bit_or (get_or l (k / 64) 0) (2 ^ (k % 64)))

-- the set has the key of each record below s that counts
pub record Keyed (counts : ℕ → Bool) (key : ℕ → ℕ) (s : ℕ) (seen : List ℕ) : Type 0 where
  pub long : length seen ≡ 1024
  pub has : (t : ℕ) → t < s → counts t ≡ true → marked seen (key t) ≡ true

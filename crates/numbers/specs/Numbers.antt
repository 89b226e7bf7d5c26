-- Numbers in a list of bytes, high byte first (01 "Image": numbers are big-endian).
use Rattle.std.specs.Prelude.{List, [], ◌∷◌, ◌++◌, ℕ, ◌+◌, ◌*◌, ◌/◌, ◌%◌, get_or}

-- the 16-bit number at `at`
unfoldable pub u16_at : List ℕ → ℕ → ℕ
u16_at s at = get_or s at 0 * 256 + get_or s (at + 1) 0

-- the 32-bit number at `at`
unfoldable pub u32_at : List ℕ → ℕ → ℕ
u32_at s at = u16_at s at * 65536 + u16_at s (at + 2)

-- the two bytes of a 16-bit number
abbrev pub be16 : ℕ → List ℕ
be16 v = v / 256 ∷ v % 256 ∷ []

-- the four bytes of a 32-bit number
abbrev pub be32 : ℕ → List ℕ
be32 v = be16 (v / 65536) ++ be16 (v % 65536)

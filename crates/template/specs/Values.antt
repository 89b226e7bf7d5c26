-- The values of single objects, each from its own bytes (01 "CREATE", data).
use Rattle.std.specs.Prelude.{ℕ, ◌+◌, ◌*◌, Bool, cond, ◌&&◌, List, length, get_or, eqb, leb}
use Rattle.numbers.specs.Numbers.{u16_at, u32_at}

-- a value of one byte, or the first of a longer one
abbrev pub first_of : List ℕ → ℕ
first_of v = get_or v 0 0

-- the number in two bytes
unfoldable pub pair_of : List ℕ → ℕ
pair_of v = cond (eqb (length v) 2) (u16_at v 0) 0

-- the record length: the last two of the four bytes of 82
unfoldable pub record_length_of : List ℕ → ℕ
record_length_of v = cond (eqb (length v) 4) (u16_at v 2) 0

-- a size: two to four bytes
unfoldable pub number_of : List ℕ → ℕ
number_of v =
    cond (eqb (length v) 2) (u16_at v 0)
    (cond (eqb (length v) 3) (get_or v 0 0 * 65536 + u16_at v 1)
    (cond (eqb (length v) 4) (u32_at v 0) 0))

-- a name: 1-16 bytes
unfoldable pub fits_name : List ℕ → Bool
fits_name v = leb 1 (length v) && leb (length v) 16

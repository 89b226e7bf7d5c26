-- The file descriptor byte (01 "Descriptor and rules", Table 7): b8 is 0, b7 free, b6-b4 type, b3-b1 structure.
use Rattle.std.specs.Prelude.{ℕ, ◌/◌, ◌%◌, ◌<◌, ◌≡◌, List, Bool, cond, ◌&&◌, ◌||◌, get_or, eqb}

abbrev pub type_of : ℕ → ℕ
type_of d = d / 8 % 8

abbrev pub structure_of : ℕ → ℕ
structure_of d = d % 8

-- type 111 with structure 000
abbrev pub is_df : ℕ → Bool
is_df d = eqb (d / 128) 0 && (eqb (type_of d) 7 && eqb (structure_of d) 0)

-- type 000 or 001 with structure 001, 010 or 110
abbrev pub is_ef : ℕ → Bool
is_ef d =
    eqb (d / 128) 0
    && ((eqb (type_of d) 0 || eqb (type_of d) 1)
    && (eqb (structure_of d) 1 || (eqb (structure_of d) 2 || eqb (structure_of d) 6)))

-- the class of a descriptor byte, by the numbers of a record's kind
abbrev pub neither : ℕ
neither = 0

abbrev pub df : ℕ
df = 1

abbrev pub ef : ℕ
ef = 2

unfoldable pub class_of : ℕ → ℕ
class_of d = cond (is_df d) df (cond (is_ef d) ef neither)

-- a table of the classes of all bytes
pub record Classes (table : List ℕ) : Type 0 where
  pub right : (d : ℕ) → d < 256 → get_or table d 0 ≡ class_of d

-- the structure is linear fixed (010) or cyclic (110)
unfoldable pub has_records : ℕ → Bool
has_records d = eqb (structure_of d) 2 || eqb (structure_of d) 6

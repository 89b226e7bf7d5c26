-- What an identifier and a record length must obey, wherever they stand (01 "Image" and "CREATE").
use Rattle.std.specs.Prelude.{ℕ, ◌/◌, ◌%◌, Bool, not, ◌&&◌, eqb, leb}
use Rattle.laws.specs.Tests.{either}
use Rattle.rules.specs.Descriptor.{has_records}

-- not 3FFF, 7FFF or FFFF
unfoldable pub good_identifier : ℕ → Bool
good_identifier x = not (eqb x 0x3FFF) && (not (eqb x 0x7FFF) && not (eqb x 0xFFFF))

-- record length 1-255, size a multiple of it, 1-254 records
unfoldable pub whole_records : ℕ → ℕ → Bool
whole_records length size =
    leb 1 length && (leb length 255 && (eqb (size % length) 0 && (leb 1 (size / length) && leb (size / length) 254)))

-- so where the structure has records; else the record length is 0
unfoldable pub good_length : ℕ → ℕ → ℕ → Bool
good_length descriptor length size = either (has_records descriptor) (whole_records length size) (eqb length 0)

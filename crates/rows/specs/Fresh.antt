-- A fresh card byte by byte (01 "Image", "Making and reporting"): the card of two slots whose root has a total of 64 and allows
-- everything. The card's own life-cycle byte stands in it as 05.
use Rattle.std.specs.Prelude.{ℕ, ◌≡◌, List, [], ◌∷◌, ◌++◌, replicate}
use Rattle.rows.specs.Calls.{card}

-- mark, version, slot count, current DF, current EF, zeros
abbrev pub header : List ℕ
header =
    (0x55 ∷ 0x46 ∷ 0x54 ∷ []) ++ (0x00 ∷ 0x01 ∷ []) ++ (0x00 ∷ 0x02 ∷ []) ++ (0x00 ∷ 0x00 ∷ []) ++ (0xFF ∷ 0xFF ∷ []) ++ replicate 5 0x00

-- kind, descriptor, life cycle, zero; identifier; parent; level; record length; size
abbrev pub numbers : List ℕ
numbers =
    (0x01 ∷ 0x38 ∷ 0x05 ∷ 0x00 ∷ []) ++ (0x3F ∷ 0x00 ∷ []) ++ (0x00 ∷ 0x00 ∷ []) ++ (0x00 ∷ 0x00 ∷ []) ++ (0x00 ∷ 0x00 ∷ [])
    ++ (0x00 ∷ 0x00 ∷ 0x00 ∷ 0x40 ∷ [])

-- no name; the rule; zeros; a free record
abbrev pub bytes : List ℕ
bytes =
    header ++ numbers ++ replicate 17 0x00 ++ (0x08 ∷ 0x7F ∷ 0x00 ∷ 0x00 ∷ 0x00 ∷ 0x00 ∷ 0x00 ∷ 0x00 ∷ 0x00 ∷ []) ++ replicate 22 0x00
    ++ replicate 64 0x00

-- (proofs/Computed, `fresh-bytes`)
abbrev pub FreshBytes : Type 0
FreshBytes = card 1 2 64 ≡ bytes

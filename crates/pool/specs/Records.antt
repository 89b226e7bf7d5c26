-- The records of a body: which numbers there are.
use Rattle.std.specs.Prelude.{Bool, ◌&&◌, List, ℕ, ◌*◌, ltb, leb}
use Rattle.image.specs.Layout.{rec_at, record_length_of, size_of}

-- record number i of the file in slot t: 1 to the last
unfoldable pub has_record : List ℕ → ℕ → ℕ → Bool
has_record img t i = ltb 0 i && leb (i * record_length_of (rec_at img t)) (size_of (rec_at img t))

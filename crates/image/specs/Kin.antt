-- Identifier and parent slot of a record as one number, by which a search passes over foreign records (02 Ticket 5).
use Rattle.std.specs.Prelude.{◌≡◌, List, ℕ, ◌+◌, ◌*◌, ◌/◌, ◌%◌, ◌<◌}
use Rattle.image.specs.Layout.{rec_at, identifier_of, parent_of}

-- a number's two bytes in the other order
unfoldable pub turned : ℕ → ℕ
turned x = x % 256 * 256 + x / 256

-- the four bytes of identifier x and parent slot p, as they stand in a record; the first counts least
unfoldable pub kin_word : ℕ → ℕ → ℕ
kin_word x p = turned p * 65536 + turned x

-- w is that of record s, in which either has two bytes
pub record KinAt (img : List ℕ) (s w : ℕ) : Type 0 where
  pub word : w ≡ kin_word (identifier_of (rec_at img s)) (parent_of (rec_at img s))
  pub identifier-low : identifier_of (rec_at img s) < 65536
  pub parent-low : parent_of (rec_at img s) < 65536

-- What is told of a search: its slot, 65,536 where it found none, 65,537 where the image is not as long as its slot count says, or that
-- is none of a card.
use Rattle.std.specs.Prelude.{◌≡◌, List, Bool, ◌&&◌, cond, ℕ, ◌+◌, ◌*◌, eqb, leb, length, Option, Some, None, unwrap_or}
use Rattle.image.specs.Layout.{Sized, count_of}

-- the image has room for exactly the records that it counts, 2 to 1,023
unfoldable pub sizedb : List ℕ → Bool
sizedb img = leb 2 (count_of img) && (leb (count_of img) 1023 && eqb (length img) (16 + 64 * count_of img))

unfoldable pub told_of : List ℕ → Option ℕ → ℕ
told_of img found = cond (sizedb img) (unwrap_or found 65536) 65537

-- r is how many records there are, if the image is such a one
pub record Slots (img : List ℕ) (r : Option ℕ) : Type 0 where
  pub count : r ≡ cond (sizedb img) (Some (count_of img)) None
  pub sized : (n : ℕ) → r ≡ Some n → Sized img n

-- What the writer of a template needs of a record, and what it leaves of the buffer.
use Rattle.std.specs.Prelude.{◌≡◌, cond, List, ℕ, ◌+◌, ◌<◌, ◌≤◌, length, get_or, eqb, Result, Ok, Err}
use Rattle.laws.specs.Lists.{splice}
use Rattle.rules.specs.Descriptor.{has_records}
use Rattle.image.specs.Layout.{Within, rec_at, size_of}
use Rattle.fcp.specs.declared.TooShort.{TooShort}

-- record s is within the image, its name and rule within their fields, and two bytes hold its size
pub record Tellable (img : List ℕ) (s : ℕ) : Type 0 where
  pub within : Within img s
  pub name : get_or (rec_at img s) 16 0 ≤ 16
  pub rule : get_or (rec_at img s) 33 0 ≤ 30
  pub size : size_of (rec_at img s) < 65536

-- how long 82 is, by the descriptor; how long 84 is, by the name's length
unfoldable pub descriptor_length : ℕ → ℕ
descriptor_length d = cond (has_records d) 6 4

unfoldable pub name_length : ℕ → ℕ
name_length n = cond (eqb n 0) 0 (n + 2)

-- what is told was written at the start of the buffer, which was long enough; or it was shorter, and is as it came
abbrev pub Answered : List ℕ → List ℕ → List ℕ → Result ℕ TooShort → Type 0
Answered told before after (Ok n) = (length told ≤ length before) × ((n ≡ length told) × (after ≡ splice before 0 told))
Answered told before after (Err e) = (length before < length told) × (after ≡ before)

-- The nearest file of an identifier: looked for in a directory, then in each directory above it (02 Ticket 7). The
-- nearest file counts, whatever it is.
use Rattle.std.specs.Prelude.{ℕ, zero, suc, Option, None}
use Rattle.std.specs.Option.{option_or}
use Rattle.sound.specs.Table.{View, up}
use Rattle.sound.specs.Kinship.{child_named}

-- the first of the answers f 0, f 1, .. below n that isn't None
unfoldable pub first_found : ℕ → (ℕ → Option ℕ) → Option ℕ
first_found zero f = None
first_found (suc n) f = option_or (first_found n f) (f n)

-- the file with identifier x in the directory k steps up from d
unfoldable pub file_up : ℕ → (ℕ → View) → ℕ → ℕ → ℕ → Option ℕ
file_up n v d x k = child_named n v (up v k d) x

-- the file with identifier x in d, else in the nearest directory above d that has one
unfoldable pub nearest_of : ℕ → (ℕ → View) → ℕ → ℕ → Option ℕ
nearest_of n v d x = first_found (suc (v d).level) (file_up n v d x)

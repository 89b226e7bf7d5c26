-- The sums of a walk over the records: what the files below slot s cost each directory.
use Rattle.std.specs.Prelude.{◌≡◌, List, ℕ, ◌*◌, ◌<◌, ◌≤◌, length, get_or}
use Rattle.sound.specs.Table.{View, charged}

-- a file costs at most 4294967295 + 64, so that no sum is beyond 64 bits
pub record Summed (v : ℕ → View) (s : ℕ) (sums : List ℕ) : Type 0 where
  pub long : length sums ≡ 1023
  pub right : (d : ℕ) → d < 1023 → get_or sums d 0 ≡ charged s v d
  pub small : (d : ℕ) → d < 1023 → get_or sums d 0 ≤ s * 4294967359

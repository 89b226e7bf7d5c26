-- What judging needs of an image; a sound image gives it (proofs/FromSound, `judgeable`).
use Rattle.std.specs.Prelude.{◌≡◌, List, ℕ, ◌<◌, ◌≤◌, get_or}
use Rattle.image.specs.Layout.{rec_at, count_of, current_ef_of, none}
use Rattle.sound.specs.Table.{view_at}
use Rattle.kinship.specs.Climb.{Rooted, Stands, Paid}
use Rattle.kinship.specs.Search.{NamesFit}

-- n is the slot count, d the current DF
pub record Judgeable (img : List ℕ) (n d : ℕ) : Type 0 where
  pub count : n ≡ count_of img
  pub rooted : Rooted img n
  pub names : NamesFit img n
  -- every record's rule stands within it
  pub ruled : (s : ℕ) → s < n → get_or (rec_at img s) 33 0 ≤ 30
  pub root : Stands img n 0
  -- the current DF is a file, has paid for its children, and lies at most as deep as there are records
  pub df : Stands img n d
  pub paid : Paid img n d
  pub deep : (view_at img d).level < n
  -- the current EF, if any, is a file
  pub ef : (current_ef_of img ≡ none → ⊥) → Stands img n (current_ef_of img)

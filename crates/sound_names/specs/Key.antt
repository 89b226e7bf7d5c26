-- The key of a name, and how far a record has to look back for its name.
use Rattle.std.specs.Prelude.{◌≡◌, List, [], Bool, true, not, ℕ, ◌+◌, ◌*◌, ◌%◌, ◌≤◌}
use Rattle.laws.specs.Walks.{all_below}
use Rattle.laws.specs.Lists.{same_list}
use Rattle.numbers.specs.Numbers.{u32_at}
use Rattle.image.specs.Layout.{rec_at}
use Rattle.sound.specs.Table.{View}
use Rattle.sound.specs.Kin.{same_name, names_at}

-- the 16 bytes of a name, zero-padded, in 16 bits; r is its record
unfoldable pub name_key : List ℕ → ℕ
name_key r = (u32_at r 17 * 31 + u32_at r 21 * 1021 + u32_at r 25 * 32771 + u32_at r 29 * 65539) % 65521

abbrev pub name_key_at : List ℕ → ℕ → ℕ
name_key_at img s = name_key (rec_at img s)

-- slot s holds a record with a name
unfoldable pub has_name : (ℕ → View) → ℕ → Bool
has_name v s = not (same_list (v s).name [])

-- how far s has to look back: where no record below r has its name, none before it has
pub record LooksBack (v : ℕ → View) (s r : ℕ) : Type 0 where
  pub low : r ≤ s
  pub rest : all_below r (λ t. not (same_name v s t)) ≡ true → names_at v s ≡ true

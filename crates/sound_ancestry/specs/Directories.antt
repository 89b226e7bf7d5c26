-- The identifiers of directories, in two sets: all of them, and those that two directories have. A file can share
-- its identifier with a directory above it only where one of the sets has it.
use Rattle.std.specs.Prelude.{◌≡◌, List, Bool, true, cond, ℕ, ◌<◌, eqb, length}
use Rattle.rules.specs.Descriptor.{df}
use Rattle.keys.specs.Marks.{marked, Keyed}
use Rattle.sound.specs.Table.{View}

abbrev pub is_df : (ℕ → View) → ℕ → Bool
is_df v s = eqb (v s).kind df

abbrev pub identifier_at : (ℕ → View) → ℕ → ℕ
identifier_at v s = (v s).identifier

-- the sets after the records below s
pub record Seen (v : ℕ → View) (s : ℕ) (once twice : List ℕ) : Type 0 where
  pub first : Keyed (is_df v) (identifier_at v) s once
  pub long : length twice ≡ 1024
  pub again : (t : ℕ) → t < s → is_df v t ≡ true → (u : ℕ) → u < t → is_df v u ≡ true → (v u).identifier ≡ (v t).identifier
      → marked twice (v t).identifier ≡ true

-- s may have the identifier of a directory other than itself
unfoldable pub shares : (ℕ → View) → ℕ → List ℕ → List ℕ → Bool
shares v s once twice = cond (is_df v s) (marked twice (v s).identifier) (marked once (v s).identifier)

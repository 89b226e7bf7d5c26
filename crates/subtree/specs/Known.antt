-- The marks of a walk that tells of each slot whether it holds directory d or a file beneath it.
use Rattle.std.specs.Prelude.{◌≡◌, List, Bool, ◌&&◌, cond, ℕ, ◌<◌, eqb, ltb, length, get_or}
use Rattle.sound.specs.Table.{View}
use Rattle.sound.specs.Kinship.{at_or_beneath}

-- 1 for yes, 2 for no; 0 is not known yet
abbrev pub mark_of : Bool → ℕ
mark_of b = cond b 1 2

-- s is not known yet, and deeper than level `high`
unfoldable pub is_open : (ℕ → View) → ℕ → List ℕ → ℕ → Bool
is_open v high marks s = eqb (get_or marks s 0) 0 && ltb high (v s).level

-- a mark that is known is right
pub record Known (v : ℕ → View) (n d : ℕ) (marks : List ℕ) : Type 0 where
  pub long : length marks ≡ 1023
  pub right : (k : ℕ) → k < n → (get_or marks k 0 ≡ 0 → ⊥) → get_or marks k 0 ≡ mark_of (at_or_beneath v d k)

-- r is the mark of s, or 0
pub record MarkOrNone (v : ℕ → View) (d s r : ℕ) : Type 0 where
  pub right : (r ≡ 0 → ⊥) → r ≡ mark_of (at_or_beneath v d s)

-- what was known still is
pub record Keeps (old new : List ℕ) : Type 0 where
  pub kept : (k : ℕ) → (get_or old k 0 ≡ 0 → ⊥) → get_or new k 0 ≡ 0 → ⊥

-- every slot below s is known
pub record Settled (v : ℕ → View) (n d s : ℕ) (marks : List ℕ) : Type 0 where
  pub known : Known v n d marks
  pub done : (k : ℕ) → k < s → get_or marks k 0 ≡ 0 → ⊥

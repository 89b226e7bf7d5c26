-- The rule in a record of a rule file (02 Ticket 7): an expanded rule, FF bytes after it being padding. The rule is the one well-formed
-- beginning after which only FF comes: an FF that the rule itself ends with is no padding.
use Rattle.std.specs.Prelude.{ℕ, suc, ◌≤◌, ◌≡◌, Bool, true, ◌&&◌, List, ◌++◌, length, get_or, take, drop, eqb, unwrap_or}
use Rattle.laws.specs.Walks.{all_below, first_below}
use Rattle.expanded.specs.Expanded.{expanded_formed}

-- byte i is FF; all bytes are
unfoldable pub is_ff : List ℕ → ℕ → Bool
is_ff s i = eqb (get_or s i 0) 0xFF

unfoldable pub is_padding : List ℕ → Bool
is_padding s = all_below (length s) (is_ff s)

-- the first k bytes are a well-formed rule, and only padding comes after them
unfoldable pub ends_at : List ℕ → ℕ → Bool
ends_at s k = expanded_formed (take k s) && is_padding (drop k s)

-- where the rule of the record ends, 0 where it has none
unfoldable pub unpadded_end : List ℕ → ℕ
unpadded_end s = unwrap_or (first_below (suc (length s)) (ends_at s)) 0

-- the rule of the record, without padding; empty where it has none
unfoldable pub unpadded : List ℕ → List ℕ
unpadded s = take (unpadded_end s) s

-- the record is the rule r and padding
pub record Padded (s r : List ℕ) : Type 0 where
  pub padding : List ℕ
  pub whole : s ≡ r ++ padding
  pub formed : expanded_formed r ≡ true
  pub only : is_padding padding ≡ true

-- no other place than k can be where the rule ends
pub record OnlyEnd (s : List ℕ) (k : ℕ) : Type 0 where
  pub within : k ≤ length s
  pub only : (j : ℕ) → j ≤ length s → ends_at s j ≡ true → j ≡ k

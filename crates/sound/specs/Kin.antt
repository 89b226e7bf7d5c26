-- What must hold between the n records of a card (01 "Image", from "Slot 0 is a DF" to the sums): as a record
-- with a field for each sentence, and as tests. Nothing here speaks of bytes: v is the table of views.
use Rattle.std.specs.Prelude.{◌≡◌, [], Bool, not, ◌&&◌, ℕ, suc, ◌+◌, ◌*◌, ◌-◌, ◌<◌, ◌≤◌, eqb, ltb, leb}
use Rattle.laws.specs.Walks.{all_below}
use Rattle.laws.specs.Lists.{same_list}
use Rattle.laws.specs.Tests.{implies}
use Rattle.rules.specs.Descriptor.{df}
use Rattle.sound.specs.Table.{View, File, is_file, up, upward, has_identifier, charged}

-- where a file stands: its parent is a DF with level one less
pub record Placed (n : ℕ) (v : ℕ → View) (s : ℕ) : Type 0 where
  pub low : (v s).parent < n
  pub dir : (v (v s).parent).kind ≡ df
  pub up : (v s).level ≡ (v (v s).parent).level + 1

pub record Kin (n : ℕ) (v : ℕ → View) : Type 0 where
  -- slot 0 is a DF, 3F00, parent 0, level 0, total at most 64(N-1); that it is at least 1 is `Used.size`
  pub root-kind : (v 0).kind ≡ df
  pub root-identifier : (v 0).identifier ≡ 0x3F00
  pub root-parent : (v 0).parent ≡ 0
  pub root-level : (v 0).level ≡ 0
  pub root-size : (v 0).size ≤ 64 * (n - 1)
  -- every other used record has as parent a DF with level one less
  pub placed : (s : ℕ) → s < n → File v s → Placed n v s
  -- its identifier differs from its siblings'
  pub siblings : (s : ℕ) → s < n → File v s → (t : ℕ) → t < s → File v t → (v t).parent ≡ (v s).parent
      → (v t).identifier ≡ (v s).identifier → ⊥
  -- and from every directory's above it
  pub above : (s : ℕ) → s < n → File v s → (k : ℕ) → k < (v s).level → (v (up v (suc k) s)).identifier ≡ (v s).identifier → ⊥
  -- no two non-empty names on the card are equal
  pub names : (s : ℕ) → s < n → (t : ℕ) → t < s → ((v s).name ≡ [] → ⊥) × ((v t).name ≡ (v s).name) → ⊥
  -- for each DF, the sum over direct children of (size + 64) is at most its total
  pub charges : (d : ℕ) → d < n → (v d).kind ≡ df → charged n v d ≤ (v d).size

-- The same as tests

unfoldable pub rootb : ℕ → (ℕ → View) → Bool
rootb n v =
    eqb (v 0).kind df
    && (eqb (v 0).identifier 0x3F00
    && (eqb (v 0).parent 0
    && (eqb (v 0).level 0
    && leb (v 0).size (64 * (n - 1)))))

unfoldable pub placed_at : ℕ → (ℕ → View) → ℕ → Bool
placed_at n v s =
    implies (is_file v s)
    (ltb (v s).parent n && (eqb (v (v s).parent).kind df && eqb (v s).level ((v (v s).parent).level + 1)))

unfoldable pub placedb : ℕ → (ℕ → View) → Bool
placedb n v = all_below n (placed_at n v)

-- s and t are not siblings with one identifier
unfoldable pub apart_at : (ℕ → View) → ℕ → ℕ → Bool
apart_at v s t =
    implies (is_file v t) (implies (eqb (v t).parent (v s).parent) (not (eqb (v t).identifier (v s).identifier)))

unfoldable pub siblings_at : (ℕ → View) → ℕ → Bool
siblings_at v s = implies (is_file v s) (all_below s (apart_at v s))

unfoldable pub siblingsb : ℕ → (ℕ → View) → Bool
siblingsb n v = all_below n (siblings_at v)

-- no directory above s has its identifier
unfoldable pub above_at : (ℕ → View) → ℕ → Bool
above_at v s = implies (is_file v s) (not (upward v (has_identifier v (v s).identifier) (v s).level (v s).parent))

unfoldable pub aboveb : ℕ → (ℕ → View) → Bool
aboveb n v = all_below n (above_at v)

-- s and t have one name, which is not empty
unfoldable pub same_name : (ℕ → View) → ℕ → ℕ → Bool
same_name v s t = not (same_list (v s).name []) && same_list (v t).name (v s).name

-- no earlier record has the name of s
unfoldable pub names_at : (ℕ → View) → ℕ → Bool
names_at v s = all_below s (λ t. not (same_name v s t))

unfoldable pub namesb : ℕ → (ℕ → View) → Bool
namesb n v = all_below n (names_at v)

unfoldable pub charges_at : ℕ → (ℕ → View) → ℕ → Bool
charges_at n v d = implies (eqb (v d).kind df) (leb (charged n v d) (v d).size)

unfoldable pub chargesb : ℕ → (ℕ → View) → Bool
chargesb n v = all_below n (charges_at n v)

unfoldable pub kinb : ℕ → (ℕ → View) → Bool
kinb n v = rootb n v && (placedb n v && (siblingsb n v && (aboveb n v && (namesb n v && chargesb n v))))

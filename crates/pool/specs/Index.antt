-- The index of the bodies of the first k slots: it tells which body comes next in the pool without a look at the others.
-- The pool goes in cells of 64 bytes, and the bodies that start in a cell are a chain. A mark is a slot plus one, or 0 for none. For each
-- cell stands the mark of the first slot of its chain, and for each slot that of the slot after it, and where it starts.
use Rattle.std.specs.Prelude.{◌≡◌, cond, ℕ, suc, ◌+◌, ◌*◌, ◌/◌, ◌<◌, ◌≤◌, leb, ltb, length, get_or, set, Option, Some, None}
use Rattle.pool.specs.declared.Ahead.{Ahead}
use Rattle.pool.specs.declared.index.Link.{Link}
use Rattle.pool.specs.declared.index.Index.{Index}

-- the mark of a slot, or of none
abbrev pub mark_of : Option ℕ → ℕ
mark_of None = 0
mark_of (Some s) = suc s

-- the link of a slot that has none
abbrev pub unlinked : Link
unlinked = record { place = 0; next = 0 }

abbrev pub first_in : Index → ℕ → ℕ
first_in index p = get_or index.firsts (p / 64) 0

abbrev pub next_of : Index → ℕ → ℕ
next_of index s = (get_or index.links s unlinked).next

abbrev pub place_of : Index → ℕ → ℕ
place_of index s = (get_or index.links s unlinked).place

-- slot s, below k, has a body that starts at p
pub record StartsAt (k : ℕ) (a z : ℕ → ℕ) (p s : ℕ) : Type 0 where
  pub low : s < k
  pub some : 0 < z s
  pub here : a s ≡ p

-- slot s is on the chain from mark x on
pub data On (index : Index) (s : ℕ) : ℕ → Type 0 where
  here : {x : ℕ} → x ≡ suc s → On index s x
  there : {x : ℕ} (t : ℕ) → x ≡ suc t → On index s (next_of index t) → On index s x

-- the mark of slot s stands somewhere in the chains: as the first of a cell's, or after slot t
pub data Marked (index : Index) (s : ℕ) : Type 0 where
  leads : (c : ℕ) → c < 1024 → get_or index.firsts c 0 ≡ suc s → Marked index s
  follows : (t : ℕ) → t < 1024 → next_of index t ≡ suc s → Marked index s

-- the marks are of slots, and along a chain slots fall
pub record Linked (index : Index) : Type 0 where
  pub few : (c : ℕ) → c < 1024 → get_or index.firsts c 0 < 1024
  pub fall : (s : ℕ) → s < 1024 → next_of index s ≤ s

pub record Chained (k : ℕ) (a z : ℕ → ℕ) (index : Index) : Type 0 where
  pub long : length index.firsts ≡ 1024
  pub wide : length index.links ≡ 1024
  -- a mark is of a slot with a body
  pub low : (s : ℕ) → Marked index s → s < k
  pub some : (s : ℕ) → Marked index s → 0 < z s
  pub fall : (s : ℕ) → s < 1024 → next_of index s ≤ s
  -- each body has its start, and is on the chain of its cell
  pub place : (s : ℕ) → s < k → 0 < z s → place_of index s ≡ a s
  pub small : (s : ℕ) → s < k → 0 < z s → a s < 65536
  pub has : (s : ℕ) → s < k → 0 < z s → On index s (first_in index (a s))

-- with slot s, whose body starts at p, first in its chain
unfoldable pub linking : Index → ℕ → ℕ → Index
linking index s p =
    record { firsts = set index.firsts (p / 64) (s + 1); links = set index.links s (record { place = p; next = first_in index p }) }

-- where the cell of byte p ends
abbrev pub cell_end : ℕ → ℕ
cell_end p = (p / 64 + 1) * 64

-- the nearer one to p: that of slot s, where it starts at p or above and before the other
unfoldable pub nearer_of : Index → ℕ → Ahead → ℕ → Ahead
nearer_of index p best s =
    cond (ltb (place_of index s) p) best
    (cond (leb best.end (place_of index s)) best
    (record { end = place_of index s; next = Some s }))

-- what lies ahead of byte p of a pool of len bytes: no body that is on the chain of p's cell starts from p to the end, and there one
-- does, or the cell or the pool ends
pub record Seen (index : Index) (len p : ℕ) (r : Ahead) : Type 0 where
  pub up : p ≤ r.end
  pub in-pool : r.end ≤ len
  pub in_cell : r.end ≤ cell_end p
  pub free : r.next ≡ None → p < r.end
  pub there : (s : ℕ) → r.next ≡ Some s → place_of index s ≡ r.end
  pub real : (s : ℕ) → r.next ≡ Some s → Marked index s
  pub none : (s : ℕ) → On index s (first_in index p) → p ≤ place_of index s → r.end ≤ place_of index s

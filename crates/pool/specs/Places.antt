-- Room for a new body of m bytes (02 Ticket 4: "A new body is all FF, in the lowest gap that fits. If no gap fits, bodies are moved down
-- first"): then it lies above them all. The count of bytes moved is Ticket 8's.
use Rattle.std.specs.Prelude.{◌≡◌, List, ℕ, length, replicate, Option, Some, None}
use Rattle.laws.specs.Lists.{splice}
use Rattle.laws.specs.Walks.{sum_below}
use Rattle.pool.specs.declared.Room.{Room}
use Rattle.pool.specs.Bodies.{start_at, body_at}
use Rattle.pool.specs.Gaps.{lowest_gap}
use Rattle.pool.specs.Packed.{moved_bytes, packed_image, packed_pool}

-- the gap that fits before any body is moved
unfoldable pub gap_for : ℕ → List ℕ → ℕ → ℕ → Option ℕ
gap_for n img len m = lowest_gap n (start_at img) (body_at img) len m

-- where the new body starts, the count, the image and the pool before it is written
abbrev pub place_at : Option ℕ → ℕ → List ℕ → ℕ
place_at (Some p) n img = p
place_at None n img = sum_below n (body_at img)

abbrev pub place_moved : Option ℕ → ℕ → List ℕ → ℕ
place_moved (Some p) n img = 0
place_moved None n img = moved_bytes n (start_at img) (body_at img)

abbrev pub place_image : Option ℕ → ℕ → List ℕ → List ℕ
place_image (Some p) n img = img
place_image None n img = packed_image n img

abbrev pub place_pool : Option ℕ → ℕ → List ℕ → List ℕ → List ℕ
place_pool (Some p) n img pool = pool
place_pool None n img pool = packed_pool n (start_at img) (body_at img) pool

-- all of it, with g the gap: the answer, the image and the pool
pub record Placed (g : Option ℕ) (n m : ℕ) (img pool : List ℕ) (r : Room) (new_image new_pool : List ℕ) : Type 0 where
  pub start : r.start ≡ place_at g n img
  pub moved : r.moved ≡ place_moved g n img
  pub image : new_image ≡ place_image g n img
  pub bytes : new_pool ≡ splice (place_pool g n img pool) (place_at g n img) (replicate m 255)

-- what CREATE asks for
abbrev pub Made : ℕ → ℕ → List ℕ → List ℕ → Room → List ℕ → List ℕ → Type 0
Made n m img pool r new_image new_pool = Placed (gap_for n img (length pool) m) n m img pool r new_image new_pool

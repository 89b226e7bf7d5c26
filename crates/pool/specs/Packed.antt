-- All bodies moved down (02 Ticket 4: "bodies are moved down first, in order"): each starts afterwards where those that started below it
-- end. "Vacated bytes become 00" (those in a body before and in none after), all others stay. The count of bytes moved, and the sum that
-- Ticket 8 says it is.
use Rattle.std.specs.Prelude.{List, [], ◌∷◌, ◌++◌, Bool, cond, not, ◌&&◌, ℕ, zero, suc, ◌+◌, ◌-◌, eqb}
use Rattle.std.specs.Prelude.{leb, ltb, length, get_or, replicate, Option, Some, None}
use Rattle.laws.specs.Lists.{part, splice}
use Rattle.laws.specs.Walks.{sum_below, first_below, if_so}
use Rattle.image.specs.Layout.{set_start}
use Rattle.pool.specs.Bodies.{start_at, body_at}
use Rattle.pool.specs.Gaps.{above_gap}

-- the weight of t where its body starts below p
unfoldable pub starts_below : (ℕ → ℕ) → (ℕ → ℕ) → ℕ → ℕ → ℕ
starts_below a w p t = if_so (ltb (a t) p) (w t)

-- the sum of the weights of the bodies that start below p
unfoldable pub below : ℕ → (ℕ → ℕ) → (ℕ → ℕ) → ℕ → ℕ
below n a w p = sum_below n (starts_below a w p)

-- where the body of s starts afterwards: the sum of the sizes of those that start below it
unfoldable pub packed_start : ℕ → (ℕ → ℕ) → (ℕ → ℕ) → ℕ → ℕ
packed_start n a z s = below n a z (a s)

-- byte q is in the body of t
unfoldable pub holds : (ℕ → ℕ) → (ℕ → ℕ) → ℕ → ℕ → Bool
holds a z q t = leb (a t) q && ltb q (a t + z t)

-- the slot whose body byte q is in
unfoldable pub owner_of : ℕ → (ℕ → ℕ) → (ℕ → ℕ) → ℕ → Option ℕ
owner_of n a z q = first_below n (holds a z q)

-- a byte in no body afterwards: 00 where it was in one
abbrev pub left_byte : Option ℕ → ℕ → ℕ
left_byte (Some t) old = 0
left_byte None old = old

-- a byte afterwards: b starts the bodies then
abbrev pub moved_byte : (ℕ → ℕ) → (ℕ → ℕ) → List ℕ → ℕ → Option ℕ → Option ℕ → ℕ
moved_byte a b pool q (Some t) was = get_or pool (a t + (q - b t)) 0
moved_byte a b pool q None was = left_byte was (get_or pool q 0)

unfoldable pub packed_byte : ℕ → (ℕ → ℕ) → (ℕ → ℕ) → List ℕ → ℕ → ℕ
packed_byte n a z pool q =
    moved_byte a (packed_start n a z) pool q (owner_of n (packed_start n a z) z q) (owner_of n a z q)

-- the list of f below n
unfoldable pub list_below : ℕ → (ℕ → ℕ) → List ℕ
list_below zero f = []
list_below (suc n) f = list_below n f ++ (f n ∷ [])

unfoldable pub packed_pool : ℕ → (ℕ → ℕ) → (ℕ → ℕ) → List ℕ → List ℕ
packed_pool n a z pool = list_below (length pool) (packed_byte n a z pool)

-- the starts f for those of the first k slots that have a body
unfoldable pub put_starts : ℕ → (ℕ → ℕ) → (ℕ → ℕ) → List ℕ → List ℕ
put_starts zero z f img = img
put_starts (suc k) z f img = cond (ltb 0 (z k)) (set_start (put_starts k z f img) k (f k)) (put_starts k z f img)

unfoldable pub packed_image : ℕ → List ℕ → List ℕ
packed_image n img = put_starts n (body_at img) (packed_start n (start_at img) (body_at img)) img

-- what s counts for: its size where its start differs afterwards
unfoldable pub moved_size : ℕ → (ℕ → ℕ) → (ℕ → ℕ) → ℕ → ℕ
moved_size n a z s = if_so (not (eqb (a s) (packed_start n a z s))) (z s)

-- the count of bytes moved
unfoldable pub moved_bytes : ℕ → (ℕ → ℕ) → (ℕ → ℕ) → ℕ
moved_bytes n a z = sum_below n (moved_size n a z)

-- the sum of sizes of the bodies that lie above a gap
unfoldable pub gap_bytes : ℕ → (ℕ → ℕ) → (ℕ → ℕ) → ℕ
gap_bytes n a z = sum_below n (λ s. if_so (above_gap n a z s) (z s))

-- one body moved: its old place is zeroed, then it is written at the new one
unfoldable pub move_down : List ℕ → ℕ → ℕ → ℕ → List ℕ
move_down pool from to m = splice (splice pool from (replicate m 0)) to (part pool from m)

-- What a record must satisfy beside others, by the walk that asks it: the first needs nothing known, the second that
-- parents and levels are good, and the sets and sums of the first.
use Rattle.std.specs.Prelude.{Bool, ◌&&◌, ℕ}
use Rattle.laws.specs.Walks.{all_below}
use Rattle.sound.specs.Table.{View}
use Rattle.sound.specs.Kin.{placed_at, siblings_at, above_at, charges_at}

-- its identifier differs from its siblings', and its parent is a DF with level one less
unfoldable pub first_at : ℕ → (ℕ → View) → ℕ → Bool
first_at n v s = siblings_at v s && placed_at n v s

-- its total covers its children, and its identifier differs from those of the directories above
unfoldable pub second_at : ℕ → (ℕ → View) → ℕ → Bool
second_at n v s = charges_at n v s && above_at v s

unfoldable pub linkedb : ℕ → (ℕ → View) → Bool
linkedb n v = all_below n (first_at n v) && all_below n (second_at n v)

-- DELETE (02 Ticket 4): the bytes of every body that goes become 00, all others stay. `a` is where the body of each slot starts, `z` how
-- many bytes it has.
use Rattle.std.specs.Prelude.{List, Bool, cond, ℕ, zero, suc, ◌+◌, ◌<◌, ◌≤◌, replicate}
use Rattle.laws.specs.Lists.{splice}
use Rattle.pool.specs.Bodies.{start_at, body_at}

-- the body of slot s, where the test holds; that of each slot below n of which p holds
unfoldable pub wipe_if : Bool → (ℕ → ℕ) → (ℕ → ℕ) → List ℕ → ℕ → List ℕ
wipe_if b a z pool s = cond b (splice pool (a s) (replicate (z s) 0)) pool

unfoldable pub wipe_below : ℕ → (ℕ → Bool) → (ℕ → ℕ) → (ℕ → ℕ) → List ℕ → List ℕ
wipe_below zero p a z pool = pool
wipe_below (suc k) p a z pool = wipe_if (p k) a z (wipe_below k p a z pool) k

-- the bodies of an image
abbrev pub wiped : ℕ → (ℕ → Bool) → List ℕ → List ℕ → List ℕ
wiped n p img pool = wipe_below n p (start_at img) (body_at img) pool

-- the body of slot s, if it has one, ends within the pool of len bytes
pub record EndsIn (a z : ℕ → ℕ) (len s : ℕ) : Type 0 where
  pub inside : 0 < z s → a s + z s ≤ len

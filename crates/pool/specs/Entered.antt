-- The starts of bodies in a set of keys (crate keys): what the test of all bodies keeps, so that it looks at no pairs.
use Rattle.std.specs.Prelude.{◌≡◌, List, Bool, true, false, ℕ, ◌+◌, ◌<◌, ◌≤◌, length}
use Rattle.keys.specs.Marks.{marked}
use Rattle.pool.specs.Bodies.{start_at, body_at}
use Rattle.pool.specs.Index.{StartsAt}

-- what an answer says: A where it is yes, B where it is no
pub data When (r : Bool) (A B : Type 0) : Type 0 where
  yes : r ≡ true → A → When r A B
  no : r ≡ false → B → When r A B

-- no key from `from` to `to` is in the set, or one is
pub record NoneMarked (seen : List ℕ) (from to : ℕ) : Type 0 where
  pub none : (k : ℕ) → from ≤ k → k < to → marked seen k ≡ false

pub data OneMarked (seen : List ℕ) (from to : ℕ) : Type 0 where
  one : (k : ℕ) → from ≤ k → k < to → marked seen k ≡ true → OneMarked seen from to

-- a body of the first s slots starts at k
pub data Begun (s : ℕ) (a z : ℕ → ℕ) (k : ℕ) : Type 0 where
  begun : (t : ℕ) → StartsAt s a z k t → Begun s a z k

-- the set has the starts of the bodies of the first s slots and no other key; each ends in the pool, and no two start together
pub record Entered (s : ℕ) (a z : ℕ → ℕ) (len : ℕ) (seen : List ℕ) : Type 0 where
  pub long : length seen ≡ 1024
  pub inside : (t : ℕ) → t < s → 0 < z t → a t + z t ≤ len
  pub has : (t : ℕ) → t < s → 0 < z t → marked seen (a t) ≡ true
  pub only : (k : ℕ) → marked seen k ≡ true → Begun s a z k
  pub differ : (t u : ℕ) → t < s → u < s → 0 < z t → 0 < z u → a t ≡ a u → t ≡ u

-- the bodies of an image
abbrev pub EnteredIn : List ℕ → ℕ → ℕ → List ℕ → Type 0
EnteredIn img s len seen = Entered s (start_at img) (body_at img) len seen

-- no body starts within that of s
pub record Alone (a z : ℕ → ℕ) (seen : List ℕ) (s : ℕ) : Type 0 where
  pub none : 0 < z s → (k : ℕ) → a s < k → k < a s + z s → marked seen k ≡ false

abbrev pub AloneIn : List ℕ → List ℕ → ℕ → Type 0
AloneIn img seen s = Alone (start_at img) (body_at img) seen s

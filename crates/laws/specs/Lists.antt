-- Parts of lists, and lists with a part written over. An image is its list of bytes: a record is a part
-- of it, and every write of the card is a splice.
use Rattle.std.specs.Prelude.{List, ◌++◌, Bool, ◌&&◌, ℕ, ◌+◌, ◌<◌, length, get_or, take, drop, eqb}
use Rattle.laws.specs.Walks.{all_below}

-- the n elements of l from index at on
unfoldable pub part : List ℕ → ℕ → ℕ → List ℕ
part l at n = take n (drop at l)

-- l with v from index at on
unfoldable pub splice : List ℕ → ℕ → List ℕ → List ℕ
splice l at v = take at l ++ v ++ drop (at + length v) l

-- two lists are the same, by length and index
unfoldable pub same_list : List ℕ → List ℕ → Bool
same_list a b = eqb (length a) (length b) && all_below (length a) (λ k. eqb (get_or a k 0) (get_or b k 0))

-- each element is a byte
abbrev pub Bytes : List ℕ → Type 0
Bytes s = (i : ℕ) → get_or s i 0 < 256

-- The pieces that a test is made of, beside `eqb`, `leb`, `◌&&◌` and the walks; each has a law in
-- proofs/Says that gives the fact it stands for.
use Rattle.std.specs.Prelude.{Bool, true, false, cond, List, [], ◌∷◌, ℕ, suc}

-- the second test is made where the first holds
unfoldable pub implies : Bool → Bool → Bool
implies a b = cond a b true

-- the second test where the first holds, else the third
unfoldable pub either : Bool → Bool → Bool → Bool
either a b c = cond a b c

-- both tests, the second made only after the first: a table of 256 entries is computed one by one
abbrev pub both : Bool → Bool → Bool
both true b = b
both false b = false

-- the test f passes at each entry of a table and its place, counted from i
abbrev pub every_entry : (ℕ → ℕ → Bool) → ℕ → List ℕ → Bool
every_entry f i [] = true
every_entry f i (x ∷ xs) = both (f i x) (every_entry f (suc i) xs)

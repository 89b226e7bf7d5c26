-- A rule of a table, proved at all of its entries by one test that is computed, one entry after the other.
use mathlib.Core.Path.{◌≡◌, ◌∙◌, subst, sym}
use mathlib.Core.Bool.{Bool, true, false}
use mathlib.Core.List.{List, [], ◌∷◌}
use Prim.Native.Nat.{ℕ, zero, suc, ◌+◌, ◌<◌}
use native.Mathlib.Nat.{add-zero, zero-add, add-suc, suc-add, le_of_suc-le-suc, not-suc-le-zero}
use lib.Dec.{T, eqb, eqb→eq}
use lib.ListN.{length, get_or}
use Rattle.laws.specs.Tests.{both, every_entry}

both_left : (a b : Bool) → T (both a b) → T a
both_left true b t = tt
both_left false b t = t

both_right : (a b : Bool) → T (both a b) → T b
both_right true b t = t
both_right false b t = absurd t

entry_from : (f : ℕ → ℕ → Bool) (xs : List ℕ) (i : ℕ) → T (every_entry f i xs) → (k : ℕ) → k < length xs → T (f (i + k) (get_or xs k 0))
entry_from f [] i t k h = absurd (not-suc-le-zero h)
entry_from f (x ∷ xs) i t zero h =
    subst (λ (m : ℕ). T (f m x)) (sym (add-zero i)) (both_left (f i x) (every_entry f (suc i) xs) t)
entry_from f (x ∷ xs) i t (suc k) h =
    subst (λ (m : ℕ). T (f m (get_or xs k 0))) (suc-add i k ∙ sym (add-suc i k))
    (entry_from f xs (suc i) (both_right (f i x) (every_entry f (suc i) xs) t) k (le_of_suc-le-suc h))

-- each of the n entries of a table is what g gives at its place, where one test over the whole table says so
abbrev pub entry_of : (ℕ → ℕ) → ℕ → ℕ → Bool
entry_of g k x = eqb x (g k)

pub entry_is : (g : ℕ → ℕ) (n k : ℕ) (xs : List ℕ) → length xs ≡ n → T (every_entry (entry_of g) 0 xs) → k < n → get_or xs k 0 ≡ g k
entry_is g n k xs e t h =
    eqb→eq (get_or xs k 0) (g k)
    (subst (λ (m : ℕ). T (entry_of g m (get_or xs k 0))) (zero-add k) (entry_from (entry_of g) xs 0 t k (rw e h)))

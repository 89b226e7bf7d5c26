-- Sums over a list of entries: what a cut list gives, and what the entries of which a test holds give, where there
-- is none or just one.
use mathlib.Core.Path.{◌≡◌, refl}
use mathlib.Core.Bool.{Bool, true, false, not, cond, ◌||◌}
use mathlib.Core.List.{List, [], ◌∷◌}
use Prim.Native.Nat.{ℕ, ◌+◌}
use native.Mathlib.Omega.{arith}
use lib.Dec.{eqb}
use lib.ListN.{length}
use borrow.Author.Tests.{ne_eqb}
use Rattle.laws.specs.Walks.{if_so}
use Rattle.history.specs.Ledger.{Entry, sum_over, some_of, first_entry, keep}

-- cutting the list down is cutting f down
pub sum-keep : (p : Entry → Bool) (f : Entry → ℕ) (l : List Entry) → sum_over f (keep p l) ≡ sum_over (λ e. if_so (p e) (f e)) l
unfolding sum_over keep
sum-keep p f [] = refl
sum-keep p f (e ∷ l) = go (p e) (sum-keep p f l)
  where
    go : (b : Bool) → sum_over f (keep p l) ≡ sum_over (λ x. if_so (p x) (f x)) l
        → sum_over f (cond b (e ∷ keep p l) (keep p l)) ≡ if_so b (f e) + sum_over (λ x. if_so (p x) (f x)) l
    go true h = omega (arith, h)
    go false h = omega (arith, h)

-- p holds of none: they give nothing
sum_of_none :
    (p : Entry → Bool) (g : Entry → ℕ) (l : List Entry) → sum_over (λ e. if_so (p e) 1) l ≡ 0 → sum_over (λ e. if_so (p e) (g e)) l ≡ 0
unfolding sum_over
sum_of_none p g [] h = refl
sum_of_none p g (e ∷ l) h = go (p e) h (λ q. sum_of_none p g l q)
  where
    go : (b : Bool) → if_so b 1 + sum_over (λ x. if_so (p x) 1) l ≡ 0
        → (sum_over (λ x. if_so (p x) 1) l ≡ 0 → sum_over (λ x. if_so (p x) (g x)) l ≡ 0)
        → if_so b (g e) + sum_over (λ x. if_so (p x) (g x)) l ≡ 0
    go true q rec = absurd (omega arith)
    go false q rec = omega (arith, rec (omega arith))

-- p holds of just one: they give what the first gives
pub sum_of_one : (p : Entry → Bool) (g : Entry → ℕ) (l : List Entry) → sum_over (λ e. if_so (p e) 1) l ≡ 1
    → sum_over (λ e. if_so (p e) (g e)) l ≡ g (first_entry p l)
unfolding sum_over first_entry
sum_of_one p g [] h = absurd (omega arith)
sum_of_one p g (e ∷ l) h = go (p e) h (λ q. sum_of_none p g l q) (λ q. sum_of_one p g l q)
  where
    go : (b : Bool) → if_so b 1 + sum_over (λ x. if_so (p x) 1) l ≡ 1
        → (sum_over (λ x. if_so (p x) 1) l ≡ 0 → sum_over (λ x. if_so (p x) (g x)) l ≡ 0)
        → (sum_over (λ x. if_so (p x) 1) l ≡ 1 → sum_over (λ x. if_so (p x) (g x)) l ≡ g (first_entry p l))
        → if_so b (g e) + sum_over (λ x. if_so (p x) (g x)) l ≡ g (cond b e (first_entry p l))
    go true q zero_rest rec = omega (arith, zero_rest (omega arith))
    go false q zero_rest rec = omega (arith, rec (omega arith))

-- how many there are
pub sum-length : (l : List Entry) → sum_over (λ e. 1) l ≡ length l
unfolding sum_over
sum-length [] = refl
sum-length (e ∷ l) = omega (arith, sum-length l)

-- whether there is one, by counting
pub some-count : (p : Entry → Bool) (l : List Entry) → some_of p l ≡ not (eqb (sum_over (λ e. if_so (p e) 1) l) 0)
unfolding sum_over some_of
some-count p [] = refl
some-count p (e ∷ l) = go (p e) (some-count p l)
  where
    go : (b : Bool) → some_of p l ≡ not (eqb (sum_over (λ x. if_so (p x) 1) l) 0)
        → (b || some_of p l) ≡ not (eqb (if_so b 1 + sum_over (λ x. if_so (p x) 1) l) 0)
    go true h = rw (ne_eqb (1 + sum_over (λ x. if_so (p x) 1) l) 0 (λ z. omega arith))
    go false h =
        let e : 0 + sum_over (λ x. if_so (p x) 1) l ≡ sum_over (λ x. if_so (p x) 1) l = omega arith in
        rw e h

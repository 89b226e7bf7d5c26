-- The two walks: what each way out of a step says, a turn of the first walk, and what the walks say together.
use mathlib.Core.Path.{◌≡◌, refl, sym, ◌∙◌}
use mathlib.Core.Bool.{Bool, true, false, not, ◌&&◌, false≢true}
use Prim.Native.Nat.{ℕ, zero, suc, ◌<◌, ◌≤◌}
use native.Mathlib.Omega.{arith}
use borrow.Author.Tests.{not-true, not-false}
use Rattle.laws.specs.Walks.{all_below}
use Rattle.laws.proofs.Walks.{all_fails}
use Rattle.sound.specs.Table.{View}
use Rattle.sound.specs.Kin.{placed_at, placedb, siblings_at, siblingsb, above_at, aboveb, charges_at, chargesb, namesb, rootb, kinb}
use Rattle.sound_links.specs.declared.Gathered.{Gathered}
use Rattle.sound_links.specs.Gathers.{Gathers}
use Rattle.sound_links.specs.Linked.{first_at, second_at, linkedb}

-- two tests, the second only where the first holds
module _ (a b r : Bool) (e : r ≡ a) where
  pub first-no : not r ≡ true → false ≡ (a && b)
  first-no t = rw (← e, not-true r t)

  pub first-yes : (x : Bool) → not r ≡ false → x ≡ b → x ≡ (a && b)
  first-yes x t h = rw (← e, not-false r t) h

-- both of all, or all of both
all_both : (n : ℕ) (p q : ℕ → Bool) → all_below n (λ s. p s && q s) ≡ (all_below n p && all_below n q)
unfolding all_below
all_both zero p q = refl
all_both (suc n) p q = rw (all_both n p q) (go (all_below n p) (all_below n q) (p n) (q n))
  where
    go : (a b c d : Bool) → ((a && b) && (c && d)) ≡ ((a && c) && (b && d))
    go true true c d = refl
    go true false true d = refl
    go true false false d = refl
    go false b c d = refl

-- the first walk is at its end
pub gathered-end : (v : ℕ → View) (n s : ℕ) (g : Gathered) → Gathers v s g → s ≤ n → n ≤ s → Gathers v n g
gathered-end v n s g h a b = let e : s ≡ n = omega arith in rw e at h

module _ (n : ℕ) (v : ℕ → View) where
  first_is : all_below n (first_at n v) ≡ (siblingsb n v && placedb n v)
  unfolding first_at siblingsb placedb
  first_is = all_both n (siblings_at v) (placed_at n v)

  second_is : all_below n (second_at n v) ≡ (chargesb n v && aboveb n v)
  unfolding second_at chargesb aboveb
  second_is = all_both n (charges_at n v) (above_at v)

  -- the first walk is at its end: parents and levels are good
  pub placed_passed : (s : ℕ) → s ≤ n → n ≤ s → all_below s (first_at n v) ≡ true → placedb n v ≡ true
  placed_passed s a b h = let q : s ≡ n = omega arith in go (siblingsb n v) (placedb n v) (sym first_is ∙ (rw q at h))
    where
      go : (a b : Bool) → (a && b) ≡ true → b ≡ true
      go true b h = h
      go false b h = absurd (false≢true h)

  -- the first walk was left, or the second has spoken
  pub linked_left : (s : ℕ) (r : Bool) → s < n → r ≡ first_at n v s → not r ≡ true → false ≡ linkedb n v
  unfolding linkedb
  linked_left s r l e t = rw (all_fails (first_at n v) n s l (sym e ∙ not-true r t))

  pub linked_last : (s : ℕ) (x : Bool) → s ≤ n → n ≤ s → all_below s (first_at n v) ≡ true → x ≡ all_below n (second_at n v) → x ≡ linkedb n v
  unfolding linkedb
  linked_last s x a b h e = let q : s ≡ n = omega arith in rw (rw q at h) e

  -- all parts: the root, the two walks, the names
  pub linked_names : kinb n v ≡ (rootb n v && (linkedb n v && namesb n v))
  unfolding kinb linkedb
  linked_names = rw (first_is, second_is) (go (rootb n v) (placedb n v) (siblingsb n v) (aboveb n v) (namesb n v) (chargesb n v))
    where
      go : (r p s a m c : Bool) → (r && (p && (s && (a && (m && c))))) ≡ (r && (((s && p) && (c && a)) && m))
      go false p s a m c = refl
      go true false true a m c = refl
      go true false false a m c = refl
      go true true false a m c = refl
      go true true true a m true = and_swap_3 a m
        where
          and_swap_3 : (x y : Bool) → (x && (y && true)) ≡ (x && y)
          and_swap_3 true true = refl
          and_swap_3 true false = refl
          and_swap_3 false y = refl
      go true true true true true false = refl
      go true true true true false false = refl
      go true true true false m false = refl

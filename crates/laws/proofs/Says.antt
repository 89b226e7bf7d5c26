-- What a test says: each law turns one form of test into the fact it stands for, so that `simp says` reads
-- a whole chain of them at once.
use mathlib.Core.Path.{◌≡◌, refl, ap}
use mathlib.Core.List.{List}
use mathlib.Core.Bool.{Bool, true, false, not, ◌&&◌, ◌||◌, false≢true}
use mathlib.Core.Logic.{◌↔◌, ◌⊎◌, inl, inr, ⊎_elim}
use Prim.Native.Nat.{ℕ, ◌<◌, ◌≤◌}
use native.Mathlib.Omega.{arith}
use lib.ListN.{length, get_or}
use lib.Seq.{ext_get_or}
use lib.Dec.{eqb, leb, ltb}
use borrow.Author.Tests.{eqb-true, eqb-false, leb-true, leb-false, ltb-true, ltb-false, eq-eqb, le-leb}
use Rattle.laws.specs.Walks.{all_below}
use Rattle.laws.specs.Lists.{same_list}
use Rattle.laws.specs.Tests.{implies, either}
use Rattle.laws.proofs.Walks.{all_each, each_all}

pub and-says : (a b : Bool) → ((a && b) ≡ true) ↔ ((a ≡ true) × (b ≡ true))
and-says true b = (λ e. (refl, e), λ p. p.1)
and-says false b = (λ e. absurd (false≢true e), λ p. p.0)

pub implies-says : (a b : Bool) → (implies a b ≡ true) ↔ (a ≡ true → b ≡ true)
unfolding implies
implies-says true b = (λ e h. e, λ f. f refl)
implies-says false b = (λ e h. absurd (false≢true h), λ f. refl)

pub either-says : (a b c : Bool) → (either a b c ≡ true) ↔ ((a ≡ true → b ≡ true) × ((a ≡ true → ⊥) → c ≡ true))
unfolding either
either-says true b c = (λ e. (λ h. e, λ f. absurd (f refl)), λ p. p.0 refl)
either-says false b c = (λ e. (λ h. absurd (false≢true h), λ f. e), λ p. p.1 (λ h. false≢true h))

pub not-says : (a : Bool) → (not a ≡ true) ↔ (a ≡ true → ⊥)
not-says true = (λ e h. false≢true e, λ f. absurd (f refl))
not-says false = (λ e h. false≢true h, λ f. refl)

pub or-says : (a b : Bool) → ((a || b) ≡ true) ↔ ((a ≡ true) ⊎ (b ≡ true))
or-says true b = (λ e. inl refl, λ p. refl)
or-says false b = (λ e. inr e, λ p. ⊎_elim (λ h. absurd (false≢true h)) (λ h. h) p)

pub eq-says : (a b : ℕ) → (eqb a b ≡ true) ↔ (a ≡ b)
eq-says a b = (eqb-true a b, eq-eqb a b)

pub le-says : (a b : ℕ) → (leb a b ≡ true) ↔ (a ≤ b)
le-says a b = (leb-true a b, le-leb a b)

pub all-says : (n : ℕ) (p : ℕ → Bool) → (all_below n p ≡ true) ↔ ((i : ℕ) → i < n → p i ≡ true)
all-says n p = (λ e i l. all_each p n i l e, each_all p n)

pub same-says : (a b : List ℕ) → (same_list a b ≡ true) ↔ (a ≡ b)
unfolding same_list
same-says a b = (to, from)
  where
    to : (eqb (length a) (length b) && all_below (length a) (λ k. eqb (get_or a k 0) (get_or b k 0))) ≡ true → a ≡ b
    to e =
        let p = (and-says (eqb (length a) (length b)) (all_below (length a) (λ k. eqb (get_or a k 0) (get_or b k 0)))).0 e in
        ext_get_or 0 a b (eqb-true _ _ p.0) (λ i l. eqb-true _ _ (all_each (λ k. eqb (get_or a k 0) (get_or b k 0)) (length a) i l p.1))

    from : a ≡ b → (eqb (length a) (length b) && all_below (length a) (λ k. eqb (get_or a k 0) (get_or b k 0))) ≡ true
    from q =
        (and-says _ _).1 (
          eq-eqb _ _ (ap length q),
          each_all (λ k. eqb (get_or a k 0) (get_or b k 0)) (length a)
              (λ i l. eq-eqb _ _ (ap (λ (x : List ℕ). get_or x i 0) q)),
        )

pub ruleset says = (and-says, implies-says, either-says, not-says, or-says, eq-says, le-says, all-says, same-says)

-- what isn't true is false
pub untrue : (b : Bool) → (b ≡ true → ⊥) → b ≡ false
untrue true f = absurd (f refl)
untrue false f = refl

-- two tests that hold together are the same
pub same_test : (a b : Bool) → (b ≡ true → a ≡ true) → (b ≡ false → a ≡ false) → a ≡ b
same_test a true f g = f refl
same_test a false f g = g refl

-- two numbers are the same or not
pub same_or : (a b : ℕ) → (a ≡ b) ⊎ (a ≡ b → ⊥)
same_or a b = go (eqb a b) refl
  where
    go : (t : Bool) → eqb a b ≡ t → (a ≡ b) ⊎ (a ≡ b → ⊥)
    go true e = inl (eqb-true a b e)
    go false e = inr (eqb-false a b e)

-- a number is below another or not
pub lt-or : (a b : ℕ) → (a < b) ⊎ (b ≤ a)
lt-or a b = go (ltb a b) refl
  where
    go : (t : Bool) → ltb a b ≡ t → (a < b) ⊎ (b ≤ a)
    go true e = inl (ltb-true a b e)
    go false e = inr (ltb-false a b e)

-- of two numbers that differ, one is below the other
pub apart : (a b : ℕ) → (a ≡ b → ⊥) → (a < b) ⊎ (b < a)
apart a b n = go (leb a b) refl
  where
    go : (t : Bool) → leb a b ≡ t → (a < b) ⊎ (b < a)
    go true e = inl (lt_of (leb-true a b e))
      where
        lt_of : a ≤ b → a < b
        lt_of h = omega arith
    go false e = inr (leb-false a b e)

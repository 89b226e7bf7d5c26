-- The search `first_below`: a loop that finds the lowest index, and what either answer says.
use mathlib.Core.Path.{◌≡◌, refl, sym, ◌∙◌}
use mathlib.Core.Bool.{Bool, true, false, cond}
use mathlib.Core.Logic.{⊎_elim}
use Prim.Native.Nat.{ℕ, zero, suc, ◌+◌, ◌<◌, ◌≤◌}
use native.Mathlib.Nat.{not-suc-le-zero}
use native.Mathlib.Numerals.{add-one}
use native.Mathlib.Omega.{arith}
use Rattle.std.specs.Prelude.{Option, Some, None}
use Rattle.std.specs.Option.{option_or, MatchOption}
use Rattle.laws.specs.Walks.{first_below, FirstAt, NoneBelow}
use Rattle.laws.proofs.Walks.{split_lt}

module _ (p : ℕ → Bool) where
  pub first-zero : first_below 0 p ≡ None
  unfolding first_below
  first-zero = refl

  pub first_more : (i : ℕ) → first_below i p ≡ None → p i ≡ false → first_below (i + 1) p ≡ None
  unfolding first_below
  first_more i h e = rw (add-one, h, e)

  -- none below i, and i: that is the first below any n above i
  pub first-at : (n i : ℕ) → i < n → first_below i p ≡ None → p i ≡ true → first_below n p ≡ Some i
  unfolding first_below
  first-at zero i l h e = absurd (not-suc-le-zero l)
  first-at (suc n) i l h e = ⊎_elim (λ q. here q) (λ m. rw (first-at n i m h e)) (split_lt l)
    where
      here : i ≡ n → option_or (first_below n p) (cond (p n) (Some n) None) ≡ Some i
      here q = rw (← q, h, e)

pub first_cong : (n : ℕ) (p q : ℕ → Bool) → ((i : ℕ) → i < n → p i ≡ q i) → first_below n p ≡ first_below n q
unfolding first_below
first_cong zero p q h = refl
first_cong (suc n) p q h = rw (first_cong n p q (λ i l. h i (omega arith)), h n (omega arith))

first-none : (n : ℕ) (p : ℕ → Bool) → first_below n p ≡ None → (k : ℕ) → k < n → p k ≡ false
unfolding first_below
first-none zero p e k l = absurd (not-suc-le-zero l)
first-none (suc n) p e k l =
    ⊎_elim (λ q. rw q (here (first_below n p) (p n) e)) (λ m. first-none n p (lower (first_below n p) (p n) e) k m) (split_lt l)
  where
    here : (a : Option ℕ) (b : Bool) → option_or a (cond b (Some n) None) ≡ None → b ≡ false
    here (Some i) b e' = cc
    here None true e' = cc
    here None false e' = refl

    lower : (a : Option ℕ) (b : Bool) → option_or a (cond b (Some n) None) ≡ None → a ≡ None
    lower (Some i) b e' = e'
    lower None b e' = refl

pub no-first : (n : ℕ) (p : ℕ → Bool) → first_below n p ≡ None → NoneBelow n p
no-first n p e = record { none = first-none n p e }

pub nothing-below : (p : ℕ → Bool) (n : ℕ) → ((k : ℕ) → k < n → p k ≡ false) → first_below n p ≡ None
nothing-below p zero h = first-zero p
nothing-below p (suc n) h = rw (← add-one n) (first_more p n (nothing-below p n (λ k l. h k (omega arith))) (h n (omega arith)))

pub first_is : (n : ℕ) (p : ℕ → Bool) (i : ℕ) → first_below n p ≡ Some i → FirstAt n p i
unfolding first_below
first_is zero p i e = let z : ◌≡◌ {A = ℕ} 0 1 = cc in absurd (omega arith)
first_is (suc n) p i e = go (first_below n p) refl e (λ j q. first_is n p j q)
  where
    new : (b : Bool) → p n ≡ b → first_below n p ≡ None → cond b (Some n) None ≡ Some i → FirstAt (suc n) p i
    new true q f r =
        let e' : n ≡ i = cc in
        record { low = omega arith; here = rw (← e') q; none = λ k l. first-none n p f k (omega arith) }
    new false q f r = let z : ◌≡◌ {A = ℕ} 0 1 = cc in absurd (omega arith)

    go : (a : Option ℕ) → first_below n p ≡ a → option_or a (cond (p n) (Some n) None) ≡ Some i
        → ((j : ℕ) → first_below n p ≡ Some j → FirstAt n p j) → FirstAt (suc n) p i
    go (Some j) q r rec =
        let f = rec i (q ∙ r) in
        record { low = omega (arith, f.low); here = f.here; none = f.none }
    go None q r rec = new (p n) refl q r

-- what `find` says of the numbers below n
pub found_first : (p : ℕ → Bool) (n : ℕ) (o : Option ℕ)
    → MatchOption o ((k : ℕ) → 0 ≤ k → k < n → p k ≡ false)
    (λ i. (0 ≤ i) × (i < n) × (p i ≡ true) × ((k : ℕ) → 0 ≤ k → k < i → p k ≡ false))
    → o ≡ first_below n p
found_first p n None h = sym (nothing-below p n (λ k l. h k (omega arith) l))
found_first p n (Some i) h = sym (first-at p n i h.1 (nothing-below p i (λ k l. h.3 k (omega arith) l)) h.2)

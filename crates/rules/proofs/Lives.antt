-- The laws of a life cycle that crates above cite, so that none of them looks at the bytes: what the card writes is known, and so is
-- what CREATE takes; what ACTIVATE takes, as a sentence.
use mathlib.Core.Path.{◌≡◌, refl, subst}
use mathlib.Core.Bool.{true, false≢true}
use Rattle.std.specs.Prelude.{Option, Some, None}
use mathlib.Core.Logic.{◌↔◌, ◌⊎◌, inl, inr, ⊎_elim}
use Prim.Native.Nat.{ℕ}
use Rattle.laws.proofs.Says.{and-says, or-says}
use Rattle.rules.specs.declared.life_cycle.Life.{Life}
use Rattle.rules.specs.declared.life_cycle.Life.TheVariants.{Creation, Initialisation, Activated, Deactivated, Terminated}
use Rattle.rules.specs.Life.{same_life, life_of, creation, initialisation, activated, deactivated, known_life, new_life, can_activate}
use Rattle.rules.specs.Life.{activated_byte, deactivated_byte, terminated_byte}

-- the byte that ACTIVATE and the maker write is activated
pub activated_is : life_of activated_byte ≡ activated
unfolding life_of
activated_is = refl

pub activated-known : known_life activated_byte ≡ true
unfolding known_life life_of
activated-known = refl

pub deactivated-known : known_life deactivated_byte ≡ true
unfolding known_life life_of
deactivated-known = refl

pub terminated-known : known_life terminated_byte ≡ true
unfolding known_life life_of
terminated-known = refl

pub new_known : (x : ℕ) → new_life x ≡ true → known_life x ≡ true
unfolding new_life
new_known x e = ((and-says _ _).0 e).0

-- the test tells whether two classes are the same one
same-is : (a b : Option Life) → same_life a b ≡ true → a ≡ b
same-is None None e = refl
same-is (Some Creation) (Some Creation) e = refl
same-is (Some Initialisation) (Some Initialisation) e = refl
same-is (Some Activated) (Some Activated) e = refl
same-is (Some Deactivated) (Some Deactivated) e = refl
same-is (Some Terminated) (Some Terminated) e = refl
same-is _ _ e = absurd (false≢true e)

same-self : (a : Option Life) → same_life a a ≡ true
same-self None = refl
same-self (Some l) = elim l as (λ v. same_life (Some v) (Some v) ≡ true) [ Creation ↦ refl | Initialisation ↦ refl | Activated ↦ refl | Deactivated ↦ refl | Terminated ↦ refl ]

pub same-says : (a b : Option Life) → (same_life a b ≡ true) ↔ (a ≡ b)
same-says a b = (same-is a b, λ e. subst (λ (z : Option Life). same_life a z ≡ true) e (same-self a))

pub activates_says : (x : ℕ) → (can_activate x ≡ true) ↔ ((life_of x ≡ creation) ⊎ ((life_of x ≡ initialisation) ⊎ (life_of x ≡ deactivated)))
unfolding can_activate
activates_says x = (
  (λ h. ⊎_elim (λ e. inl ((same-says _ _).0 e))
      (λ g. inr (⊎_elim (λ e. inl ((same-says _ _).0 e)) (λ e. inr ((same-says _ _).0 e)) ((or-says _ _).0 g))) ((or-says _ _).0 h)),
  (λ h. (or-says _ _).1
      (⊎_elim (λ e. inl ((same-says _ _).1 e))
      (λ g. inr ((or-says _ _).1 (⊎_elim (λ e. inl ((same-says _ _).1 e)) (λ e. inr ((same-says _ _).1 e)) g))) h)),
)

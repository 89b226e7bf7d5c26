-- One scheme for every statement that settles its result: it allows one result alone, which can be named.
use mathlib.Core.Path.{◌≡◌, sym, ◌∙◌}
use Rattle.laws.specs.Settled.{Settles}

pub settled : {A : Type 0} (Allowed : A → Type 0) (only : A) → ((x : A) → Allowed x → x ≡ only) → Settles A Allowed
settled Allowed only told x y p q = told x p ∙ sym (told y q)

-- two results side by side
pub both_are : {A B : Type 0} (a : A) (b : B) (p : A × B) → p.0 ≡ a → p.1 ≡ b → p ≡ (a, b)
both_are a b p e f = rw (← e, ← f)

pub pair_settled : {A B : Type 0} (a : A) (b : B) → Settles (A × B) (λ p. (p.0 ≡ a) × (p.1 ≡ b))
pair_settled a b = settled (λ p. (p.0 ≡ a) × (p.1 ≡ b)) (a, b) (λ p k. both_are a b p k.0 k.1)

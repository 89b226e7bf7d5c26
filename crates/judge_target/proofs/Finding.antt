-- What a search found.
use mathlib.Core.Path.{◌≡◌, ap, ◌∙◌}
use Prim.Native.Nat.{ℕ}
use borrow.Author.Tests.{eq-eqb, ne_eqb}
use Rattle.std.specs.Prelude.{Option, Some}
use Rattle.std.specs.Option.{option_or}
use Rattle.sound.specs.Table.{View}
use Rattle.sound.specs.Kinship.{child_named}
use Rattle.kinship.specs.Search.{df_named}
use Rattle.judge_target.specs.Target.{itself}

-- slot s is tried: y is the identifier that stands there
module _ (v : ℕ → View) (x s : ℕ) (g : Option ℕ) where
  pub try_yes : {y : ℕ} → y ≡ (v s).identifier → y ≡ x → Some s ≡ option_or (itself v x s) g
  unfolding itself
  try_yes {y} e f = rw (← e, eq-eqb y x f)

  pub try_no : {y : ℕ} {z : Option ℕ} → y ≡ (v s).identifier → (y ≡ x → ⊥) → z ≡ g → z ≡ option_or (itself v x s) g
  unfolding itself
  try_no {y} e f h = rw (← e, ne_eqb y x f) h

-- the last three tries, from the parent p of d
pub beside_at : (v : ℕ → View) (n d x : ℕ) {p : ℕ} {z : Option ℕ} → p ≡ (v d).parent
    → z ≡ option_or (itself v x p) (option_or (child_named n v d x) (df_named n v p x))
    → z ≡ option_or (itself v x (v d).parent) (option_or (child_named n v d x) (df_named n v (v d).parent x))
beside_at v n d x e h = h ∙ ap (λ (p : ℕ). option_or (itself v x p) (option_or (child_named n v d x) (df_named n v p x))) e

-- When a statement settles what it is about: any two results that it allows are equal.
use Rattle.std.specs.Prelude.{◌≡◌}

abbrev pub Settles : (A : Type 0) → (A → Type 0) → Type 0
Settles A Allowed = (x y : A) → Allowed x → Allowed y → x ≡ y

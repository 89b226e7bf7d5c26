-- Loops that count the slots of which a test holds: r is what it answered of slot s, o what that counts.
use mathlib.Core.Path.{◌≡◌, refl, ap, ◌∙◌}
use mathlib.Core.Bool.{Bool, true, false}
use Prim.Native.Nat.{ℕ, ◌+◌, ◌≤◌}
use native.Mathlib.Omega.{arith}
use Rattle.std.specs.Int.{from_bool}
use Rattle.laws.specs.Walks.{count_below, if_so}
use Rattle.laws.proofs.Sums.{count_more}

counts : (r : Bool) → from_bool r ≡ if_so r 1
counts true = refl
counts false = refl

pub counts-low : (r : Bool) (o : ℕ) → o ≡ from_bool r → o ≤ 1
counts-low true o e = omega (arith, e)
counts-low false o e = omega (arith, e)

module _ (p : ℕ → Bool) where
  pub count_turn : (s sum o : ℕ) (r : Bool) → sum ≡ count_below s p → r ≡ p s → o ≡ from_bool r → sum + o ≡ count_below (s + 1) p
  count_turn s sum o r e f g = omega (arith, count_more p s, e, g ∙ counts r, ap (λ (b : Bool). if_so b 1) f)

  pub count-end : (n s sum : ℕ) → s ≤ n → n ≤ s → sum ≡ count_below s p → sum ≡ count_below n p
  count-end n s sum a b e = let q : s ≡ n = omega arith in rw q at e

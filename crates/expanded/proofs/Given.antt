-- A loop over the objects of a row that an iterator gives: what is left of `every` and of `some`.
use mathlib.Core.Path.{◌≡◌, sym, ◌∙◌, ap}
use mathlib.Core.Bool.{Bool, true, false}
use mathlib.Core.List.{List, [], ◌∷◌}
use Prim.Native.Nat.{ℕ}
use Rattle.std.specs.Prelude.{Option}
use Rattle.std.specs.Borrow.{Bor}
use Rattle.expanded.specs.Object.{Object, given, every, some}

-- f of what was given: it is p, of which a callee told r
pub told : (f : Object → Bool) {o p : Option (ℕ × Bor (List ℕ))} {r b : Bool} → o ≡ p → r ≡ f (given p) → r ≡ b → f (given o) ≡ b
told f e q t = ap (λ (x : Option (ℕ × Bor (List ℕ))). f (given x)) e ∙ sym q ∙ t

-- a loop that asks f of each object, and stops at one that fails
pub record Each (f : Object → Bool) (all rest : List Object) : Type 0 where
  pub left : every f all ≡ every f rest

module _ {f : Object → Bool} {all rest : List Object} (inv : Each f all rest) where
  pub each_over : rest ≡ [] → true ≡ every f all
  unfolding every
  each_over e = sym (inv.left ∙ ap (every f) e)

  module _ {o : Object} {more : List Object} (e : rest ≡ o ∷ more) where
    pub each_fails : f o ≡ false → false ≡ every f all
    unfolding every
    each_fails q = sym (inv.left ∙ ap (every f) e ∙ rw q)

    pub each_on : f o ≡ true → Each f all more
    unfolding every
    each_on q = record { left = inv.left ∙ ap (every f) e ∙ rw q }

-- a loop that asks f of each object, and stops at one that holds
pub record Some (f : Object → Bool) (all rest : List Object) : Type 0 where
  pub left : some f all ≡ some f rest

module _ {f : Object → Bool} {all rest : List Object} (inv : Some f all rest) where
  pub some_over : rest ≡ [] → false ≡ some f all
  unfolding some
  some_over e = sym (inv.left ∙ ap (some f) e)

  module _ {o : Object} {more : List Object} (e : rest ≡ o ∷ more) where
    pub some_holds : f o ≡ true → true ≡ some f all
    unfolding some
    some_holds q = sym (inv.left ∙ ap (some f) e ∙ rw q)

    pub some_on : f o ≡ false → Some f all more
    unfolding some
    some_on q = record { left = inv.left ∙ ap (some f) e ∙ rw q }

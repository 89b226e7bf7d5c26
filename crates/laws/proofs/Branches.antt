-- One step through a chain of branches (`cond`): the fact that a test gave picks its branch. Every early
-- return of a function whose statement is such a chain is then one `search`.
use mathlib.Core.Path.{◌≡◌, refl, sym, ◌∙◌, ap}
use mathlib.Core.Bool.{Bool, true, false, cond, not}
use mathlib.Core.List.{List, ◌∷◌}
use Prim.Native.Nat.{ℕ, ◌<◌, ◌≤◌}
use lib.Dec.{eqb, ltb, leb}
use borrow.Author.Tests.{lt-ltb, le-ltb, le-leb, lt-leb, eq-eqb, ne_eqb, not-true, not-false}

module _ {A : Type 0} where
  pub on : (b : Bool) (p q : A) {x : A} → b ≡ true → x ≡ p → x ≡ cond b p q
  on b p q e h = h ∙ ap (λ (t : Bool). cond t p q) (sym e)

  pub off : (b : Bool) (p q : A) {x : A} → b ≡ false → x ≡ q → x ≡ cond b p q
  off b p q e h = h ∙ ap (λ (t : Bool). cond t p q) (sym e)

  pub is_eq : (a b : ℕ) (p q : A) {x : A} → a ≡ b → x ≡ p → x ≡ cond (eqb a b) p q
  is_eq a b p q e h = on (eqb a b) p q (eq-eqb a b e) h

  pub not-eq : (a b : ℕ) (p q : A) {x : A} → (a ≡ b → ⊥) → x ≡ q → x ≡ cond (eqb a b) p q
  not-eq a b p q e h = off (eqb a b) p q (ne_eqb a b e) h

  pub is_lt : (a b : ℕ) (p q : A) {x : A} → a < b → x ≡ p → x ≡ cond (ltb a b) p q
  is_lt a b p q e h = on (ltb a b) p q (lt-ltb a b e) h

  pub not-lt : (a b : ℕ) (p q : A) {x : A} → b ≤ a → x ≡ q → x ≡ cond (ltb a b) p q
  not-lt a b p q e h = off (ltb a b) p q (le-ltb a b e) h

  pub is_le : (a b : ℕ) (p q : A) {x : A} → a ≤ b → x ≡ p → x ≡ cond (leb a b) p q
  is_le a b p q e h = on (leb a b) p q (le-leb a b e) h

  pub not-le : (a b : ℕ) (p q : A) {x : A} → b < a → x ≡ q → x ≡ cond (leb a b) p q
  not-le a b p q e h = off (leb a b) p q (lt-leb a b e) h

  -- a test that a callee made: r is what it answered, b what it ensures of it
  pub called : {r : Bool} (b : Bool) (p q : A) {x : A} → r ≡ b → r ≡ true → x ≡ p → x ≡ cond b p q
  called b p q e t h = on b p q (sym e ∙ t) h

  pub refused : {r : Bool} (b : Bool) (p q : A) {x : A} → r ≡ b → r ≡ false → x ≡ q → x ≡ cond b p q
  refused b p q e t h = off b p q (sym e ∙ t) h

  pub called_not : {r : Bool} (b : Bool) (p q : A) {x : A} → r ≡ b → not r ≡ true → x ≡ q → x ≡ cond b p q
  called_not {r} b p q e t h = off b p q (sym e ∙ not-true r t) h

  pub refused-not : {r : Bool} (b : Bool) (p q : A) {x : A} → r ≡ b → not r ≡ false → x ≡ p → x ≡ cond b p q
  refused-not {r} b p q e t h = on b p q (sym e ∙ not-false r t) h

  -- a test that must not hold
  pub unless : {r : Bool} (b : Bool) (p q : A) {x : A} → r ≡ b → r ≡ true → x ≡ q → x ≡ cond (not b) p q
  unless b p q e t h = off (not b) p q (ap not (sym e ∙ t)) h

  pub unless_not : {r : Bool} (b : Bool) (p q : A) {x : A} → r ≡ b → r ≡ false → x ≡ p → x ≡ cond (not b) p q
  unless_not b p q e t h = on (not b) p q (ap not (sym e ∙ t)) h

  pub unless_eq : (a b : ℕ) (p q : A) {x : A} → a ≡ b → x ≡ q → x ≡ cond (not (eqb a b)) p q
  unless_eq a b p q e h = off (not (eqb a b)) p q (ap not (eq-eqb a b e)) h

  pub unless_ne : (a b : ℕ) (p q : A) {x : A} → (a ≡ b → ⊥) → x ≡ p → x ≡ cond (not (eqb a b)) p q
  unless_ne a b p q e h = on (not (eqb a b)) p q (ap not (ne_eqb a b e)) h

  -- a test of a number that a callee gave: z is what it gave, a what it ensures of it
  pub got_eq : {z : ℕ} (a b : ℕ) (p q : A) {x : A} → z ≡ a → z ≡ b → x ≡ p → x ≡ cond (eqb a b) p q
  got_eq a b p q e t h = is_eq a b p q (sym e ∙ t) h

  pub got_ne : {z : ℕ} (a b : ℕ) (p q : A) {x : A} → z ≡ a → (z ≡ b → ⊥) → x ≡ q → x ≡ cond (eqb a b) p q
  got_ne a b p q e t h = not-eq a b p q (λ i. t (e ∙ i)) h

  pub eq_got : {z : ℕ} (a b : ℕ) (p q : A) {x : A} → z ≡ b → a ≡ z → x ≡ p → x ≡ cond (eqb a b) p q
  eq_got a b p q e t h = is_eq a b p q (t ∙ e) h

  pub ne_got : {z : ℕ} (a b : ℕ) (p q : A) {x : A} → z ≡ b → (a ≡ z → ⊥) → x ≡ q → x ≡ cond (eqb a b) p q
  ne_got a b p q e t h = not-eq a b p q (λ i. t (i ∙ sym e)) h

pub negated : {a b : Bool} → a ≡ b → not a ≡ not b
negated e = ap not e

-- the same test of the same number
pub tested : {z a : ℕ} (b : ℕ) → z ≡ a → eqb z b ≡ eqb a b
tested b e = ap (λ (y : ℕ). eqb y b) e

pub same-cons : {x y : ℕ} {xs ys : List ℕ} → x ≡ y → xs ≡ ys → x ∷ xs ≡ y ∷ ys
same-cons e h = cc

-- tests of the code's own numbers; of what a callee answered; tests that must not hold; of a number that a callee
-- gave; the first two and what goes with them
pub ruleset tests = (is_eq, not-eq, is_lt, not-lt, is_le, not-le, refl)

pub ruleset answers = (called, refused, called_not, refused-not)

pub ruleset unlesses = (unless, unless_not, unless_eq, unless_ne)

pub ruleset given = (got_eq, got_ne, eq_got, ne_got)

pub ruleset branches = (tests, answers, negated, same-cons)

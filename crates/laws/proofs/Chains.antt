-- One step through a chain of `◌&&◌` or `◌||◌`: the fact that a test gave picks its side. As `Branches`
-- for `cond`.
use mathlib.Core.Path.{◌≡◌, refl, sym, ◌∙◌, ap}
use mathlib.Core.Bool.{Bool, true, false, not, ◌&&◌, ◌||◌}
use Prim.Native.Nat.{ℕ, ◌<◌, ◌≤◌}
use lib.Dec.{eqb, leb}
use borrow.Author.Tests.{le-leb, lt-leb, eq-eqb, ne_eqb, not-true, not-false}
use Rattle.laws.specs.Tests.{implies}

pub and-on : (b q : Bool) {x : Bool} → b ≡ true → x ≡ q → x ≡ (b && q)
and-on b q e h = h ∙ ap (λ (t : Bool). t && q) (sym e)

pub and_off : (b q : Bool) {x : Bool} → b ≡ false → x ≡ false → x ≡ (b && q)
and_off b q e h = h ∙ ap (λ (t : Bool). t && q) (sym e)

pub or-on : (b q : Bool) {x : Bool} → b ≡ true → x ≡ true → x ≡ (b || q)
or-on b q e h = h ∙ ap (λ (t : Bool). t || q) (sym e)

pub or_off : (b q : Bool) {x : Bool} → b ≡ false → x ≡ q → x ≡ (b || q)
or_off b q e h = h ∙ ap (λ (t : Bool). t || q) (sym e)

pub eq-and : (a b : ℕ) (q : Bool) {x : Bool} → a ≡ b → x ≡ q → x ≡ (eqb a b && q)
eq-and a b q e h = and-on (eqb a b) q (eq-eqb a b e) h

pub ne-and : (a b : ℕ) (q : Bool) {x : Bool} → (a ≡ b → ⊥) → x ≡ false → x ≡ (eqb a b && q)
ne-and a b q e h = and_off (eqb a b) q (ne_eqb a b e) h

pub le-and : (a b : ℕ) (q : Bool) {x : Bool} → a ≤ b → x ≡ q → x ≡ (leb a b && q)
le-and a b q e h = and-on (leb a b) q (le-leb a b e) h

pub gt_and : (a b : ℕ) (q : Bool) {x : Bool} → b < a → x ≡ false → x ≡ (leb a b && q)
gt_and a b q e h = and_off (leb a b) q (lt-leb a b e) h

-- neither number
pub not-and : (a b : ℕ) (q : Bool) {x : Bool} → (a ≡ b → ⊥) → x ≡ q → x ≡ (not (eqb a b) && q)
not-and a b q e h = and-on (not (eqb a b)) q (ap not (ne_eqb a b e)) h

pub is_and : (a b : ℕ) (q : Bool) {x : Bool} → a ≡ b → x ≡ false → x ≡ (not (eqb a b) && q)
is_and a b q e h = and_off (not (eqb a b)) q (ap not (eq-eqb a b e)) h

pub not_last : (a b : ℕ) {x : Bool} → (a ≡ b → ⊥) → x ≡ true → x ≡ not (eqb a b)
not_last a b e h = h ∙ ap not (sym (ne_eqb a b e))

pub is_last : (a b : ℕ) {x : Bool} → a ≡ b → x ≡ false → x ≡ not (eqb a b)
is_last a b e h = h ∙ ap not (sym (eq-eqb a b e))

pub eq-or : (a b : ℕ) (q : Bool) {x : Bool} → a ≡ b → x ≡ true → x ≡ (eqb a b || q)
eq-or a b q e h = or-on (eqb a b) q (eq-eqb a b e) h

pub ne-or : (a b : ℕ) (q : Bool) {x : Bool} → (a ≡ b → ⊥) → x ≡ q → x ≡ (eqb a b || q)
ne-or a b q e h = or_off (eqb a b) q (ne_eqb a b e) h

-- a test that a callee made: r is what it answered, b what it ensures of it
pub called_and : {r : Bool} (b q : Bool) {x : Bool} → r ≡ b → not r ≡ false → x ≡ q → x ≡ (b && q)
called_and {r} b q e t h = and-on b q (sym e ∙ not-false r t) h

pub refused-and : {r : Bool} (b q : Bool) {x : Bool} → r ≡ b → not r ≡ true → x ≡ false → x ≡ (b && q)
refused-and {r} b q e t h = and_off b q (sym e ∙ not-true r t) h

-- a chain of tests that must not hold
pub unmet_and : {r : Bool} (b q : Bool) {x : Bool} → r ≡ b → r ≡ false → x ≡ q → x ≡ (not b && q)
unmet_and b q e t h = and-on (not b) q (ap not (sym e ∙ t)) h

pub met-and : {r : Bool} (b q : Bool) {x : Bool} → r ≡ b → r ≡ true → x ≡ false → x ≡ (not b && q)
met-and b q e t h = and_off (not b) q (ap not (sym e ∙ t)) h

pub called_or : {r : Bool} (b q : Bool) {x : Bool} → r ≡ b → r ≡ true → x ≡ true → x ≡ (b || q)
called_or b q e t h = or-on b q (sym e ∙ t) h

pub refused-or : {r : Bool} (b q : Bool) {x : Bool} → r ≡ b → r ≡ false → x ≡ q → x ≡ (b || q)
refused-or b q e t h = or_off b q (sym e ∙ t) h

-- a test of a number that a callee gave
pub got_and : {z : ℕ} (a b : ℕ) (q : Bool) {x : Bool} → z ≡ a → z ≡ b → x ≡ q → x ≡ (eqb a b && q)
got_and a b q e t h = eq-and a b q (sym e ∙ t) h

pub ungot_and : {z : ℕ} (a b : ℕ) (q : Bool) {x : Bool} → z ≡ a → (z ≡ b → ⊥) → x ≡ false → x ≡ (eqb a b && q)
ungot_and a b q e t h = ne-and a b q (λ i. t (e ∙ i)) h

pub got_not-and : {z : ℕ} (a b : ℕ) (q : Bool) {x : Bool} → z ≡ a → (z ≡ b → ⊥) → x ≡ q → x ≡ (not (eqb a b) && q)
got_not-and a b q e t h = not-and a b q (λ i. t (e ∙ i)) h

pub got_is_and : {z : ℕ} (a b : ℕ) (q : Bool) {x : Bool} → z ≡ a → z ≡ b → x ≡ false → x ≡ (not (eqb a b) && q)
got_is_and a b q e t h = is_and a b q (sym e ∙ t) h

pub got_or : {z : ℕ} (a b : ℕ) (q : Bool) {x : Bool} → z ≡ a → z ≡ b → x ≡ true → x ≡ (eqb a b || q)
got_or a b q e t h = eq-or a b q (sym e ∙ t) h

pub ungot_or : {z : ℕ} (a b : ℕ) (q : Bool) {x : Bool} → z ≡ a → (z ≡ b → ⊥) → x ≡ q → x ≡ (eqb a b || q)
ungot_or a b q e t h = ne-or a b q (λ i. t (e ∙ i)) h

-- a test that is made only where f holds
pub implies-no : (f b : Bool) → f ≡ false → true ≡ implies f b
unfolding implies
implies-no f b e = rw e

pub implies-yes : (f b x : Bool) → f ≡ true → x ≡ b → x ≡ implies f b
unfolding implies
implies-yes f b x e h = rw e h

pub ruleset ands = (ne-and, eq-and, gt_and, le-and, refl)

pub ruleset nots = (not-and, is_and, not_last, is_last, refl)

pub ruleset ors = (ne-or, eq-or, refl)

pub ruleset calls = (refused-and, called_and)

pub ruleset asked = (refused-or, called_or, refl)

-- Nested conditions: where no template is left, and one step down with one template less.
use mathlib.Core.Path.{◌≡◌, refl, ◌∙◌, ap}
use mathlib.Core.Bool.{Bool, true, false, cond, ◌&&◌}
use mathlib.Core.List.{List, []}
use Prim.Native.Nat.{ℕ, zero, suc, ◌-◌}
use native.Mathlib.Omega.{arith}
use lib.Dec.{eqb}
use borrow.Author.Tests.{ne_eqb}
use Rattle.rules.specs.declared.Sets.{Sets}
use Rattle.rules.specs.Condition.{holds_of}
use Rattle.expanded.specs.Object.{object, cut, objects_of, every, some, several}
use Rattle.expanded.specs.Condition.{formed_plain, is_template, formed, holds_plain, holds}

pub formed-cut : (left : ℕ) → formed left cut ≡ false
unfolding formed
formed-cut zero = refl
formed-cut (suc left) = refl

-- 90 and 97 are well formed with nothing in them, and no other
pub formed-empty : (tag : ℕ) → (tag ≡ 0x90 → ⊥) → eqb tag 0x97 ≡ formed_plain tag []
unfolding formed_plain
formed-empty tag h = rw (ne_eqb tag 0x90 h) (go (eqb tag 0x97) (eqb tag 0x9E))
  where
    go : (a b : Bool) → a ≡ cond a true (cond b false false)
    go true b = refl
    go false true = refl
    go false false = refl

-- what is no template may stand at any depth
pub formed-plain : (left tag : ℕ) (v : List ℕ) {x : Bool} → is_template tag ≡ false → x ≡ formed_plain tag v
    → x ≡ formed (suc left) (object tag v)
unfolding formed
formed-plain left tag v h q = rw h q

pub formed-none : (left tag : ℕ) (v : List ℕ) {x : Bool} → left ≡ 0 → x ≡ formed_plain tag v → x ≡ formed left (object tag v)
unfolding formed
formed-none zero tag v h q = q
formed-none (suc left) tag v h q = absurd (omega arith)

pub formed-deep : (left tag : ℕ) (v : List ℕ) {x : Bool} → (left ≡ 0 → ⊥)
    → x ≡ cond (is_template tag) (several (objects_of v) && every (formed (left - 1)) (objects_of v)) (formed_plain tag v)
    → x ≡ formed left (object tag v)
unfolding formed
formed-deep zero tag v h q = absurd (h refl)
formed-deep (suc left) tag v h q =
    let k : suc left - 1 ≡ left = omega arith in
    q ∙ ap (λ (j : ℕ). cond (is_template tag) (several (objects_of v) && every (formed j) (objects_of v)) (formed_plain tag v)) k

pub holds-cut : (left : ℕ) (x : Sets) → holds left x cut ≡ false
unfolding holds
holds-cut zero x = refl
holds-cut (suc left) x = refl

pub holds-none : (left : ℕ) (x : Sets) (tag : ℕ) (v : List ℕ) {b : Bool} → left ≡ 0
    → b ≡ holds_plain x tag v → b ≡ holds left x (object tag v)
unfolding holds
holds-none zero x tag v h q = q
holds-none (suc left) x tag v h q = absurd (omega arith)

pub holds-deep : (left : ℕ) (x : Sets) (tag : ℕ) (v : List ℕ) {b : Bool} → (left ≡ 0 → ⊥)
    → b ≡ cond (eqb tag 0xA0) (some (holds (left - 1) x) (objects_of v))
    (cond (eqb tag 0xAF) (every (holds (left - 1) x) (objects_of v)) (holds_plain x tag v))
    → b ≡ holds left x (object tag v)
unfolding holds
holds-deep zero x tag v h q = absurd (h refl)
holds-deep (suc left) x tag v h q =
    let k : suc left - 1 ≡ left = omega arith in
    q
    ∙ ap (λ (j : ℕ). cond (eqb tag 0xA0) (some (holds j x) (objects_of v))
    (cond (eqb tag 0xAF) (every (holds j x) (objects_of v)) (holds_plain x tag v))) k

-- an SC byte that a callee gave
pub held : (x : Sets) (a : ℕ) {z : ℕ} {r : Bool} → r ≡ holds_of z x → z ≡ a → r ≡ holds_of a x
held x a q e = q ∙ ap (λ (k : ℕ). holds_of k x) e

-- What stands behind an object's tag and length: the life cycle in words, piece by piece, and how long it is.
use native.Mathlib.Omega.{arith}
use mathlib.Core.Path.{◌≡◌, refl}
use mathlib.Core.Bool.{Bool, true, false, cond, ◌&&◌}
use mathlib.Core.List.{List, [], ◌∷◌, ◌++◌}
use Prim.Native.Nat.{ℕ, ◌+◌, ◌-◌, ◌*◌, ◌≤◌}
use lib.Dec.{eqb}
use lib.ListN.{length, get_or}
use borrow.Author.Tests.{eq-eqb, eqb-true}
use Rattle.laws.proofs.Says.{and-says}
use Rattle.std.specs.Prelude.{Option, Some, None}
use Rattle.rules.specs.declared.life_cycle.Life.{Life}
use Rattle.rules.specs.declared.life_cycle.Life.TheVariants.{Creation, Initialisation, Activated, Deactivated, Terminated}
use Rattle.rules.specs.Life.{life_of}
use Rattle.template.specs.declared.Object.{Object}
use Rattle.text.specs.Written.{WroteAt}
use Rattle.text.proofs.Written.{written_on}
use Rattle.objects_text.specs.Lines.{mark_line, life_word, life_line}
use Rattle.objects_text.specs.Listing.{rest_of}

-- of an 8A of one byte: the space, and its life cycle in words
pub one-life : (s : List ℕ) (x : Object) {put m r : ℕ} {o y z : List ℕ} → x.tag ≡ 0x8A → x.value.end - x.value.start ≡ 1
    → WroteAt put m o y (32 ∷ []) → WroteAt m r y z (life_line (get_or s x.value.start 0)) → WroteAt put r o z (rest_of s x)
unfolding rest_of
one-life s x e f v w =
    rw (eq-eqb x.tag 0x8A e, eq-eqb (x.value.end - x.value.start) 1 f)
    (written_on (32 ∷ []) v (life_line (get_or s x.value.start 0)) w)

-- the words are short
class-short : (class : Option Life) → length (life_word class) ≤ 15
unfolding life_word
class-short None = omega arith
class-short (Some l) =
    elim l as (λ v. length (life_word (Some v)) ≤ 15)
    [ Creation ↦ omega arith | Initialisation ↦ omega arith | Activated ↦ omega arith | Deactivated ↦ omega arith | Terminated ↦ omega arith ]

-- nine bytes of text are enough for each byte of an object: its line has 27 at most where it is a life cycle of three bytes, else nine
pub rest-short : (s : List ℕ) (x : Object) → 8 + length (rest_of s x) ≤ 9 * (x.value.end - x.value.start + 2)
unfolding rest_of life_line mark_line
rest-short s x = go (eqb x.tag 0x8A && eqb (x.value.end - x.value.start) 1) refl
  where
    go : (b : Bool) → (eqb x.tag 0x8A && eqb (x.value.end - x.value.start) 1) ≡ b
        → 8 + length (cond b ((32 ∷ []) ++ life_line (get_or s x.value.start 0)) (10 ∷ [])) ≤ 9 * (x.value.end - x.value.start + 2)
    go true q =
        omega (
          arith,
          class-short (life_of (get_or s x.value.start 0)),
          eqb-true (x.value.end - x.value.start) 1 ((and-says (eqb x.tag 0x8A) (eqb (x.value.end - x.value.start) 1)).0 q).1,
        )
    go false q = omega arith

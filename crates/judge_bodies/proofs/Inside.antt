-- Where all steps of a command on a body hold, there is an EF, and the bytes that it is about lie within the EF's body.
use mathlib.Core.Path.{◌≡◌, sym, ap, ◌∙◌}
use mathlib.Core.Bool.{Bool, true, not}
use mathlib.Core.List.{List}
use Prim.Native.Nat.{ℕ, suc, ◌+◌, ◌*◌, ◌-◌, ◌≤◌}
use native.Mathlib.Nat.{suc-mul}
use native.Mathlib.Omega.{arith}
use lib.Dec.{eqb, ltb, leb}
use borrow.Author.Tests.{eq-eqb, eqb-true, leb-true}
use Rattle.laws.proofs.Says.{and-says, not-says}
use Rattle.rules.specs.declared.Sets.{Sets}
use Rattle.image.specs.Layout.{none, rec_at, record_length_of, size_of}
use Rattle.judge_target.specs.Steps.{all_hold}
use Rattle.pool.specs.Records.{has_record}
use Rattle.judge_bodies.specs.Bodies.{binary, recordwise}

-- record i ends one record length after its start
ends : (i z : ℕ) → 1 ≤ i → (i - 1) * z + z ≡ i * z
ends i z h =
    let e : suc (i - 1) ≡ i = omega arith in
    sym (suc-mul (i - 1) z) ∙ ap (λ (j : ℕ). j * z) e

module _ (img : List ℕ) (t : ℕ) where
  an_ef : not (eqb t none) ≡ true → t ≡ none → ⊥
  an_ef h e = (not-says (eqb t none)).0 h (eq-eqb t none e)

  -- a record that is there lies within the body
  record_inside : (i n : ℕ) → has_record img t i ≡ true → eqb n (record_length_of (rec_at img t)) ≡ true
      → (i - 1) * record_length_of (rec_at img t) + n ≤ size_of (rec_at img t)
  unfolding has_record
  record_inside i n a b =
      let z : ℕ = record_length_of (rec_at img t) in
      let p = (and-says (ltb 0 i) (leb (i * z) (size_of (rec_at img t)))).0 a in
      omega (arith, ends i z (leb-true 1 i p.0), leb-true (i * z) (size_of (rec_at img t)) p.1, eqb-true n z b)

  module _ (pool : List ℕ) (reads : Bool) (n : ℕ) (x : Sets) where
    pub binary-inside : (k : ℕ) → all_hold (binary img pool t reads k n x).steps ≡ true
        → (t ≡ none → ⊥) × (k + n ≤ size_of (rec_at img t))
    unfolding binary
    binary-inside k a =
        let p = simp and-says at a in
        (an_ef p.0, leb-true (k + n) (size_of (rec_at img t)) p.1.1.1.1.1.1.0)

    pub recordwise-inside : (i : ℕ) → all_hold (recordwise img pool t reads i n x).steps ≡ true
        → (t ≡ none → ⊥) × ((i - 1) * record_length_of (rec_at img t) + n ≤ size_of (rec_at img t))
    unfolding recordwise
    recordwise-inside i a =
        let p = simp and-says at a in
        (an_ef p.0, record_inside i n p.1.1.1.1.1.0 p.1.1.1.1.1.1.0)

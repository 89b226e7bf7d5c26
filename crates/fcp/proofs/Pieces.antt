-- The objects of a template as they are written: each from what was read of the record on the way.
use mathlib.Core.Path.{◌≡◌, refl, sym, ap, ◌∙◌}
use mathlib.Core.Bool.{Bool, true, false, cond}
use mathlib.Core.List.{List, [], ◌∷◌}
use Prim.Native.Nat.{ℕ, ◌+◌, ◌<◌, ◌≤◌, ◌/◌, ◌%◌}
use native.Mathlib.Omega.{arith}
use lib.ListN.{length, get_or, length-take}
use Rattle.laws.specs.Lists.{part}
use Rattle.numbers.specs.Numbers.{be16}
use Rattle.rules.specs.Descriptor.{has_records}
use Rattle.image.specs.Layout.{descriptor_of, life_cycle_of, identifier_of, record_length_of, size_of, field_at, name_of, rule_of}
use Rattle.text.specs.Written.{WroteAt}
use Rattle.text.proofs.Written.{nothing_written, same_text, written_on}
use Rattle.create_data.specs.Grammar.{object, optional}
use Rattle.fcp.specs.Template.{record_bytes_of, named, rule_tag, size_tag, descriptor_object, identifier_object, name_object, life_object}
use Rattle.fcp.specs.Template.{rule_object}
use Rattle.fcp.specs.Template.{size_object}

-- a tag and a length, then the value
pub object-written : {at m r : ℕ} {o y z : List ℕ} (tag : ℕ) (v : List ℕ) → WroteAt at m o y (tag ∷ length v ∷ []) → WroteAt m r y z v
    → WroteAt at r o z (object tag v)
object-written tag v a b = written_on (tag ∷ length v ∷ []) a v b

-- a name or a rule that was read is no longer than its field
field-short : (r : List ℕ) (n : ℕ) → length (field_at r n) ≤ get_or r n 0
unfolding field_at part
field-short r n = rw length-take (omega arith)

pub name-fits : (r : List ℕ) {v : List ℕ} → v ≡ name_of r → get_or r 16 0 ≤ 16 → length v ≤ 16
unfolding name_of
name-fits r e h = omega (arith, ap length e, field-short r 16)

pub rule_fits : (r : List ℕ) {v : List ℕ} → v ≡ rule_of r → get_or r 33 0 ≤ 30 → length v ≤ 30
unfolding rule_of
rule_fits r e h = omega (arith, ap length e, field-short r 33)

-- d is the descriptor that was read, q whether its structure has records
records : (r : List ℕ) {d : ℕ} {q : Bool} → d ≡ descriptor_of r → q ≡ has_records d → q ≡ has_records (descriptor_of r)
records r h f = f ∙ ap has_records h

-- the two bytes of a number, as the library gives them
pub two-bytes : {n m : ℕ} {b : List ℕ} → b ≡ n / 256 % 256 ∷ n % 256 ∷ [] → n < 65536 → n ≡ m → b ≡ be16 m
two-bytes {n} e h q =
    let low : n / 256 % 256 ≡ n / 256 = omega (arith, h) in
    e ∙ ap (λ (k : ℕ). k ∷ n % 256 ∷ []) low ∙ ap be16 q

module _ {at to : ℕ} {o y : List ℕ} (r : List ℕ) where
  pub identifier-told : {b : List ℕ} → b ≡ be16 (identifier_of r) → WroteAt at to o y (object 0x83 b) → WroteAt at to o y (identifier_object r)
  identifier-told e w = same_text _ _ w (ap (λ (b : List ℕ). object 0x83 b) e)

  pub life-told : {n : ℕ} → n ≡ life_cycle_of r → WroteAt at to o y (object 0x8A (n ∷ [])) → WroteAt at to o y (life_object r)
  life-told e w = same_text _ _ w (ap (λ (n : ℕ). object 0x8A (n ∷ [])) e)

  pub rule-told : {tag : ℕ} {v : List ℕ} → tag ≡ rule_tag r → v ≡ rule_of r → WroteAt at to o y (object tag v)
      → WroteAt at to o y (rule_object r)
  rule-told {tag} {v} t e w = same_text _ _ w (ap (λ (x : ℕ). object x v) t ∙ ap (λ (x : List ℕ). object (rule_tag r) x) e)

  pub size-told : {tag : ℕ} {b : List ℕ} → tag ≡ size_tag r → b ≡ be16 (size_of r) → WroteAt at to o y (object tag b) → WroteAt at to o y (size_object r)
  size-told {tag} {b} t e w = same_text _ _ w (ap (λ (x : ℕ). object x b) t ∙ ap (λ (x : List ℕ). object (size_tag r) x) e)

  module _ {d : ℕ} {q : Bool} (h : d ≡ descriptor_of r) (f : q ≡ has_records d) where
    pub records-told : {b : List ℕ} → q ≡ true → b ≡ be16 (record_length_of r) → WroteAt at to o y (object 0x82 (d ∷ 0x21 ∷ get_or b 0 0 ∷ get_or b 1 0 ∷ []))
        → WroteAt at to o y (descriptor_object r)
    unfolding record_bytes_of
    records-told {b} t e w =
        same_text _ _ w
        (ap (λ (x : ℕ). object 0x82 (x ∷ 0x21 ∷ get_or b 0 0 ∷ get_or b 1 0 ∷ [])) h
        ∙ ap (λ (m : List ℕ). object 0x82 (descriptor_of r ∷ 0x21 ∷ get_or m 0 0 ∷ get_or m 1 0 ∷ [])) e
        ∙ ap (λ (b : Bool). object 0x82 (descriptor_of r ∷ 0x21 ∷ cond b (be16 (record_length_of r)) [])) (sym t ∙ records r h f))

    pub plain-told : q ≡ false → WroteAt at to o y (object 0x82 (d ∷ 0x21 ∷ [])) → WroteAt at to o y (descriptor_object r)
    unfolding record_bytes_of
    plain-told t w =
        same_text _ _ w
        (ap (λ (x : ℕ). object 0x82 (x ∷ 0x21 ∷ [])) h
        ∙ ap (λ (b : Bool). object 0x82 (descriptor_of r ∷ 0x21 ∷ cond b (be16 (record_length_of r)) [])) (sym t ∙ records r h f))

-- 82 is six bytes long, or four
module _ (r : List ℕ) {d : ℕ} {q : Bool} (h : d ≡ descriptor_of r) (f : q ≡ has_records d) where
  pub six : q ≡ true → length (descriptor_object r) ≡ 6
  unfolding record_bytes_of
  six t = ap (λ (b : Bool). length (object 0x82 (descriptor_of r ∷ 0x21 ∷ cond b (be16 (record_length_of r)) []))) (sym (records r h f) ∙ t)

-- a name that is empty is not written; any other is
no-object : (v : List ℕ) → length v ≡ 0 → optional 0x84 (named v) ≡ []
no-object [] e = refl
no-object (x ∷ v) e = absurd (omega arith)

an_object : (v : List ℕ) → (length v ≡ 0 → ⊥) → optional 0x84 (named v) ≡ object 0x84 v
an_object [] n = absurd (n refl)
an_object (x ∷ v) n = refl

module _ (r : List ℕ) {v : List ℕ} (e : v ≡ name_of r) where
  pub no-name-told : {at : ℕ} {o : List ℕ} → at + length (name_object r) ≤ length o → length v ≡ 0 → WroteAt at at o o (name_object r)
  no-name-told {at} {o} f z =
      same_text [] _ (nothing_written at o (omega arith)) (sym (no-object v z) ∙ ap (λ (u : List ℕ). optional 0x84 (named u)) e)

  pub name-told : {at to : ℕ} {o y : List ℕ} → (length v ≡ 0 → ⊥) → WroteAt at to o y (object 0x84 v) → WroteAt at to o y (name_object r)
  name-told n w = same_text _ _ w (sym (an_object v n) ∙ ap (λ (u : List ℕ). optional 0x84 (named u)) e)

  pub name-long : (length v ≡ 0 → ⊥) → length (name_object r) ≡ 2 + length v
  name-long n = omega (arith, ap (λ (u : List ℕ). length (optional 0x84 (named u))) e, ap length (an_object v n))

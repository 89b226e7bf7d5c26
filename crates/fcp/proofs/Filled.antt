-- The template that was written object by object, and its length.
use mathlib.Core.Path.{◌≡◌, refl, ap}
use mathlib.Core.Bool.{Bool, true, false, cond}
use mathlib.Core.List.{List, [], ◌∷◌}
use Prim.Native.Nat.{ℕ, ◌+◌, ◌-◌}
use native.Mathlib.Omega.{arith}
use lib.ListN.{length, length-append}
use Rattle.laws.proofs.Branches.{not-eq}
use Rattle.numbers.specs.Numbers.{be16}
use Rattle.rules.specs.Descriptor.{has_records}
use Rattle.image.specs.Layout.{descriptor_of, record_length_of, name_of, rule_of}
use Rattle.text.specs.Written.{WroteAt, Wrote}
use Rattle.text.proofs.Written.{same_text, written_on}
use Rattle.create_data.specs.Grammar.{object, optional}
use Rattle.fcp.specs.Template.{record_bytes_of, named, descriptor_object, identifier_object, name_object, life_object, rule_object}
use Rattle.fcp.specs.Template.{size_object, body_of, template_of}
use Rattle.fcp.specs.Writing.{descriptor_length, name_length}

-- the template is as long as its objects
pub long-sum : (r : List ℕ) → length (template_of r) ≡ 15 + length (descriptor_object r) + length (name_object r) + length (rule_of r)
unfolding template_of body_of
long-sum r = simp length-append (omega arith)

-- o is the buffer, x after 62 LL, p to v after each object
module _ (r : List ℕ) {o x p q s t u v : List ℕ} {n a b c d e f g : ℕ} where
  pub filled : n ≡ length (template_of r) → Wrote a o x (0x62 ∷ (n - 2) ∷ []) → WroteAt a b x p (descriptor_object r)
      → WroteAt b c p q (identifier_object r) → WroteAt c d q s (name_object r) → WroteAt d e s t (life_object r)
      → WroteAt e f t u (rule_object r) → WroteAt f g u v (size_object r) → Wrote g o v (template_of r)
  unfolding template_of body_of
  filled long head first identifier name life rule size =
      same_text (0x62 ∷ (n - 2) ∷ body_of r) (0x62 ∷ length (body_of r) ∷ body_of r)
      (written_on _ head _ (written_on _ first _ (written_on _ identifier _ (written_on _ name _ (written_on _ life _
      (written_on _ rule _ size))))))
      (let e : n - 2 ≡ length (body_of r) = omega (arith, long) in ap (λ (k : ℕ). 0x62 ∷ k ∷ body_of r) e)

-- as numbers of the record
name_as : (v : List ℕ) → length (optional 0x84 (named v)) ≡ name_length (length v)
unfolding name_length
name_as [] = refl
name_as (x ∷ v) = not-eq (length (x ∷ v)) 0 0 (length (x ∷ v) + 2) (λ z. omega arith) (omega arith)

first_as : (r : List ℕ) → length (descriptor_object r) ≡ descriptor_length (descriptor_of r)
unfolding record_bytes_of descriptor_length
first_as r = go (has_records (descriptor_of r))
  where
    go : (b : Bool) → length (object 0x82 (descriptor_of r ∷ 0x21 ∷ cond b (be16 (record_length_of r)) [])) ≡ cond b 6 4
    go true = refl
    go false = refl

-- d is the descriptor that was read, v the name, w the rule
pub long-from : (r : List ℕ) {a b d : ℕ} {v w : List ℕ} → d ≡ descriptor_of r → a ≡ descriptor_length d → v ≡ name_of r
    → b ≡ name_length (length v) → w ≡ rule_of r → a + b + length w + 15 ≡ length (template_of r)
long-from r {a} {b} {d} {v} {w} p q s t u =
    omega (
      arith,
      long-sum r,
      q,
      t,
      first_as r,
      name_as (name_of r),
      ap descriptor_length p,
      ap (λ (x : List ℕ). name_length (length x)) s,
      ap length u,
    )

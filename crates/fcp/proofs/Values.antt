-- The values of a record's template: how long they are, and that a number is read back.
use mathlib.Core.Path.{◌≡◌, refl, sym, ap, ◌∙◌}
use mathlib.Core.Bool.{Bool, true, false, cond, false≢true}
use mathlib.Core.List.{List, [], ◌∷◌}
use Prim.Native.Nat.{ℕ, ◌+◌, ◌≤◌}
use native.Mathlib.Omega.{arith}
use lib.ListN.{length}
use borrow.Author.Tests.{eqb-true}
use Rattle.laws.specs.Lists.{part}
use Rattle.laws.proofs.Says.{either-says}
use Rattle.numbers.specs.Numbers.{be16}
use Rattle.rules.specs.Descriptor.{df, ef, has_records}
use Rattle.rules.proofs.Descriptors.{df-plain}
use Rattle.rules.specs.Value.{good_length}
use Rattle.image.specs.Layout.{kind_of, descriptor_of, record_length_of, field_at, name_of}
use Rattle.sound.specs.Own.{Used}
use Rattle.sound.proofs.Created.{class_low}
use Rattle.create_data.specs.Grammar.{optional, number}
use Rattle.fcp.specs.Template.{record_bytes_of, named, name_object}
use Rattle.fcp.proofs.Pieces.{name-fits}

-- a number in two bytes is read back
pub number_back : (n : ℕ) → number (be16 n) ≡ n
number_back n = omega arith

-- an optional name is two bytes longer than the name, at most
named-short : (v : List ℕ) → length (optional 0x84 (named v)) ≤ 2 + length v
named-short [] = omega arith
named-short (x ∷ v) = omega arith

module _ (v : ℕ) (r : List ℕ) (u : Used v r) where
  pub name-short : length (name_of r) ≤ 16
  name-short = name-fits r refl u.name.short

  pub ef-nameless : kind_of r ≡ ef → name_of r ≡ []
  unfolding name_of field_at part
  ef-nameless k = rw (u.nameless k)

  pub plain-length : has_records (descriptor_of r) ≡ false → record_length_of r ≡ 0
  unfolding good_length
  plain-length p = eqb-true _ _ (((either-says _ _ _).0 u.length).1 (λ h. false≢true (sym p ∙ h)))

  pub df-no-records : kind_of r ≡ df → has_records (descriptor_of r) ≡ false
  df-no-records k = df-plain (descriptor_of r) (u.class ∙ k)

  -- no file has both a record length and a name
  pub length-or-name : (kind_of r ≡ 0 → ⊥) → length (record_bytes_of r) + length (name_object r) ≤ 18
  unfolding record_bytes_of
  length-or-name z = go (has_records (descriptor_of r)) refl
    where
      go : (b : Bool) → has_records (descriptor_of r) ≡ b → length (cond b (be16 (record_length_of r)) []) + length (name_object r) ≤ 18
      go true p =
          let no-df : kind_of r ≡ df → ⊥ = λ k. false≢true (sym (df-no-records k) ∙ p) in
          let k : kind_of r ≡ ef = omega (arith, u.class, class_low (descriptor_of r)) in
          omega (arith, named-short (name_of r), ap length (ef-nameless k))
      go false p = omega (arith, named-short (name_of r), name-short)

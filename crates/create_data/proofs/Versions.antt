-- What a card takes is read alike on one whose version has room for as long rules, and as many forms.
use mathlib.Core.Path.{◌≡◌, refl}
use mathlib.Core.Bool.{Bool, true, false, cond, ◌&&◌}
use mathlib.Core.List.{List}
use Prim.Native.Nat.{ℕ, ◌≤◌}
use native.Mathlib.Omega.{arith}
use lib.ListN.{length}
use lib.Dec.{eqb}
use Rattle.rules.specs.Descriptor.{class_of, df, ef}
use Rattle.rules.specs.Life.{new_life}
use Rattle.rules.specs.Value.{good_identifier}
use Rattle.image.specs.Layout.{longest_rule, forms_of}
use Rattle.access.specs.Access.{fits_record}
use Rattle.template.specs.declared.Objects.{Objects}
use Rattle.create_data.specs.declared.Data.{Data}
use Rattle.std.specs.Prelude.{Option, None}
use Rattle.template.specs.Objects.{value_in, objects_of}
use Rattle.create_data.specs.Form.{t82, t83, t8a, one_rule, rule_in, form_in, df_form, ef_form}
use Rattle.template.specs.Values.{first_of, pair_of}
use Rattle.create_data.specs.Data.{is_template, need, name_good, rule_good, both_good, df_of, ef_of, file_of, data_of}
use Rattle.create_data.specs.Grammar.{DataAlike}
use Rattle.create_data.proofs.Meaning.{rule-says}

-- y is the other card's reading of what this one reads as x
abbrev Alike : Option Data → Option Data → Type 0
Alike x y = (x ≡ None → ⊥) → y ≡ x

-- past a test that both make, and one that the other card passes too
both-test : (b : Bool) {x y p q : Option Data} → Alike x y → Alike p q → Alike (cond b x p) (cond b y q)
both-test true f g = f
both-test false f g = g

passes_too : (a b : Bool) (x : Option Data) → (a ≡ true → b ≡ true) → Alike (need a x) (need b x)
passes_too true b x f n = rw (f refl)
passes_too false b x f n = absurd (n refl)

bad : Alike None None
bad n = refl

and_too : (a : Bool) {b c : Bool} → (b ≡ true → c ≡ true) → (a && b) ≡ true → (a && c) ≡ true
and_too true f e = f e
and_too false f e = e

module _ (v w : ℕ) (long : longest_rule v ≤ longest_rule w) (forms : forms_of v ≤ forms_of w) (s : List ℕ) (o : Objects) where
  fits_too : fits_record v (form_in o) (value_in s o (rule_in o)) ≡ true → fits_record w (form_in o) (value_in s o (rule_in o)) ≡ true
  fits_too e =
      let f = (rule-says v (form_in o) (value_in s o (rule_in o))).0 e in
      (rule-says w (form_in o) (value_in s o (rule_in o))).1 ((f.0.0, omega (arith, f.0.1)), omega (arith, f.1), f.2)

  both_too : both_good v s o ≡ true → both_good w s o ≡ true
  unfolding both_good rule_good
  both_too =
      and_too (good_identifier (pair_of (value_in s o t83))) (and_too (new_life (first_of (value_in s o t8a))) (and_too (one_rule o) fits_too))

  both : (x : Option Data) → Alike (need (both_good v s o) x) (need (both_good w s o) x)
  both x = passes_too (both_good v s o) (both_good w s o) x both_too

  file_alike : Alike (file_of v s o) (file_of w s o)
  unfolding file_of df_of ef_of
  file_alike =
      let d : ℕ = first_of (value_in s o t82) in
      both-test (eqb o.next (length s))
      (both-test (eqb (class_of d) df) (both-test (df_form o) (both-test (name_good s o) (both _) bad) bad)
      (both-test (eqb (class_of d) ef) (both-test (ef_form o d) (both _) bad) bad)) bad

pub data_alike : DataAlike
unfolding data_of
data_alike v w long forms s = both-test (is_template s) (file_alike v w long forms s (objects_of s)) bad

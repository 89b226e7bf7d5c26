-- What is read from any data is good, or bad.
use mathlib.Core.Path.{◌≡◌, refl}
use mathlib.Core.Bool.{Bool, true, false, cond, false≢true}
use mathlib.Core.List.{List}
use mathlib.Core.Logic.{⊎_elim}
use Prim.Native.Nat.{ℕ, ◌-◌, ◌≤◌}
use native.Mathlib.Omega.{arith}
use lib.ListN.{length, get_or}
use lib.Dec.{eqb}
use borrow.Author.Tests.{eqb-true, eqb-false}
use Rattle.laws.proofs.Says.{and-says, or-says}
use Rattle.laws.proofs.Splices.{length_part}
use Rattle.rules.specs.Descriptor.{class_of, df, ef}
use Rattle.rules.specs.Life.{new_life}
use Rattle.rules.specs.Value.{good_identifier, good_length}
use Rattle.template.specs.declared.Objects.{Objects}
use Rattle.template.specs.declared.Span.{Span}
use Rattle.create_data.specs.declared.Data.{Data}
use Rattle.std.specs.Prelude.{Option, Some, None, is_none, unwrap_or}
use Rattle.template.specs.Objects.{nowhere, start_in, end_in, length_in, value_in, objects_of, Held}
use Rattle.create_data.specs.Form.{t82, t83, t84, t8a, t80, t81, lacks, one_rule, rule_in, df_form, ef_form}
use Rattle.template.specs.Values.{first_of, pair_of, record_length_of, number_of, fits_name}
use Rattle.create_data.specs.Data.{is_template, need, name_good, rule_good, both_good, new_file, df_of, sized_ef, ef_of, file_of, data_of}
use Rattle.create_data.specs.Good.{GoodFile, Good}
use Rattle.template.proofs.Holding.{held}
use Rattle.create_data.proofs.Meaning.{name-fits}

-- past a test: only the branch that goes on is to be shown good
module _ (v : ℕ) (s : List ℕ) where
  needed : (b : Bool) (x : Option Data) → (b ≡ true → Good v s x) → Good v s (need b x)
  needed true x f = f refl
  needed false x f = tt

  not-zero : (k : ℕ) (x : Option Data) → ((k ≡ 0 → ⊥) → Good v s x) → Good v s (cond (eqb k 0) None x)
  not-zero k x f = go (eqb k 0) refl
    where
      go : (b : Bool) → eqb k 0 ≡ b → Good v s (cond b None x)
      go true p = tt
      go false p = f (eqb-false k 0 p)

  by_class : (k m : ℕ) (x y : Option Data) → (k ≡ m → Good v s x) → Good v s y → Good v s (cond (eqb k m) x y)
  by_class k m x y f g = go (eqb k m) refl
    where
      go : (b : Bool) → eqb k m ≡ b → Good v s (cond b x y)
      go true p = f (eqb-true k m p)
      go false p = g

module _ (v : ℕ) (s : List ℕ) (o : Objects) (h : Held s o) where
  file-good : (n z : ℕ) → both_good v s o ≡ true → GoodFile v s (new_file s o n z)
  unfolding both_good rule_good new_file
  file-good n z e =
      let p = (and-says (good_identifier (pair_of (value_in s o t83))) _).0 e in
      let q = (and-says (new_life (first_of (value_in s o t8a))) _).0 p.1 in
      let r = (and-says (one_rule o) _).0 q.1 in
      record {
        identifier = p.0;
        life = q.0;
        name-low = h.low t84;
        name-high = h.high t84;
        rule-low = h.low (rule_in o);
        rule-high = h.high (rule_in o);
        rule = r.1;
      }

  -- an EF's list has no place for a name
  none-sent : (d : ℕ) → ef_form o d ≡ true → end_in o t84 ≡ start_in o t84
  unfolding ef_form lacks
  none-sent d f = go (get_or o.values t84 None) (simp and-says at f).1.1.1.1.1.0
    where
      go : (p : Option Span) → is_none p ≡ true → (unwrap_or p nowhere).end ≡ (unwrap_or p nowhere).start
      go None e = refl
      go (Some x) e = absurd (false≢true e)

  name-good : name_good s o ≡ true → length_in o t84 ≤ 16
  unfolding name_good lacks
  name-good e = ⊎_elim none some ((or-says (is_none (get_or o.values t84 None)) _).0 e)
    where
      go : (p : Option Span) → is_none p ≡ true → (unwrap_or p nowhere).end - (unwrap_or p nowhere).start ≤ 16
      go None q = omega arith
      go (Some x) q = absurd (false≢true q)

      none : is_none (get_or o.values t84 None) ≡ true → length_in o t84 ≤ 16
      none = go (get_or o.values t84 None)

      some : fits_name (value_in s o t84) ≡ true → length_in o t84 ≤ 16
      some q =
          let n : length (value_in s o t84) ≡ length_in o t84 = length_part s (start_in o t84) (length_in o t84)
          (omega (arith, h.low t84, h.high t84)) in
          omega (arith, (name-fits (value_in s o t84)).0 q)

  df-good : class_of (first_of (value_in s o t82)) ≡ df → Good v s (df_of v s o)
  unfolding df_of new_file
  df-good k =
      needed v s (df_form o) _
      (λ f. needed v s (name_good s o) _ (λ n. needed v s (both_good v s o) _ (λ b. not-zero v s (number_of (value_in s o t81)) _ (λ z.
      record { class = k; file = file-good 0 _ b; name-short = name-good n; total = z; plain = refl }))))

  ef-good : class_of (first_of (value_in s o t82)) ≡ ef → Good v s (ef_of v s o (first_of (value_in s o t82)))
  unfolding ef_of sized_ef new_file
  ef-good k =
      let d : ℕ = first_of (value_in s o t82) in
      let z : ℕ = number_of (value_in s o t80) in
      needed v s (ef_form o d) _
      (λ f. needed v s (both_good v s o) _ (λ b. not-zero v s z _ (λ n.
      needed v s (good_length d (record_length_of (value_in s o t82)) z) _ (λ g.
      record { class = k; file = file-good _ _ b; nameless = none-sent d f; size = n; records = g }))))

pub good : (v : ℕ) (s : List ℕ) → Good v s (data_of v s)
unfolding data_of file_of
good v s =
    let o : Objects = objects_of s in
    let k : ℕ = class_of (first_of (value_in s o t82)) in
    needed v s (is_template s) _ (λ t. needed v s (eqb o.next (length s)) _ (λ n.
    by_class v s k df _ _ (df-good v s o (held s)) (by_class v s k ef _ _ (ef-good v s o (held s)) tt)))

-- What a template says is good data by CREATE's grammar, and is read as the file that it was written of.
use mathlib.Core.Path.{◌≡◌, refl, sym, ap, ◌∙◌}
use mathlib.Core.Bool.{Bool, true, false, cond, false≢true}
use mathlib.Core.List.{List, [], ◌∷◌, ◌++◌, append_assoc, append-nil}
use mathlib.Core.Logic.{inl, inr, ⊎_elim}
use Prim.Native.Nat.{ℕ, ◌<◌, ◌≤◌}
use native.Mathlib.Nat.{sub_self}
use native.Mathlib.Omega.{arith}
use lib.Dec.{eqb}
use lib.ListN.{length}
use borrow.Author.Tests.{eqb-true, eqb-false}
use Rattle.laws.specs.Lists.{part}
use Rattle.laws.proofs.Says.{either-says}
use Rattle.numbers.specs.Numbers.{be16}
use Rattle.rules.specs.Descriptor.{has_records}
use Rattle.rules.specs.Life.{new_life}
use Rattle.rules.specs.Value.{good_length, whole_records}
use Rattle.image.specs.Layout.{descriptor_of, life_cycle_of, form_of, identifier_of, record_length_of, size_of, name_of, rule_of}
use Rattle.image.proofs.Versions.{longest_within}
use Rattle.access.specs.Access.{compact, expanded}
use Rattle.access.proofs.Fits.{fits-form}
use Rattle.sound.specs.Own.{Used}
use Rattle.template.specs.declared.Span.{Span}
use Rattle.template.specs.Objects.{bytes_at}
use Rattle.create_data.specs.declared.Data.{Data}
use Rattle.std.specs.Prelude.{Option, Some, None}
use Rattle.create_data.specs.declared.Data.TheVariants.{Df, Ef}
use Rattle.create_data.specs.Data.{data_of}
use Rattle.create_data.specs.Good.{Good}
use Rattle.create_data.specs.Grammar.{object, template, value_of, number, neither, NameLong, FileData, DfData, EfData, DfRead, EfRead}
use Rattle.create_data.specs.Grammar.{Ruled, in_8c, in_ab, in_8b, ruled, rule_form, Layout, plain, records}
use Rattle.create_data.specs.Grammar as grammar
use Rattle.create_data.proofs.Good.{good}
use Rattle.create_data.proofs.Grammar.{data_read}
use Rattle.create_data.proofs.Meaning.{identifier-says, rule-says, structure_says, records-says}
use Rattle.fcp.specs.Template.{record_bytes_of, named, rule_tag, size_tag, body_of, template_of, with_c6}
use Rattle.fcp.specs.Template.{descriptor_object, identifier_object, name_object, life_object, rule_object}
use Rattle.fcp.specs.Again.{SendsEf, SendsDf, Tells, ReadBack}
use Rattle.fcp.proofs.Values.{number_back, name-short, ef-nameless, plain-length, df-no-records}
use Rattle.fcp.proofs.Sizes.{longest}

-- a name that is there or not
named-long : (v : List ℕ) → length v ≤ 16 → NameLong (named v)
named-long [] h = tt
named-long (x ∷ v) h = (omega arith, h)

named_value : (v : List ℕ) → value_of (named v) ≡ v
named_value [] = refl
named_value (x ∷ v) = refl

-- six objects and a seventh, which ends the data
seven : (a b c d e f g : List ℕ) → (a ++ (b ++ (c ++ (d ++ (e ++ f))))) ++ g ≡ a ++ (b ++ (c ++ (d ++ (e ++ (f ++ (g ++ []))))))
seven a b c d e f g = simp (append_assoc, append-nil)

-- a stretch that ends where it starts has no bytes
no_bytes : (s : List ℕ) (p : Span) → p.end ≡ p.start → bytes_at s p ≡ []
unfolding part
no_bytes s p e = rw (e, sub_self) refl

-- the rule in the grammar's words, by its form
rule_told : List ℕ → Ruled
rule_told r = cond (eqb (form_of r) compact) (in_8c (rule_of r)) (cond (eqb (form_of r) expanded) (in_ab (rule_of r)) (in_8b (rule_of r)))

record ToldRule (r : List ℕ) (x : Ruled) : Type 0 where
  written : ruled x ≡ rule_object r
  form : rule_form x ≡ form_of r
  value : grammar.rule_of x ≡ rule_of r

told-rule : (r : List ℕ) → form_of r < 3 → ToldRule r (rule_told r)
unfolding rule_told rule_tag
told-rule r low = go (eqb (form_of r) compact) (eqb (form_of r) expanded) refl refl
  where
    go : (a b : Bool) → eqb (form_of r) compact ≡ a → eqb (form_of r) expanded ≡ b
        → ToldRule r (cond a (in_8c (rule_of r)) (cond b (in_ab (rule_of r)) (in_8b (rule_of r))))
    go true b p q = record { written = rw p refl; form = sym (eqb-true (form_of r) compact p); value = refl }
    go false true p q = record { written = rw (p, q) refl; form = sym (eqb-true (form_of r) expanded q); value = refl }
    go false false p q =
        let n = eqb-false (form_of r) compact p in
        let m = eqb-false (form_of r) expanded q in
        record { written = rw (p, q) refl; form = omega (arith, n, m); value = refl }

module _ (v : ℕ) (r : List ℕ) (u : Used v r) where
  told : ToldRule r (rule_told r)
  told = told-rule r (fits-form v (form_of r) (rule_of r) u.formed)

  -- identifier, life cycle and rule are as CREATE takes them
  file_data : new_life (life_cycle_of r) ≡ true → FileData v (be16 (identifier_of r)) (life_cycle_of r ∷ []) (rule_told r)
  file_data new =
      let i = (identifier-says (identifier_of r)).0 u.identifier in
      let f = (rule-says v (form_of r) (rule_of r)).0 u.formed in
      let n = number_back (identifier_of r) in
      record {
        identifier-long = refl;
        not_3fff = λ e. i.0 (sym n ∙ e);
        not_7fff = λ e. i.1 (sym n ∙ e);
        not-FFFF = λ e. i.2 (sym n ∙ e);
        life-long = refl;
        life_cycle = new;
        rule-long = rw told.value f.0;
        rule-form = rw told.form f.1;
        rule-formed = rw (told.form, told.value) f.2;
      }

  size-some : number (be16 (size_of r)) ≡ 0 → ⊥
  size-some e = omega (arith, number_back (size_of r), u.size)

  -- 82 has four bytes where the structure has records, and they make up the size
  layout : Layout (descriptor_of r ∷ 0x21 ∷ record_bytes_of r) (number (be16 (size_of r)))
  unfolding record_bytes_of good_length
  layout = go (has_records (descriptor_of r)) refl
    where
      go : (b : Bool) → has_records (descriptor_of r) ≡ b
          → Layout (descriptor_of r ∷ 0x21 ∷ cond b (be16 (record_length_of r)) []) (number (be16 (size_of r)))
      go true p =
          let d : List ℕ = descriptor_of r ∷ 0x21 ∷ be16 (record_length_of r) in
          let whole : whole_records (record_length_of r) (size_of r) ≡ true = ((either-says _ _ _).0 u.length).0 p in
          records ((structure_says d).0 p) refl
          ((records-says _ _).0 (rw (number_back (record_length_of r), number_back (size_of r)) whole))
      go false p = plain (λ t. false≢true (sym p ∙ (structure_says (descriptor_of r ∷ 0x21 ∷ [])).1 t)) refl

  -- the record length is read back: it is 0 where there are no records
  length_back : number (record_bytes_of r) ≡ record_length_of r
  unfolding record_bytes_of
  length_back = go (has_records (descriptor_of r)) refl
    where
      go : (b : Bool) → has_records (descriptor_of r) ≡ b → number (cond b (be16 (record_length_of r)) []) ≡ record_length_of r
      go true p = number_back (record_length_of r)
      go false p = sym (plain-length v r u p)

-- an EF's template as it is
module _ (v : ℕ) (r s : List ℕ) (u : Used v r) (new : new_life (life_cycle_of r) ≡ true) (w : SendsEf r (template_of r) s) where
  ef_data : EfData v s
  unfolding template_of body_of size_tag
  ef_data = record {
    descriptor = descriptor_of r ∷ 0x21 ∷ record_bytes_of r;
    identifier = be16 (identifier_of r);
    life = life_cycle_of r ∷ [];
    rule = rule_told r;
    size = be16 (size_of r);
    private = neither;
    written = w.sent ∙ rw (w.kind, ef-nameless v r u w.kind, (told v r u).written) refl;
    short = omega (arith, ap length w.sent, longest v r u (λ z. omega (arith, w.kind)), longest_within v);
    class = u.class ∙ w.kind;
    layout = layout v r u;
    file = file_data v r u new;
    size-long = (omega arith, omega arith);
    size-some = size-some v r u;
  }

  ef_tells : (x : Option Data) → EfRead v s ef_data x → Good v s x → Tells s r x
  unfolding ef_data
  ef_tells (Some (Ef x)) t g = record {
    kind_is = w.kind;
    descriptor = t.0;
    identifier = t.1 ∙ number_back (identifier_of r);
    life = t.2;
    form = t.4 ∙ (told v r u).form;
    record_length = t.3 ∙ length_back v r u;
    size = t.6 ∙ number_back (size_of r);
    name = no_bytes s x.name g.nameless ∙ sym (ef-nameless v r u w.kind);
    rule = t.5 ∙ (told v r u).value;
  }
  ef_tells (Some (Df x)) t g = absurd t
  ef_tells None t g = absurd t

-- a DF's with a C6
module _ (v : ℕ) (r s : List ℕ) (u : Used v r) (new : new_life (life_cycle_of r) ≡ true) (w : SendsDf r (template_of r) s) where
  no_length : record_bytes_of r ≡ []
  unfolding record_bytes_of
  no_length = rw (df-no-records v r u w.kind)

  df_data : DfData v s
  unfolding template_of with_c6 body_of size_tag
  df_data = record {
    descriptor = descriptor_of r ∷ 0x21 ∷ record_bytes_of r;
    identifier = be16 (identifier_of r);
    name = named (name_of r);
    life = life_cycle_of r ∷ [];
    rule = rule_told r;
    total = be16 (size_of r);
    security = w.value;
    private = neither;
    written = w.sent ∙ rw (w.kind, (told v r u).written) (ap template
        (seven (descriptor_object r) (identifier_object r) (name_object r) (life_object r) (rule_object r) (object 0x81 (be16 (size_of r)))
        (object 0xC6 w.value)));
    short = w.short;
    descriptor-long = rw no_length refl;
    class = u.class ∙ w.kind;
    file = file_data v r u new;
    name-long = named-long (name_of r) (name-short v r u);
    total-long = (omega arith, omega arith);
    total-some = size-some v r u;
    security-long = w.some;
  }

  df_tells : (x : Option Data) → DfRead v s df_data x → Good v s x → Tells s r x
  unfolding df_data
  df_tells (Some (Df x)) t g = record {
    kind_is = w.kind;
    descriptor = t.0;
    identifier = t.1 ∙ number_back (identifier_of r);
    life = t.2;
    form = t.4 ∙ (told v r u).form;
    record_length = g.plain ∙ sym (plain-length v r u (df-no-records v r u w.kind));
    size = t.6 ∙ number_back (size_of r);
    name = t.3 ∙ named_value (name_of r);
    rule = t.5 ∙ (told v r u).value;
  }
  df_tells (Some (Ef x)) t g = absurd t
  df_tells None t g = absurd t

pub read_back : ReadBack
read_back v r s u new w = ⊎_elim
    (λ e. let t = ef_data v r s u new e in (inr t, ef_tells v r s u new e (data_of v s) ((data_read v s).1 t) (good v s)))
    (λ d. let t = df_data v r s u new d in (inl t, df_tells v r s u new d (data_of v s) ((data_read v s).0 t) (good v s)))
    w

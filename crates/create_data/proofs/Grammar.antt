-- The two theorems on CREATE's data: what a DF's and an EF's data, as the grammar writes them, are read as; and that no
-- other data are taken.
use mathlib.Core.Path.{◌≡◌, refl, sym, ap, subst, ◌∙◌}
use mathlib.Core.Bool.{Bool, true, false, cond, ◌||◌}
use mathlib.Core.List.{List, [], ◌∷◌, ◌++◌, append-nil}
use mathlib.Core.Logic.{⊎_elim}
use Prim.Native.Nat.{ℕ, ◌+◌, ◌-◌, ◌≤◌}
use native.Mathlib.Omega.{arith}
use lib.ListN.{length, get_or, drop, length-append}
use lib.Dec.{eqb, lit<}
use borrow.Author.Tests.{eq-eqb, ne_eqb, le-leb}
use Rattle.std.specs.Prelude.{Option, Some, None, is_none}
use Rattle.rules.specs.Descriptor.{class_of, df, ef}
use Rattle.rules.specs.Value.{good_length}
use Rattle.template.specs.declared.Objects.{Objects}
use Rattle.create_data.specs.declared.Data.{Data}
use Rattle.template.specs.Objects.{value_in, objects_of}
use Rattle.create_data.specs.Form.{t82, t83, t84, t8a, t8c, tab, t8b, t80, t81, df_form, ef_form}
use Rattle.template.specs.Values.{first_of, pair_of, record_length_of, number_of}
use Rattle.create_data.specs.Data.{is_template, name_good, both_good, new_file, df_of, sized_ef, ef_of, file_of, data_of}
use Rattle.create_data.specs.Grammar.{object, optional, template, value_of, first, number}
use Rattle.create_data.specs.Grammar.{Private, neither, in85, in_a5, privately, Ruled, in_8c, in_ab, in_8b, ruled, rule_of, rule_form}
use Rattle.create_data.specs.Grammar.{FileData, DfData, EfData, DfRead, EfRead, DataExactly, DataRead}
use Rattle.create_data.proofs.Noting.{Noted, standing_noted}
use Rattle.create_data.proofs.Order.{run, written-told, written-ends}
use Rattle.create_data.proofs.Meaning.{and, each, first_is, pair_is, number_is, name-says, file_to, layout_to, layout-length}
use Rattle.create_data.proofs.Forms.{ruled_of, once_of, value_is, lacks_is, rule_value, rule-form, both_is, df-form, ef-form}
use Rattle.create_data.proofs.Taken.{taken}

-- past a test
on : (P : Option Data → Type 0) (b : Bool) (x y : Option Data) → b ≡ true → P x → P (cond b x y)
on P b x y e h = rw e h

off : (P : Option Data → Type 0) (b : Bool) (x y : Option Data) → b ≡ false → P y → P (cond b x y)
off P b x y e h = rw e h

-- 8C, AB and 8B as three of the twelve
abbrev as_8c : Ruled → Option (List ℕ)
as_8c (in_8c v) = Some v
as_8c (in_ab v) = None
as_8c (in_8b v) = None

abbrev as_ab : Ruled → Option (List ℕ)
as_ab (in_8c v) = None
as_ab (in_ab v) = Some v
as_ab (in_8b v) = None

abbrev as_8b : Ruled → Option (List ℕ)
as_8b (in_8c v) = None
as_8b (in_ab v) = None
as_8b (in_8b v) = Some v

rule-one : (r : Ruled) → once_of (as_8c r) (as_ab r) (as_8b r) ≡ true
rule-one (in_8c v) = refl
rule-one (in_ab v) = refl
rule-one (in_8b v) = refl

rule-same : (r : Ruled) → ruled_of (as_8c r) (as_ab r) (as_8b r) ≡ r
rule-same (in_8c v) = refl
rule-same (in_ab v) = refl
rule-same (in_8b v) = refl

rule-bytes : (r : Ruled) (l : List ℕ)
    → ruled r ++ l ≡ optional 0x8C (as_8c r) ++ (optional 0xAB (as_ab r) ++ (optional 0x8B (as_8b r) ++ l))
rule-bytes (in_8c v) l = refl
rule-bytes (in_ab v) l = refl
rule-bytes (in_8b v) l = refl

-- 85 and A5 as two more
abbrev as85 : Private → Option (List ℕ)
as85 neither = None
as85 (in85 v) = Some v
as85 (in_a5 v) = None

abbrev as_a5 : Private → Option (List ℕ)
as_a5 neither = None
as_a5 (in85 v) = None
as_a5 (in_a5 v) = Some v

private-one : (p : Private) → (is_none (as85 p) || is_none (as_a5 p)) ≡ true
private-one neither = refl
private-one (in85 v) = refl
private-one (in_a5 v) = refl

private-bytes : (p : Private) → privately p ≡ optional 0x85 (as85 p) ++ (optional 0xA5 (as_a5 p) ++ [])
private-bytes neither = refl
private-bytes (in85 v) = sym (append-nil (object 0x85 v))
private-bytes (in_a5 v) = sym (append-nil (object 0xA5 v))

-- the twelve, by their numbers
abbrev by_number : List (Option (List ℕ)) → ℕ → Option (List ℕ)
by_number xs k = get_or xs k None

abbrev df_objects : {v : ℕ} {s : List ℕ} → DfData v s → ℕ → Option (List ℕ)
df_objects t =
    by_number (Some t.descriptor ∷ Some t.identifier ∷ t.name ∷ Some t.life ∷ as_8c t.rule ∷ as_ab t.rule
    ∷ as_8b t.rule ∷ None ∷ Some t.total ∷ Some t.security ∷ as85 t.private ∷ as_a5 t.private ∷ [])

abbrev ef_objects : {v : ℕ} {s : List ℕ} → EfData v s → ℕ → Option (List ℕ)
ef_objects t =
    by_number (Some t.descriptor ∷ Some t.identifier ∷ None ∷ Some t.life ∷ as_8c t.rule ∷ as_ab t.rule
    ∷ as_8b t.rule ∷ Some t.size ∷ None ∷ None ∷ as85 t.private ∷ as_a5 t.private ∷ [])

-- data that are twelve such objects, some of them absent
module _ (v : ℕ) (s : List ℕ) (x : ℕ → Option (List ℕ)) (w : s ≡ template (run 12 0 x)) (short : length s ≤ 2 + 0x7F) where
  long : 2 ≤ length s
  long = omega (arith, ap length w)

  body : drop 2 s ≡ run 12 0 x
  body = ap (λ (l : List ℕ). drop 2 l) w

  is-template : is_template s ≡ true
  unfolding is_template
  is-template =
      let os : List ℕ = run 12 0 x in
      rw w
      (and (le-leb 2 (length (template os)) (omega arith))
      (and refl
      (and (le-leb (length os) 0x7F (omega (arith, ap length w))) (eq-eqb (length (template os) - 2) (length os) (omega arith)))))

  noted_as : Noted s x (objects_of s)
  noted_as k l = rw (written-told s short x long body k l) at (standing_noted s long k l)

  -- the reader goes on to tell a DF from an EF
  opened : (P : Option Data → Type 0) → let d : ℕ = first_of (value_in s (objects_of s) t82) in
      P (cond (eqb (class_of d) df) (df_of v s (objects_of s)) (cond (eqb (class_of d) ef) (ef_of v s (objects_of s) d) None)) → P (data_of v s)
  unfolding data_of file_of
  opened P h =
      on P (is_template s) _ _ is-template
      (on P (eqb (objects_of s).next (length s)) _ _ (eq-eqb _ _ (written-ends s short x long body)) h)

  class_is : (v : List ℕ) (k : ℕ) → value_of (x t82) ≡ v → class_of (first v) ≡ k → class_of (first_of (value_in s (objects_of s) t82)) ≡ k
  class_is v k e h = ap class_of (ap first_of (value_is s x (objects_of s) noted_as t82 (lit< tt) ∙ e) ∙ first_is v) ∙ h

-- identifier, life cycle and rule are good, o being what was noted
both-good : (v : ℕ) (s : List ℕ) (x : ℕ → Option (List ℕ)) (o : Objects) → Noted s x o → (r : Ruled) → as_8c r ≡ x t8c → as_ab r ≡ x tab
    → as_8b r ≡ x t8b → FileData v (value_of (x t83)) (value_of (x t8a)) r → both_good v s o ≡ true
both-good v s x o g r p q t f =
    both_is s x o g v ∙ rw (← p, ← q, ← t, rule-same r) (file_to v _ _ (once_of (as_8c r) (as_ab r) (as_8b r)) r (rule-one r) f)

-- what is read of a DF's objects
module _ (v : ℕ) (s : List ℕ) (t : DfData v s) where
  security-short : length t.security ≤ 0x7F
  security-short = omega (arith, t.short, simp length-append at (ap length t.written))

  df_read : (o : Objects) → Noted s (df_objects t) o → DfRead v s t (df_of v s o)
  unfolding df_of new_file name_good
  df_read o g =
      let P = DfRead v s t in
      let x = df_objects t in
      let u = value_is s x o g in
      let z : number_of (value_in s o t81) ≡ number t.total = ap number_of (u t81 (lit< tt)) ∙ number_is t.total t.total-long in
      on P (df_form o) _ _
      ((df-form s x o g).1 (record {
        descriptor = omega (arith, t.descriptor-long);
        identifier = omega (arith, t.file.identifier-long);
        life = omega (arith, t.file.life-long);
        total = t.total-long;
        security = (t.security-long, security-short);
        private = private-one t.private;
        no_size = refl;
      }))
      (on P (name_good s o) _ _ (rw (lacks_is s x o g t84 (lit< tt), u t84 (lit< tt)) ((name-says t.name).1 t.name-long))
      (on P (both_good v s o) _ _ (both-good v s x o g t.rule refl refl refl t.file)
      (off P (eqb (number_of (value_in s o t81)) 0) _ _ (ne_eqb _ 0 (λ y. t.total-some (sym z ∙ y))) (
        ap first_of (u t82 (lit< tt)) ∙ first_is t.descriptor,
        ap pair_of (u t83 (lit< tt)) ∙ pair_is t.identifier t.file.identifier-long,
        ap first_of (u t8a (lit< tt)) ∙ first_is t.life,
        u t84 (lit< tt),
        rule-form s x o g ∙ ap rule_form (rule-same t.rule),
        rule_value s x o g ∙ ap rule_of (rule-same t.rule),
        z,
      ))))

-- and of an EF's
module _ (v : ℕ) (s : List ℕ) (t : EfData v s) where
  ef_read : (o : Objects) → Noted s (ef_objects t) o → EfRead v s t (ef_of v s o (first_of (value_in s o t82)))
  unfolding ef_of sized_ef new_file
  ef_read o g =
      let P = EfRead v s t in
      let x = ef_objects t in
      let u = value_is s x o g in
      let d : ℕ = first_of (value_in s o t82) in
      let z : number_of (value_in s o t80) ≡ number t.size = ap number_of (u t80 (lit< tt)) ∙ number_is t.size t.size-long in
      let l = each (layout_to t.descriptor (number t.size) t.layout) in
      on P (ef_form o d) _ _
      ((ef-form s x o g).1 (record {
        descriptor = l.0;
        identifier = omega (arith, t.file.identifier-long);
        life = omega (arith, t.file.life-long);
        size = t.size-long;
        private = private-one t.private;
        no_name = refl;
        no-total = refl;
        no-security = refl;
      }))
      (on P (both_good v s o) _ _ (both-good v s x o g t.rule refl refl refl t.file)
      (off P (eqb (number_of (value_in s o t80)) 0) _ _ (ne_eqb _ 0 (λ y. t.size-some (sym z ∙ y)))
      (on P (good_length d (record_length_of (value_in s o t82)) (number_of (value_in s o t80))) _ _ (rw (u t82 (lit< tt), z) l.1) (
        ap first_of (u t82 (lit< tt)) ∙ first_is t.descriptor,
        ap pair_of (u t83 (lit< tt)) ∙ pair_is t.identifier t.file.identifier-long,
        ap first_of (u t8a (lit< tt)) ∙ first_is t.life,
        ap record_length_of (u t82 (lit< tt)) ∙ layout-length t.descriptor (number t.size) t.layout,
        rule-form s x o g ∙ ap rule_form (rule-same t.rule),
        rule_value s x o g ∙ ap rule_of (rule-same t.rule),
        z,
      ))))

pub data_read : DataRead
data_read v s = (of_df, of-ef)
  where
    of_df : (t : DfData v s) → DfRead v s t (data_of v s)
    of_df t =
        let x = df_objects t in
        let w : s ≡ template (run 12 0 x) = rw (private-bytes t.private, rule-bytes t.rule) at t.written in
        let k : class_of (first_of (value_in s (objects_of s) t82)) ≡ df = class_is v s x w t.short t.descriptor df refl t.class in
        opened v s x w t.short (DfRead v s t)
        (on (DfRead v s t) (eqb (class_of (first_of (value_in s (objects_of s) t82))) df) _ _ (rw k)
        (df_read v s t (objects_of s) (noted_as v s x w t.short)))

    of-ef : (t : EfData v s) → EfRead v s t (data_of v s)
    of-ef t =
        let x = ef_objects t in
        let w : s ≡ template (run 12 0 x) = rw (private-bytes t.private, rule-bytes t.rule) at t.written in
        let k : class_of (first_of (value_in s (objects_of s) t82)) ≡ ef = class_is v s x w t.short t.descriptor ef refl t.class in
        opened v s x w t.short (EfRead v s t)
        (off (EfRead v s t) (eqb (class_of (first_of (value_in s (objects_of s) t82))) df) _ _ (rw k)
        (on (EfRead v s t) (eqb (class_of (first_of (value_in s (objects_of s) t82))) ef) _ _ (rw k)
        (ef_read v s t (objects_of s) (noted_as v s x w t.short))))

pub data_exactly : DataExactly
data_exactly v s = (
  taken v s,
  ⊎_elim (λ t e. subst (DfRead v s t) e ((data_read v s).0 t)) (λ t e. subst (EfRead v s t) e ((data_read v s).1 t)),
)

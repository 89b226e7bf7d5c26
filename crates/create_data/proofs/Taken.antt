-- Data that are not bad are a DF's or an EF's, as the grammar writes them.
use mathlib.Core.Path.{◌≡◌, refl, sym, ap, ◌∙◌}
use mathlib.Core.Bool.{Bool, true, false, cond}
use mathlib.Core.List.{List, [], ◌∷◌, ◌++◌, append-nil}
use mathlib.Core.Logic.{◌⊎◌, inl, inr, ⊎_elim}
use Prim.Native.Nat.{ℕ, ◌+◌, ◌-◌, ◌≤◌}
use native.Mathlib.Omega.{arith}
use lib.ListN.{length, get_or, drop}
use lib.Seq.{drop-length}
use lib.Dec.{eqb, lit<}
use borrow.Author.Tests.{eqb-true, eqb-false}
use Rattle.laws.proofs.Says.{le-says}
use Rattle.rules.specs.Descriptor.{class_of, df, ef}
use Rattle.rules.specs.Value.{good_length}
use Rattle.template.specs.declared.Objects.{Objects}
use Rattle.create_data.specs.declared.Data.{Data}
use Rattle.std.specs.Prelude.{Option, None}
use Rattle.template.specs.Objects.{value_in, objects_of}
use Rattle.create_data.specs.Form.{t82, t83, t84, t8a, t80, t81, tc6, t85, ta5, df_form, ef_form}
use Rattle.template.specs.Values.{first_of, record_length_of, number_of}
use Rattle.create_data.specs.Data.{is_template, need, name_good, both_good, df_of, sized_ef, ef_of, file_of, data_of}
use Rattle.create_data.specs.Grammar.{template, value_of, number, Long, FileData, DfData, EfData}
use Rattle.create_data.proofs.Noting.{standing, standing_noted}
use Rattle.create_data.proofs.Order.{run, standing_written}
use Rattle.create_data.proofs.Meaning.{and, each, first_is, number_is, name-says, file-from, layout-from, layout-some}
use Rattle.create_data.proofs.Forms.{DfForm, EfForm, ruled_in, once_in, value_is, lacks_is, both_is, df-form, ef-form, private_of}
use Rattle.create_data.proofs.Forms.{df-bytes, ef-bytes}

-- a test that what isn't bad has passed
needed : (b : Bool) (x : Option Data) → (need b x ≡ None → ⊥) → (b ≡ true) × (x ≡ None → ⊥)
needed true x f = (refl, f)
needed false x f = absurd (f refl)

not-zero : (n : ℕ) (x : Option Data) → (cond (eqb n 0) None x ≡ None → ⊥) → (n ≡ 0 → ⊥) × (x ≡ None → ⊥)
not-zero n x = go (eqb n 0) refl
  where
    go : (b : Bool) → eqb n 0 ≡ b → (cond b None x ≡ None → ⊥) → (n ≡ 0 → ⊥) × (x ≡ None → ⊥)
    go true p f = absurd (f refl)
    go false p f = (eqb-false n 0 p, f)

by_class : (k m : ℕ) (x y : Option Data) → (cond (eqb k m) x y ≡ None → ⊥) → ((k ≡ m) × (x ≡ None → ⊥)) ⊎ (y ≡ None → ⊥)
by_class k m x y = go (eqb k m) refl
  where
    go : (b : Bool) → eqb k m ≡ b → (cond b x y ≡ None → ⊥) → ((k ≡ m) × (x ≡ None → ⊥)) ⊎ (y ≡ None → ⊥)
    go true p f = inl (eqb-true k m p, f)
    go false p f = inr f

-- 62 LL and LL bytes
template_is : (s : List ℕ) → is_template s ≡ true → (s ≡ template (drop 2 s)) × (length s ≤ 2 + 0x7F) × (2 ≤ length s)
unfolding is_template
template_is s e =
    let a = each e in
    let b = each a.1 in
    let c = each b.1 in
    go s ((le-says 2 _).0 a.0) (eqb-true _ _ b.0) ((le-says _ 0x7F).0 c.0) (eqb-true (length s - 2) (get_or s 1 0) c.1)
  where
    go : (s : List ℕ) → 2 ≤ length s → get_or s 0 0 ≡ 0x62 → get_or s 1 0 ≤ 0x7F → length s - 2 ≡ get_or s 1 0
        → (s ≡ template (drop 2 s)) × (length s ≤ 2 + 0x7F) × (2 ≤ length s)
    go [] l p q r = absurd (omega arith)
    go (a ∷ []) l p q r = absurd (omega arith)
    go (a ∷ b ∷ os) l p q r = let z : b ≡ length os = omega arith in (cc, omega arith, l)

-- the objects end the data
module _ (v : ℕ) (s : List ℕ) (w : s ≡ template (drop 2 s)) (short : length s ≤ 2 + 0x7F) (long : 2 ≤ length s)
    (ends : (objects_of s).next ≡ length s) where
  body : drop 2 s ≡ run 12 0 (standing s)
  body =
      standing_written s
      ∙ ap (λ (l : List ℕ). run 12 0 (standing s) ++ l) (ap (λ (n : ℕ). drop n s) ends ∙ drop-length s)
      ∙ append-nil (run 12 0 (standing s))

  file_taken : Long 2 2 (value_of (standing s t83)) → Long 1 1 (value_of (standing s t8a)) → both_good v s (objects_of s) ≡ true
      → (once_in (standing s) ≡ true) × FileData v (value_of (standing s t83)) (value_of (standing s t8a)) (ruled_in (standing s))
  file_taken i l e =
      let x = standing s in
      file-from v (value_of (x t83)) (value_of (x t8a)) (once_in x) (ruled_in x)
      (omega arith) (omega arith) (sym (both_is s x (objects_of s) (standing_noted s long) v) ∙ e)

  df_taken : class_of (first_of (value_in s (objects_of s) t82)) ≡ df → (df_of v s (objects_of s) ≡ None → ⊥) → DfData v s
  unfolding df_of name_good
  df_taken k n =
      let o : Objects = objects_of s in
      let x = standing s in
      let g = standing_noted s long in
      let u = value_is s x o g in
      let a = needed (df_form o) _ n in
      let b = needed (name_good s o) _ a.1 in
      let c = needed (both_good v s o) _ b.1 in
      let d = not-zero (number_of (value_in s o t81)) _ c.1 in
      let f : DfForm x = (df-form s x o g).0 a.0 in
      let q = private_of (x t85) (x ta5) f.private in
      let file = file_taken f.identifier f.life c.0 in
      record {
        descriptor = value_of (x t82);
        identifier = value_of (x t83);
        name = x t84;
        life = value_of (x t8a);
        rule = ruled_in x;
        total = value_of (x t81);
        security = value_of (x tc6);
        private = q.0;
        written = w ∙ ap template (body ∙ df-bytes x file.0 file.1.rule-long.0 q.0 q.1 f);
        short = short;
        descriptor-long = omega (arith, f.descriptor);
        class = ap class_of (sym (ap first_of (u t82 (lit< tt)) ∙ first_is (value_of (x t82)))) ∙ k;
        file = file.1;
        name-long = (name-says (x t84)).0 (rw (lacks_is s x o g t84 (lit< tt), u t84 (lit< tt)) at b.0);
        total-long = f.total;
        total-some = λ z. d.0 (ap number_of (u t81 (lit< tt)) ∙ number_is _ f.total ∙ z);
        security-long = f.security.0;
      }

  ef_taken : class_of (first_of (value_in s (objects_of s) t82)) ≡ ef
      → (ef_of v s (objects_of s) (first_of (value_in s (objects_of s) t82)) ≡ None → ⊥) → EfData v s
  unfolding ef_of sized_ef
  ef_taken k n =
      let o : Objects = objects_of s in
      let x = standing s in
      let g = standing_noted s long in
      let u = value_is s x o g in
      let a = needed (ef_form o (first_of (value_in s o t82))) _ n in
      let b = needed (both_good v s o) _ a.1 in
      let c = not-zero (number_of (value_in s o t80)) _ b.1 in
      let d = needed (good_length (first_of (value_in s o t82)) (record_length_of (value_in s o t82)) (number_of (value_in s o t80))) _ c.1 in
      let f : EfForm x = (ef-form s x o g).0 a.0 in
      let q = private_of (x t85) (x ta5) f.private in
      let file = file_taken f.identifier f.life b.0 in
      let z : number_of (value_in s o t80) ≡ number (value_of (x t80)) = ap number_of (u t80 (lit< tt)) ∙ number_is _ f.size in
      let layout = layout-from (value_of (x t82)) (number (value_of (x t80))) (and f.descriptor (rw (u t82 (lit< tt), z) at d.0)) in
      record {
        descriptor = value_of (x t82);
        identifier = value_of (x t83);
        life = value_of (x t8a);
        rule = ruled_in x;
        size = value_of (x t80);
        private = q.0;
        written = w ∙ ap template (body ∙ ef-bytes x file.0 file.1.rule-long.0 q.0 q.1 f (layout-some _ _ layout));
        short = short;
        class = ap class_of (sym (ap first_of (u t82 (lit< tt)) ∙ first_is (value_of (x t82)))) ∙ k;
        layout = layout;
        file = file.1;
        size-long = f.size;
        size-some = λ y. c.0 (z ∙ y);
      }

pub taken : (v : ℕ) (s : List ℕ) → (data_of v s ≡ None → ⊥) → DfData v s ⊎ EfData v s
unfolding data_of file_of
taken v s n =
    let o : Objects = objects_of s in
    let k : ℕ = class_of (first_of (value_in s o t82)) in
    let a = needed (is_template s) _ n in
    let b = needed (eqb o.next (length s)) _ a.1 in
    let w = template_is s a.0 in
    let e = eqb-true o.next (length s) b.0 in
    ⊎_elim (λ c. inl (df_taken v s w.0 w.1 w.2 e c.0 c.1))
    (λ c. ⊎_elim (λ d. inr (ef_taken v s w.0 w.1 w.2 e d.0 d.1)) (λ d. absurd (d refl)) (by_class k ef _ _ c))
    (by_class k df _ _ b.1)

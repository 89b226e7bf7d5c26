-- The two lists of objects: what the reader's tests of a DF's and of an EF's objects say of the objects that were standing,
-- and the bytes that such objects are.
use mathlib.Core.Path.{◌≡◌, refl, sym, ap, ap₂, ◌∙◌}
use mathlib.Core.Bool.{Bool, true, cond, ◌&&◌, ◌||◌, false≢true}
use mathlib.Core.List.{List, [], ◌++◌, append-nil}
use mathlib.Core.Logic.{◌↔◌}
use Prim.Native.Nat.{ℕ, ◌<◌, ◌≤◌}
use native.Mathlib.Omega.{arith}
use lib.ListN.{length}
use lib.Dec.{lit<}
use Rattle.std.specs.Prelude.{Option, Some, None, is_none}
use Rattle.rules.specs.Descriptor.{has_records}
use Rattle.access.specs.Access.{compact, expanded, referred}
use Rattle.template.specs.declared.Objects.{Objects}
use Rattle.template.specs.Objects.{value_in}
use Rattle.create_data.specs.Form.{t82, t83, t84, t8a, t8c, tab, t8b, t80, t81, tc6, t85, ta5, lacks, has, one_private}
use Rattle.create_data.specs.Form.{one_rule, rule_in, form_in, first_form, df_form, ef_form}
use Rattle.template.specs.Values.{first_of}
use Rattle.create_data.specs.Grammar.{object, optional, value_of, Private, neither, in85, in_a5, privately}
use Rattle.create_data.specs.Grammar.{Ruled, in_8c, in_ab, in_8b, ruled, rule_of, rule_form, Long}
use Rattle.create_data.specs.Data.{rule_good, both_good}
use Rattle.create_data.proofs.Noting.{Noted}
use Rattle.create_data.proofs.Order.{run}
use Rattle.create_data.proofs.Meaning.{and, each, fits, long-says, file_test}

-- a DF's objects
pub record DfForm (x : ℕ → Option (List ℕ)) : Type 0 where
  pub descriptor : Long 2 2 (value_of (x t82))
  pub identifier : Long 2 2 (value_of (x t83))
  pub life : Long 1 1 (value_of (x t8a))
  pub total : Long 2 4 (value_of (x t81))
  pub security : Long 1 0x7F (value_of (x tc6))
  pub private : (is_none (x t85) || is_none (x ta5)) ≡ true
  pub no_size : is_none (x t80) ≡ true

-- an EF's; the length of 82 goes with its descriptor
pub record EfForm (x : ℕ → Option (List ℕ)) : Type 0 where
  pub descriptor : cond (has_records (first_of (value_of (x t82)))) (fits 4 4 (value_of (x t82))) (fits 2 2 (value_of (x t82))) ≡ true
  pub identifier : Long 2 2 (value_of (x t83))
  pub life : Long 1 1 (value_of (x t8a))
  pub size : Long 2 4 (value_of (x t80))
  pub private : (is_none (x t85) || is_none (x ta5)) ≡ true
  pub no_name : is_none (x t84) ≡ true
  pub no-total : is_none (x t81) ≡ true
  pub no-security : is_none (x tc6) ≡ true

-- the rule, by the three objects that may have it; and whether no two of them are there
abbrev pub ruled_of : Option (List ℕ) → Option (List ℕ) → Option (List ℕ) → Ruled
ruled_of (Some v) b c = in_8c v
ruled_of None (Some v) c = in_ab v
ruled_of None None c = in_8b (value_of c)

abbrev pub once_of : Option (List ℕ) → Option (List ℕ) → Option (List ℕ) → Bool
once_of a b c = cond (is_none a) (is_none b || is_none c) (is_none b && is_none c)

abbrev pub ruled_in : (ℕ → Option (List ℕ)) → Ruled
ruled_in x = ruled_of (x t8c) (x tab) (x t8b)

abbrev pub once_in : (ℕ → Option (List ℕ)) → Bool
once_in x = once_of (x t8c) (x tab) (x t8b)

module _ (s : List ℕ) (x : ℕ → Option (List ℕ)) (o : Objects) (g : Noted s x o) where
  pub value_is : (k : ℕ) → k < 12 → value_in s o k ≡ value_of (x k)
  value_is k l = (g k l).value

  has_is : (k low high : ℕ) → k < 12 → has o k low high ≡ fits low high (value_of (x k))
  unfolding has
  has_is k low high l = rw (g k l).long

  has-says : (k low high : ℕ) → k < 12 → (has o k low high ≡ true) ↔ Long low high (value_of (x k))
  has-says k low high l = rw (has_is k low high l) (long-says low high (value_of (x k)))

  pub lacks_is : (k : ℕ) → k < 12 → lacks o k ≡ is_none (x k)
  unfolding lacks
  lacks_is k l = (g k l).lacking

  private_is : one_private o ≡ (is_none (x t85) || is_none (x ta5))
  unfolding one_private
  private_is = ap₂ ◌||◌ (lacks_is t85 (lit< tt)) (lacks_is ta5 (lit< tt))

  rule_once : one_rule o ≡ once_in x
  unfolding one_rule
  rule_once = rw (lacks_is t8c (lit< tt), lacks_is tab (lit< tt), lacks_is t8b (lit< tt))

  pub rule_value : value_in s o (rule_in o) ≡ rule_of (ruled_in x)
  unfolding rule_in
  rule_value =
      rw (lacks_is t8c (lit< tt), lacks_is tab (lit< tt))
      (go (x t8c) (x tab) (value_is t8c (lit< tt)) (value_is tab (lit< tt)))
    where
      go : (y z : Option (List ℕ)) → value_in s o t8c ≡ value_of y → value_in s o tab ≡ value_of z
          → value_in s o (cond (is_none y) (cond (is_none z) t8b tab) t8c) ≡ rule_of (ruled_of y z (x t8b))
      go None None e f = value_is t8b (lit< tt)
      go None (Some v) e f = f
      go (Some v) z e f = e

  pub rule-form : form_in o ≡ rule_form (ruled_in x)
  unfolding form_in
  rule-form = rw (lacks_is t8c (lit< tt), lacks_is tab (lit< tt)) (go (x t8c) (x tab))
    where
      go : (y z : Option (List ℕ)) → cond (is_none y) (cond (is_none z) referred expanded) compact ≡ rule_form (ruled_of y z (x t8b))
      go None None = refl
      go None (Some v) = refl
      go (Some v) z = refl

  -- identifier, life cycle and rule
  pub both_is : (v : ℕ) → both_good v s o ≡ file_test v (value_of (x t83)) (value_of (x t8a)) (once_in x) (ruled_in x)
  unfolding both_good rule_good
  both_is v = rw (value_is t83 (lit< tt), value_is t8a (lit< tt), rule_once, rule-form, rule_value)

  first-form : first_form o (first_of (value_in s o t82))
      ≡ cond (has_records (first_of (value_of (x t82)))) (fits 4 4 (value_of (x t82))) (fits 2 2 (value_of (x t82)))
  unfolding first_form
  first-form = rw (value_is t82 (lit< tt), has_is t82 4 4 (lit< tt), has_is t82 2 2 (lit< tt))

  pub df-form : (df_form o ≡ true) ↔ DfForm x
  unfolding df_form
  df-form = (to, from)
    where
      to : df_form o ≡ true → DfForm x
      to e =
          let a = each e in
          let b = each a.1 in
          let c = each b.1 in
          let d = each c.1 in
          let f = each d.1 in
          let h = each f.1 in
          record {
            descriptor = (has-says t82 _ _ (lit< tt)).0 a.0;
            identifier = (has-says t83 _ _ (lit< tt)).0 b.0;
            life = (has-says t8a _ _ (lit< tt)).0 c.0;
            total = (has-says t81 _ _ (lit< tt)).0 d.0;
            security = (has-says tc6 _ _ (lit< tt)).0 f.0;
            private = sym private_is ∙ h.0;
            no_size = sym (lacks_is t80 (lit< tt)) ∙ h.1;
          }

      from : DfForm x → df_form o ≡ true
      from f =
          and ((has-says t82 2 2 (lit< tt)).1 f.descriptor)
          (and ((has-says t83 2 2 (lit< tt)).1 f.identifier)
          (and ((has-says t8a 1 1 (lit< tt)).1 f.life)
          (and ((has-says t81 2 4 (lit< tt)).1 f.total)
          (and ((has-says tc6 1 0x7F (lit< tt)).1 f.security)
          (and (private_is ∙ f.private) (lacks_is t80 (lit< tt) ∙ f.no_size))))))

  pub ef-form : (ef_form o (first_of (value_in s o t82)) ≡ true) ↔ EfForm x
  unfolding ef_form
  ef-form = (to, from)
    where
      to : ef_form o (first_of (value_in s o t82)) ≡ true → EfForm x
      to e =
          let a = each e in
          let b = each a.1 in
          let c = each b.1 in
          let d = each c.1 in
          let f = each d.1 in
          let h = each f.1 in
          let i = each h.1 in
          record {
            descriptor = sym first-form ∙ a.0;
            identifier = (has-says t83 _ _ (lit< tt)).0 b.0;
            life = (has-says t8a _ _ (lit< tt)).0 c.0;
            size = (has-says t80 _ _ (lit< tt)).0 d.0;
            private = sym private_is ∙ f.0;
            no_name = sym (lacks_is t84 (lit< tt)) ∙ h.0;
            no-total = sym (lacks_is t81 (lit< tt)) ∙ i.0;
            no-security = sym (lacks_is tc6 (lit< tt)) ∙ i.1;
          }

      from : EfForm x → ef_form o (first_of (value_in s o t82)) ≡ true
      from f =
          and (first-form ∙ f.descriptor)
          (and ((has-says t83 2 2 (lit< tt)).1 f.identifier)
          (and ((has-says t8a 1 1 (lit< tt)).1 f.life)
          (and ((has-says t80 2 4 (lit< tt)).1 f.size)
          (and (private_is ∙ f.private)
          (and (lacks_is t84 (lit< tt) ∙ f.no_name)
          (and (lacks_is t81 (lit< tt) ∙ f.no-total) (lacks_is tc6 (lit< tt) ∙ f.no-security)))))))

-- the bytes of objects one after the other: one that has a byte is there, one that is absent leaves nothing
there : (t : ℕ) (y : Option (List ℕ)) {l m : List ℕ} → 1 ≤ length (value_of y) → l ≡ m → optional t y ++ l ≡ object t (value_of y) ++ m
there t None h e = absurd (omega arith)
there t (Some v) h e = ap (λ (l : List ℕ). object t v ++ l) e

gone : (t : ℕ) (y : Option (List ℕ)) {l m : List ℕ} → is_none y ≡ true → l ≡ m → optional t y ++ l ≡ m
gone t None h e = e
gone t (Some v) h e = absurd (false≢true h)

-- 85, A5 or neither
pub private_of : (a b : Option (List ℕ)) → (is_none a || is_none b) ≡ true
    → (p : Private) × (optional 0x85 a ++ (optional 0xA5 b ++ []) ≡ privately p)
private_of None None e = (neither, refl)
private_of None (Some v) e = (in_a5 v, append-nil (object 0xA5 v))
private_of (Some v) None e = (in85 v, append-nil (object 0x85 v))
private_of (Some v) (Some w) e = absurd (false≢true e)

-- 8C, AB or 8B
rule-bytes : (a b c : Option (List ℕ)) {l m : List ℕ} → once_of a b c ≡ true → 1 ≤ length (rule_of (ruled_of a b c)) → l ≡ m
    → optional 0x8C a ++ (optional 0xAB b ++ (optional 0x8B c ++ l)) ≡ ruled (ruled_of a b c) ++ m
rule-bytes None None c o h e = there 0x8B c h e
rule-bytes None (Some v) None o h e = ap (λ (l : List ℕ). object 0xAB v ++ l) e
rule-bytes None (Some v) (Some w) o h e = absurd (false≢true o)
rule-bytes (Some v) None None o h e = ap (λ (l : List ℕ). object 0x8C v ++ l) e
rule-bytes (Some v) None (Some w) o h e = absurd (false≢true o)
rule-bytes (Some v) (Some w) c o h e = absurd (false≢true o)

module _ (x : ℕ → Option (List ℕ)) (once : once_in x ≡ true) (rule : 1 ≤ length (rule_of (ruled_in x))) (p : Private)
    (e : optional 0x85 (x t85) ++ (optional 0xA5 (x ta5) ++ []) ≡ privately p) where
  pub df-bytes : DfForm x → run 12 0 x
      ≡ object 0x82 (value_of (x t82)) ++ (object 0x83 (value_of (x t83)) ++ (optional 0x84 (x t84) ++ (object 0x8A (value_of (x t8a))
      ++ (ruled (ruled_in x) ++ (object 0x81 (value_of (x t81)) ++ (object 0xC6 (value_of (x tc6)) ++ privately p))))))
  df-bytes f =
      there 0x82 (x t82) (omega (arith, f.descriptor)) (there 0x83 (x t83) (omega (arith, f.identifier))
      (ap (λ (l : List ℕ). optional 0x84 (x t84) ++ l)
      (there 0x8A (x t8a) (omega (arith, f.life)) (rule-bytes (x t8c) (x tab) (x t8b) once rule (gone 0x80 (x t80) f.no_size
      (there 0x81 (x t81) (omega (arith, f.total)) (there 0xC6 (x tc6) f.security.0 e)))))))

  pub ef-bytes : EfForm x → 1 ≤ length (value_of (x t82)) → run 12 0 x
      ≡ object 0x82 (value_of (x t82)) ++ (object 0x83 (value_of (x t83)) ++ (object 0x8A (value_of (x t8a))
      ++ (ruled (ruled_in x) ++ (object 0x80 (value_of (x t80)) ++ privately p))))
  ef-bytes f d =
      there 0x82 (x t82) d (there 0x83 (x t83) (omega (arith, f.identifier)) (gone 0x84 (x t84) f.no_name
      (there 0x8A (x t8a) (omega (arith, f.life)) (rule-bytes (x t8c) (x tab) (x t8b) once rule
      (there 0x80 (x t80) (omega (arith, f.size)) (gone 0x81 (x t81) f.no-total (gone 0xC6 (x tc6) f.no-security e)))))))

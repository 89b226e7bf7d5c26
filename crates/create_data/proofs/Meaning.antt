-- The values of single objects: what each test says of them, in the grammar's words, and the numbers that are read.
use mathlib.Core.Path.{◌≡◌, refl, sym, ap, ◌∙◌}
use mathlib.Core.Bool.{Bool, true, false, not, cond, ◌&&◌, ◌||◌, false≢true}
use mathlib.Core.List.{List, [], ◌∷◌}
use mathlib.Core.Logic.{◌↔◌, inl, inr, ⊎_elim}
use Prim.Native.Nat.{ℕ, ◌*◌, ◌/◌, ◌%◌, ◌<◌, ◌≤◌}
use native.Mathlib.Nat.{div-add-mod', mul-mod_left, mul-div_left}
use native.Mathlib.Omega.{arith}
use lib.ListN.{length, drop, drop_of_length-le}
use lib.Dec.{eqb, leb}
use borrow.Author.Tests.{eqb-true, eq-eqb}
use Rattle.std.specs.Prelude.{Option, Some, None, is_none}
use Rattle.laws.specs.Tests.{either}
use Rattle.laws.proofs.Says.{and-says, or-says, not-says, either-says, le-says, untrue}
use Rattle.numbers.specs.Numbers.{u16_at, u32_at}
use Rattle.rules.specs.Descriptor.{structure_of, has_records}
use Rattle.rules.specs.Life.{new_life}
use Rattle.rules.specs.Value.{good_identifier, whole_records, good_length}
use Rattle.image.specs.Layout.{longest_rule, forms_of}
use Rattle.access.proofs.Fits.{fits-says}
use Rattle.access.specs.Access.{well_formed, fits_record}
use Rattle.template.specs.Values.{first_of, pair_of, record_length_of, number_of, fits_name}
use Rattle.create_data.specs.Grammar.{value_of, Ruled, rule_of, rule_form, first, number, Long}
use Rattle.create_data.specs.Grammar.{NameLong, FileData}
use Rattle.create_data.specs.Grammar.{Structured, Records, Layout, plain, records}

-- the numbers that are read
pub first_is : (v : List ℕ) → first_of v ≡ first v
first_is [] = refl
first_is (x ∷ v) = refl

pub pair_is : (v : List ℕ) → length v ≡ 2 → pair_of v ≡ number v
unfolding pair_of u16_at
pair_is [] e = omega arith
pair_is (a ∷ []) e = omega arith
pair_is (a ∷ b ∷ []) e = omega arith
pair_is (a ∷ b ∷ c ∷ v) e = omega arith

pub number_is : (v : List ℕ) → Long 2 4 v → number_of v ≡ number v
unfolding number_of u16_at u32_at
number_is [] e = omega arith
number_is (a ∷ []) e = omega arith
number_is (a ∷ b ∷ []) e = omega arith
number_is (a ∷ b ∷ c ∷ []) e = omega arith
number_is (a ∷ b ∷ c ∷ d ∷ []) e = omega arith
number_is (a ∷ b ∷ c ∷ d ∷ f ∷ v) e = omega arith

pub record_length-none : (v : List ℕ) → length v ≡ 2 → record_length_of v ≡ 0
unfolding record_length_of
record_length-none v e = ap (λ (n : ℕ). cond (eqb n 4) (u16_at v 2) 0) e

pub record_length_is : (v : List ℕ) → length v ≡ 4 → record_length_of v ≡ number (drop 2 v)
unfolding record_length_of u16_at
record_length_is [] e = omega arith
record_length_is (a ∷ []) e = omega arith
record_length_is (a ∷ b ∷ []) e = omega arith
record_length_is (a ∷ b ∷ c ∷ []) e = omega arith
record_length_is (a ∷ b ∷ c ∷ d ∷ []) e = omega arith
record_length_is (a ∷ b ∷ c ∷ d ∷ f ∷ v) e = omega arith

-- two tests passed, together and each
pub and : {a b : Bool} → a ≡ true → b ≡ true → (a && b) ≡ true
and p q = rw (p, q)

pub each : {a b : Bool} → (a && b) ≡ true → (a ≡ true) × (b ≡ true)
each {a} {b} e = (and-says a b).0 e

-- lengths
abbrev pub fits : ℕ → ℕ → List ℕ → Bool
fits low high v = leb low (length v) && leb (length v) high

pub long-says : (low high : ℕ) (v : List ℕ) → (fits low high v ≡ true) ↔ Long low high v
long-says low high v = (
  λ e. let p = each e in ((le-says _ _).0 p.0, (le-says _ _).0 p.1),
  λ l. and ((le-says _ _).1 l.0) ((le-says _ _).1 l.1),
)

pub name-fits : (v : List ℕ) → (fits_name v ≡ true) ↔ Long 1 16 v
unfolding fits_name
name-fits v = long-says _ _ v

pub name-says : (x : Option (List ℕ)) → ((is_none x || fits_name (value_of x)) ≡ true) ↔ NameLong x
name-says None = (λ e. tt, λ l. refl)
name-says (Some v) = name-fits v

-- an identifier, a life cycle and a rule
pub identifier-says : (n : ℕ) → (good_identifier n ≡ true) ↔ ((n ≡ 0x3FFF → ⊥) × (n ≡ 0x7FFF → ⊥) × (n ≡ 0xFFFF → ⊥))
unfolding good_identifier
identifier-says n = (
  λ e.
      let p = each e in
      let q = each p.1 in
      ((isnt 0x3FFF).0 p.0, (isnt 0x7FFF).0 q.0, (isnt 0xFFFF).0 q.1),
  λ f. and ((isnt 0x3FFF).1 f.0) (and ((isnt 0x7FFF).1 f.1) ((isnt 0xFFFF).1 f.2)),
)
  where
    isnt : (m : ℕ) → (not (eqb n m) ≡ true) ↔ (n ≡ m → ⊥)
    isnt m = (λ e z. (not-says (eqb n m)).0 e (eq-eqb n m z), λ f. (not-says (eqb n m)).1 (λ z. f (eqb-true n m z)))

pub rule-says : (v form : ℕ) (r : List ℕ)
    → (fits_record v form r ≡ true) ↔ (Long 1 (longest_rule v) r × (form < forms_of v) × (well_formed form r ≡ true))
rule-says v form r = (
  λ e. let f = (fits-says v form r).0 e in ((f.some, f.short), f.known, f.formed),
  λ f. (fits-says v form r).1 (record { some = f.0.0; short = f.0.1; known = f.1; formed = f.2 }),
)

-- what DF and EF share; the rule is there once
abbrev pub file_test : ℕ → List ℕ → List ℕ → Bool → Ruled → Bool
file_test v i l once r = good_identifier (pair_of i) && (new_life (first_of l) && (once && fits_record v (rule_form r) (rule_of r)))

pub file-from : (v : ℕ) (i l : List ℕ) (once : Bool) (r : Ruled) → length i ≡ 2 → length l ≡ 1
    → file_test v i l once r ≡ true → (once ≡ true) × FileData v i l r
file-from v i l once r two one e =
    let p = each e in
    let q = each p.1 in
    let t = each q.1 in
    let a = (identifier-says (number i)).0 (sym (ap good_identifier (pair_is i two)) ∙ p.0) in
    let b = (rule-says v (rule_form r) (rule_of r)).0 t.1 in (
      t.0,
      record {
        identifier-long = two;
        not_3fff = a.0;
        not_7fff = a.1;
        not-FFFF = a.2;
        life-long = one;
        life_cycle = sym (ap new_life (first_is l)) ∙ q.0;
        rule-long = b.0;
        rule-form = b.1;
        rule-formed = b.2;
      },
    )

pub file_to : (v : ℕ) (i l : List ℕ) (once : Bool) (r : Ruled) → once ≡ true → FileData v i l r → file_test v i l once r ≡ true
file_to v i l once r e f =
    and (ap good_identifier (pair_is i f.identifier-long) ∙ (identifier-says (number i)).1 (f.not_3fff, f.not_7fff, f.not-FFFF))
    (and (ap new_life (first_is l) ∙ f.life_cycle)
    (and e ((rule-says v (rule_form r) (rule_of r)).1 (f.rule-long, f.rule-form, f.rule-formed))))

-- records
pub structure_says : (v : List ℕ) → (has_records (first v) ≡ true) ↔ Structured v
unfolding has_records
structure_says v = (
  λ e. ⊎_elim (λ p. inl (eqb-true _ _ p)) (λ p. inr (eqb-true _ _ p)) ((or-says (eqb (structure_of (first v)) 2) _).0 e),
  λ f. (or-says _ _).1 (⊎_elim (λ p. inl (eq-eqb _ _ p)) (λ p. inr (eq-eqb _ _ p)) f),
)

multiple : (z n : ℕ) → z % n ≡ 0 → z ≡ z / n * n
multiple z n e = omega (arith, div-add-mod' z n)

pub records-says : (n z : ℕ) → (whole_records n z ≡ true) ↔ Records n z
unfolding whole_records
records-says n z = (
  λ e.
      let p = each e in
      let q = each p.1 in
      let r = each q.1 in
      let t = each r.1 in
      record {
        each_low = (le-says _ _).0 p.0;
        each_high = (le-says _ _).0 q.0;
        count = z / n;
        count_low = (le-says _ _).0 t.0;
        count-high = (le-says _ _).0 t.1;
        whole = multiple z n (eqb-true (z % n) 0 r.0);
      },
  λ r.
      let a : z % n ≡ 0 = ap (λ (i : ℕ). i % n) r.whole ∙ mul-mod_left r.count n in
      let b : z / n ≡ r.count = ap (λ (i : ℕ). i / n) r.whole ∙ mul-div_left r.count r.each_low in
      let c : 1 ≤ z / n = omega (arith, r.count_low) in
      let d : z / n ≤ 254 = omega (arith, r.count-high) in
      and ((le-says _ _).1 r.each_low)
      (and ((le-says _ _).1 r.each_high) (and (eq-eqb _ _ a) (and ((le-says _ _).1 c) ((le-says _ _).1 d)))),
)

-- 82 of an EF: how long it is, and what its records are
abbrev pub layout_test : List ℕ → ℕ → Bool
layout_test v z = cond (has_records (first_of v)) (fits 4 4 v) (fits 2 2 v) && good_length (first_of v) (record_length_of v) z

pub layout-from : (v : List ℕ) (z : ℕ) → layout_test v z ≡ true → Layout v z
unfolding good_length
layout-from v z e = go (has_records (first v)) refl (rw (first_is v) at e)
  where
    go : (b : Bool) → has_records (first v) ≡ b
        → (cond b (fits 4 4 v) (fits 2 2 v) && either b (whole_records (record_length_of v) z) (eqb (record_length_of v) 0)) ≡ true → Layout v z
    go true p q =
        let r = (and-says (fits 4 4 v) _).0 q in
        let l : length v ≡ 4 = omega (arith, (long-says 4 4 v).0 r.0) in
        records ((structure_says v).0 p) l ((records-says _ z).0 (rw (record_length_is v l) at (((either-says true _ _).0 r.1).0 refl)))
    go false p q =
        let r = (and-says (fits 2 2 v) _).0 q in
        plain (λ t. false≢true (sym p ∙ (structure_says v).1 t)) (omega (arith, (long-says 2 2 v).0 r.0))

pub layout_to : (v : List ℕ) (z : ℕ) → Layout v z → layout_test v z ≡ true
unfolding good_length either
layout_to v z (plain n l) =
    rw (first_is v, untrue (has_records (first v)) (λ h. n ((structure_says v).0 h)))
    (and ((long-says 2 2 v).1 (omega arith)) (eq-eqb _ _ (record_length-none v l)))
layout_to v z (records t l r) =
    rw (first_is v, (structure_says v).1 t, record_length_is v l) (and ((long-says 4 4 v).1 (omega arith)) ((records-says _ z).1 r))

pub layout-length : (v : List ℕ) (z : ℕ) → Layout v z → record_length_of v ≡ number (drop 2 v)
layout-length v z (plain n l) = record_length-none v l ∙ sym (ap number (drop_of_length-le v {i = 2} (omega arith)))
layout-length v z (records t l r) = record_length_is v l

pub layout-some : (v : List ℕ) (z : ℕ) → Layout v z → 1 ≤ length v
layout-some v z (plain n l) = omega arith
layout-some v z (records t l r) = omega arith

-- What a record's own bytes tell: the numbers that were read, name and rule with the zeros after them, each as
-- a law for one way out of a function.
use mathlib.Core.Path.{◌≡◌, refl, sym, ◌∙◌, ap}
use mathlib.Core.Bool.{Bool, true, false, not, ◌&&◌, and-true, and-false, false≢true}
use mathlib.Core.List.{List}
use mathlib.Core.Logic.{◌↔◌}
use Prim.Native.Nat.{ℕ, zero, suc, ◌+◌, ◌*◌, ◌-◌, ◌<◌, ◌≤◌}
use native.Mathlib.Omega.{arith}
use lib.ListN.{length, get_or, take, drop}
use lib.Dec.{eqb, leb, ltb}
use borrow.Author.Tests.{eqb-true, eq-eqb, ne_eqb, not-true, not-false, le-leb, lt-leb, lt-ltb, leb-true, ltb-true}
use Rattle.laws.specs.Lists.{part}
use Rattle.laws.specs.Walks.{all_below}
use Rattle.laws.specs.Tests.{implies, either}
use Rattle.laws.proofs.Splices.{length_part}
use Rattle.laws.proofs.Chains.{got_and, ungot_and, called_and, refused-and}
use Rattle.laws.proofs.Says.{and-says, implies-says, untrue}
use Rattle.numbers.specs.Numbers.{u16_at, u32_at}
use Rattle.rules.specs.Value.{good_identifier, whole_records, good_length}
use Rattle.rules.specs.Descriptor.{class_of, ef, Classes, has_records}
use Rattle.image.specs.Layout.{longest_rule, forms_of, known_version, form_of, rec_at, count_of, version_of, kind_of, descriptor_of}
use Rattle.image.specs.Layout.{record_length_of, size_of, rule_of, field_at}
use Rattle.image.proofs.Versions.{longest_within, longest_least}
use Rattle.image.proofs.Places.{record-in}
use Rattle.access.specs.Access.{well_formed, fits_record}
use Rattle.access.proofs.Fits.{fits-says}
use Rattle.sound_records.specs.Ends.{zeros_end}
use Rattle.sound.specs.Own.{zerosb, paddedb, ownb, measuredb, nameb, ruledb}
use Rattle.sound.specs.Sound.{headerb, recordsb}
use Rattle.sound_records.proofs.Zeros.{agree, zeros_each, zeros-part, zeros-both, one-zero}
use Rattle.sound_records.proofs.Tails.{tail-says}

pub identifier-last : (v w : ℕ) {b : Bool} → v ≡ w → b ≡ good_identifier v → b ≡ good_identifier w
identifier-last v w e h = h ∙ ap good_identifier e

-- kind and descriptor, by the table of classes: d is the descriptor
module _ (r table : List ℕ) (t : Classes table) (d : ℕ) (e : d ≡ get_or r 1 0) (l : d < 256) (q : Bool) {x : Bool} where
  pub class-not : (get_or table d 0 ≡ get_or r 0 0 → ⊥) → x ≡ false → x ≡ (eqb (class_of (get_or r 1 0)) (get_or r 0 0) && q)
  class-not n h = ungot_and (class_of (get_or r 1 0)) (get_or r 0 0) q (t.right d l ∙ ap class_of e) n h

  pub class-and : get_or table d 0 ≡ get_or r 0 0 → x ≡ q → x ≡ (eqb (class_of (get_or r 1 0)) (get_or r 0 0) && q)
  class-and n h = got_and (class_of (get_or r 1 0)) (get_or r 0 0) q (t.right d l ∙ ap class_of e) n h

-- size and record length: z and l are those numbers, h says whether there are records
module _ (r : List ℕ) (z : ℕ) (e : z ≡ u32_at r 12) where
  pub recorded_not : z < 1 → false ≡ (leb 1 (size_of r) && whole_records (record_length_of r) (size_of r))
  unfolding size_of
  recorded_not h = rw (← e, lt-leb 1 z h)

  pub recorded_is : 1 ≤ z → (l : ℕ) (b : Bool) → l ≡ u16_at r 10 → b ≡ whole_records l z
      → b ≡ (leb 1 (size_of r) && whole_records (record_length_of r) (size_of r))
  unfolding size_of record_length_of
  recorded_is h l b f g = rw (← e, ← f, le-leb 1 z h) g

module _ (r : List ℕ) (h : Bool) (f : h ≡ has_records (get_or r 1 0)) where
  pub measured_records : h ≡ true → (b : Bool) → b ≡ (leb 1 (size_of r) && whole_records (record_length_of r) (size_of r)) → b ≡ measuredb r
  unfolding measuredb good_length descriptor_of either
  measured_records t b g = rw (← f, t) g

  module _ (t : h ≡ false) (l : ℕ) (e : l ≡ u16_at r 10) where
    pub measured_length : (l ≡ 0 → ⊥) → false ≡ measuredb r
    unfolding measuredb good_length descriptor_of either record_length_of
    measured_length n = rw (← f, t, ← e, ne_eqb l 0 n) (sym (and-false (leb 1 (size_of r))))

    pub measured_size : l ≡ 0 → (z : ℕ) → z ≡ u32_at r 12 → not (eqb z 0) ≡ measuredb r
    unfolding measuredb good_length descriptor_of either record_length_of size_of
    measured_size n z g = rw (← f, t, ← e, eq-eqb l 0 n, ← g) (some z ∙ sym (and-true (leb 1 z)))
      where
        some : (z : ℕ) → not (eqb z 0) ≡ leb 1 z
        some zero = refl
        some (suc z) = ap not (ne_eqb (suc z) 0 (λ e. omega arith)) ∙ sym (le-leb 1 (suc z) (omega arith))

always : (b : Bool) → implies b true ≡ true
unfolding implies
always true = refl
always false = refl

-- the name: x says whether there is none, n is its length
module _ (r : List ℕ) (x : Bool) (g : x ≡ zerosb r 16 17) where
  pub named_none : x ≡ true → true ≡ nameb r
  unfolding nameb paddedb
  named_none t =
      let e : get_or r 16 0 ≡ 0 = zeros_each r 16 17 (sym g ∙ t) 16 (omega arith) (omega arith) in
      rw (e, zeros-part r 16 17 17 16 (omega arith) (omega arith) (sym g ∙ t)) (sym (always (eqb (kind_of r) ef)))

  -- an EF's name field that passed is empty
  named-empty : get_or r 0 0 ≡ 2 → nameb r ≡ true → zerosb r 16 17 ≡ true
  unfolding nameb paddedb kind_of
  named-empty k z =
      let p = (and-says (paddedb 16 r 16) (implies (eqb (kind_of r) ef) (eqb (get_or r 16 0) 0))).0 z in
      let q = (and-says (leb (get_or r 16 0) 16) (zerosb r (17 + get_or r 16 0) (16 - get_or r 16 0))).0 p.0 in
      let o : get_or r 16 0 ≡ 0 = eqb-true (get_or r 16 0) 0
      ((implies-says (eqb (kind_of r) ef) (eqb (get_or r 16 0) 0)).0 p.1 (eq-eqb (get_or r 0 0) 2 k)) in
      zeros-both r 16 1 17 16 16 17 (omega arith) (omega arith) (omega arith) (sym (one-zero r 16) ∙ eq-eqb (get_or r 16 0) 0 o) (rw o at q.1)

  module _ (t : x ≡ false) (n : ℕ) (e : n ≡ get_or r 16 0) where
    pub named-long : 16 < n → false ≡ nameb r
    unfolding nameb paddedb
    named-long h = rw (← e, lt-leb n 16 h)

    pub named-ef : get_or r 0 0 ≡ 2 → false ≡ nameb r
    named-ef k = sym t ∙ g ∙ agree (zerosb r 16 17) (nameb r) (λ z. sym (named_none (g ∙ z))) (named-empty k)

    pub named-df : n ≤ 16 → (get_or r 0 0 ≡ 2 → ⊥) → (b : Bool) → b ≡ zerosb r (17 + n) (16 - n) → b ≡ nameb r
    unfolding nameb paddedb kind_of implies
    named-df h k b z = rw (← e, le-leb n 16 h, ne_eqb (get_or r 0 0) 2 k) (z ∙ sym (and-true (zerosb r (17 + n) (16 - n))))

-- the rule: n is its length
record Ruled (v : ℕ) (r : List ℕ) (n : ℕ) : Type 0 where
  some : 1 ≤ n
  short : n ≤ longest_rule v
  known : form_of r < forms_of v
  zeros : zerosb r (34 + n) (zeros_end v r - (34 + n)) ≡ true
  formed : well_formed (form_of r) (take n (drop 34 r)) ≡ true

-- k is whether the version has the form
pub form-known : (v : ℕ) (r : List ℕ) {k : Bool} → k ≡ ltb (get_or r 3 0) (forms_of v) → not k ≡ false → form_of r < forms_of v
unfolding form_of
form-known v r {k} e h = ltb-true _ _ (sym e ∙ not-false k h)

module _ (v : ℕ) (r : List ℕ) (whole : length r ≡ 64) (n : ℕ) (f : n ≡ get_or r 33 0) where
  rule-long : n ≤ longest_rule v → length (rule_of r) ≡ n
  unfolding rule_of field_at
  rule-long h = rw (← f) (length_part r 34 n (omega (arith, longest_within v)))

  rule_is : rule_of r ≡ take n (drop 34 r)
  unfolding rule_of field_at part
  rule_is = rw (← f) refl

  ruled-says : (ruledb v r ≡ true) ↔ Ruled v r n
  unfolding ruledb paddedb
  ruled-says = (
    λ z.
        let a = (and-says (paddedb (longest_rule v) r 33) _).0 z in
        let p = (and-says (leb (get_or r 33 0) (longest_rule v)) _).0 a.0 in
        let b = (and-says (fits_record v (form_of r) (rule_of r)) _).0 a.1 in
        let short : n ≤ longest_rule v = rw f (leb-true _ _ p.0) in
        let fits = (fits-says v (form_of r) (rule_of r)).0 b.0 in
        record {
          some = omega (arith, fits.some, rule-long short);
          short = short;
          known = fits.known;
          zeros = (tail-says v r n short).1 (rw f p.1, b.1);
          formed = ap (well_formed (form_of r)) (sym rule_is) ∙ fits.formed;
        },
    λ u.
        let tail = (tail-says v r n u.short).0 u.zeros in
        let fits = (fits-says v (form_of r) (rule_of r)).1 (record {
          some = omega (arith, u.some, rule-long u.short);
          short = omega (arith, u.short, rule-long u.short);
          known = u.known;
          formed = ap (well_formed (form_of r)) rule_is ∙ u.formed;
        }) in
        (and-says _ _).1
        ((and-says _ _).1 (le-leb (get_or r 33 0) (longest_rule v) (omega (arith, u.short)), rw (← f) tail.0), (and-says _ _).1 (fits, tail.1)),
  )

  refuted : (Ruled v r n → ⊥) → false ≡ ruledb v r
  refuted un = sym (untrue (ruledb v r) (λ z. un (ruled-says.0 z)))

  pub ruled-none : n < 1 → false ≡ ruledb v r
  ruled-none h = refuted (λ u. omega (arith, u.some))

  pub ruled_unknown : {k : Bool} → k ≡ ltb (get_or r 3 0) (forms_of v) → not k ≡ true → false ≡ ruledb v r
  unfolding form_of
  ruled_unknown {k} e h = refuted (λ u. false≢true (sym (not-true k h) ∙ e ∙ lt-ltb _ _ u.known))

  -- e is where the zeros end
  pub ruled-tail : {e : ℕ} {p : Bool} → e ≡ zeros_end v r → p ≡ zerosb r (34 + n) (e - (34 + n)) → not p ≡ true → false ≡ ruledb v r
  ruled-tail {e} {p} to z t = refuted (λ u. false≢true (sym (not-true p t) ∙ z ∙ rw to u.zeros))

  tail_passed : {e : ℕ} {p : Bool} → e ≡ zeros_end v r → p ≡ zerosb r (34 + n) (e - (34 + n)) → not p ≡ false
      → zerosb r (34 + n) (zeros_end v r - (34 + n)) ≡ true
  tail_passed {e} {p} to z t = rw (← to) (sym z ∙ not-false p t)

  -- a rule that fits where it stands: what is left is whether it is well formed
  left-formed : 1 ≤ n → n ≤ longest_rule v → form_of r < forms_of v → zerosb r (34 + n) (zeros_end v r - (34 + n)) ≡ true → (b : Bool)
      → b ≡ well_formed (get_or r 3 0) (take (34 + n - 34) (drop 34 r)) → b ≡ ruledb v r
  unfolding form_of
  left-formed some short known zeros b g =
      let c : 34 + n - 34 ≡ n = omega arith in
      let formed = g ∙ ap (λ (i : ℕ). well_formed (get_or r 3 0) (take i (drop 34 r))) c in
      agree b (ruledb v r)
      (λ z. ruled-says.1 (record { some = some; short = short; known = known; zeros = zeros; formed = sym formed ∙ z }))
      (λ z. formed ∙ (ruled-says.0 z).formed)

  -- at most 16 bytes, for which every version that has the form has room; k is whether it has
  pub ruled_is : {k : Bool} {e : ℕ} {p : Bool} → 1 ≤ n → k ≡ ltb (get_or r 3 0) (forms_of v) → not k ≡ false → n ≤ 16 → e ≡ zeros_end v r
      → p ≡ zerosb r (34 + n) (e - (34 + n)) → not p ≡ false
      → (b : Bool) → b ≡ well_formed (get_or r 3 0) (take (34 + n - 34) (drop 34 r)) → b ≡ ruledb v r
  unfolding known_version
  ruled_is {k} {e} {p} some has known short to z t =
      let form = form-known v r has known in
      let some-form : 0 < forms_of v = omega (arith, form) in
      let room = longest_least v (lt-ltb 0 (forms_of v) some-form) in
      left-formed some (omega (arith, room)) form (tail_passed to z t)

  -- more than 16; m is how many bytes the version has room for
  module _ {m : ℕ} (most : m ≡ longest_rule v) where
    pub long-past : m < n → false ≡ ruledb v r
    long-past h = refuted (λ u. omega (arith, u.short))

    pub long_is : {e : ℕ} {p : Bool} → 16 < n → n ≤ m → form_of r < forms_of v → e ≡ zeros_end v r
        → p ≡ zerosb r (34 + n) (e - (34 + n)) → not p ≡ false
        → (b : Bool) → b ≡ well_formed (get_or r 3 0) (take (34 + n - 34) (drop 34 r)) → b ≡ ruledb v r
    long_is some short known to z t = left-formed (omega arith) (omega arith) known (tail_passed to z t)

pub ruleset ruling = (ruled-none, ruled_unknown, ruled-tail, ruled_is)

-- a record of the image, tested as a part of it
pub own-part : (img : List ℕ) (v s : ℕ) (b : Bool) → b ≡ ownb v (take (16 + 64 * s + 64 - (16 + 64 * s)) (drop (16 + 64 * s) img))
    → b ≡ ownb v (rec_at img s)
own-part img v s b h = h ∙ ap (ownb v) (record-in img s)

-- all records, by a version that was read: v is that number
pub records_by : (img : List ℕ) (v n : ℕ) {x : Bool} → v ≡ version_of img → x ≡ all_below n (λ t. ownb v (rec_at img t)) → x ≡ recordsb img n
unfolding recordsb
records_by img v n e h = h ∙ ap (λ (w : ℕ). all_below n (λ t. ownb w (rec_at img t))) e

-- a version that was read: v is that number, r whether it is known
module _ (v w : ℕ) (e : v ≡ w) (q : Bool) {r : Bool} (k : r ≡ known_version v) {x : Bool} where
  pub known-not : not r ≡ true → x ≡ false → x ≡ (known_version w && q)
  known-not t h = refused-and (known_version w) q (k ∙ ap known_version e) t h

  pub known-and : not r ≡ false → x ≡ q → x ≡ (known_version w && q)
  known-and t h = called_and (known_version w) q (k ∙ ap known_version e) t h

-- a slot count that was read: n is that number
pub header-short : (img : List ℕ) → length img < 16 → false ≡ headerb img
unfolding headerb
header-short img h = rw (ne_eqb (length img) (16 + 64 * count_of img) (λ e. omega arith))

pub header_at : (img : List ℕ) (n : ℕ) (x : Bool) → n ≡ count_of img
    → x
    ≡ (eqb (length img) (16 + 64 * n)
    &&
    (leb 2 n
    &&
    (leb n 1023
    &&
    (eqb (get_or img 0 0) 0x55 && (eqb (get_or img 1 0) 0x46 &&
    (eqb (get_or img 2 0) 0x54 && (known_version (version_of img) && zerosb img 11 5)))))))
    → x ≡ headerb img
unfolding headerb
header_at img n x e h = rw (← e) h

-- 02 Ticket 7, sentence by sentence (specs/Ticket).
use mathlib.Core.Path.{◌≡◌, refl, sym, ◌∙◌, ap}
use mathlib.Core.Bool.{Bool, true, false, cond, ◌&&◌, and-false, false≢true}
use mathlib.Core.List.{List, [], ◌∷◌}
use mathlib.Core.Logic.{⊎_elim}
use Prim.Native.Nat.{ℕ, zero, suc, ◌+◌, ◌*◌, ◌-◌, ◌/◌, ◌<◌, ◌≤◌}
use native.Mathlib.Nat.{not-suc-le-zero, le-div_iff_mul-le, div-lt_iff_lt-mul}
use native.Mathlib.Omega.{arith}
use lib.Dec.{eqb, ltb}
use lib.ListN.{length, get_or, take, drop, length-append}
use lib.Seq.{take-append_seam, take-take, get_or-take, get_or-drop}
use borrow.Author.Tests.{eqb-true, eq-eqb, ne_eqb, lt-leb, le-leb, lt-ltb, le-ltb}
use Rattle.std.specs.Prelude.{Option, Some, None, unwrap_or}
use Rattle.std.specs.Option.{option_or}
use Rattle.laws.specs.Lists.{part}
use Rattle.laws.specs.Walks.{first_below}
use Rattle.laws.proofs.Firsts.{first_is}
use Rattle.laws.proofs.Says.{and-says, all-says}
use Rattle.laws.proofs.Walks.{split_lt, all_each}
use Rattle.numbers.specs.Numbers.{u16_at}
use Rattle.rules.specs.Descriptor.{structure_of, ef}
use Rattle.image.specs.Layout.{Within, base, rec_at, kind_of, descriptor_of, form_of, rule_of, record_length_of, size_of, field_at}
use Rattle.image.proofs.Places.{byte_in, field_in}
use Rattle.expanded.specs.Expanded.{expanded_formed}
use Rattle.access.specs.Access.{referred}
use Rattle.pool.specs.Records.{has_record}
use Rattle.sound.specs.Table.{View, view_at, up}
use Rattle.sound.specs.Kinship.{child_named}
use Rattle.referred.specs.declared.Place.TheVariants.{InPool}
use Rattle.referred.specs.Padding.{is_ff, is_padding, ends_at, unpadded_end, Padded}
use Rattle.referred.specs.Nearest.{first_found, nearest_of, file_up}
use Rattle.referred.specs.Deciding.{named_file_of, named_record_of, is_linear, record_start, row_at, in_pool, held_place}
use Rattle.referred.specs.Deciding.{referred_place, own_place, place_of, part_of, deciding_rule}
use Rattle.referred.specs.Ticket as ticket
use Rattle.referred.specs.Ticket.{NearestAt, Names}
use Rattle.referred.proofs.OneRule as padding
use Rattle.referred.proofs.Unpadded.{end_is, ends_padded, none-formed}
use Rattle.referred.proofs.Places.{take_short}
use Rattle.referred.proofs.Climbing.{none_before, found_at}

-- what the first answer says
record FoundAt (f : ℕ → Option ℕ) (n t : ℕ) : Type 0 where
  at : ℕ
  low : at < n
  here : f at ≡ Some t
  before : (k : ℕ) → k < at → f k ≡ None

none_found : (f : ℕ → Option ℕ) (n : ℕ) → first_found n f ≡ None → (k : ℕ) → k < n → f k ≡ None
unfolding first_found
none_found f zero e k l = absurd (not-suc-le-zero l)
none_found f (suc n) e k l =
    ⊎_elim (λ q. rw q (here (first_found n f) (f n) e)) (λ m. none_found f n (lower (first_found n f) (f n) e) k m) (split_lt l)
  where
    here : (a b : Option ℕ) → option_or a b ≡ None → b ≡ None
    here (Some i) b e' = cc
    here None b e' = e'

    lower : (a b : Option ℕ) → option_or a b ≡ None → a ≡ None
    lower (Some i) b e' = e'
    lower None b e' = refl

found-says : (f : ℕ → Option ℕ) (n t : ℕ) → first_found n f ≡ Some t → FoundAt f n t
unfolding first_found
found-says f zero t e = let z : ◌≡◌ {A = ℕ} 0 1 = cc in absurd (omega arith)
found-says f (suc n) t e = go (first_found n f) refl e (found-says f n t)
  where
    go : (a : Option ℕ) → first_found n f ≡ a → option_or a (f n) ≡ Some t → (first_found n f ≡ Some t → FoundAt f n t) → FoundAt f (suc n) t
    go (Some j) q r rec =
        let g = rec (q ∙ r) in
        record { at = g.at; low = omega (arith, g.low); here = g.here; before = g.before }
    go None q r rec = record { at = n; low = omega arith; here = r; before = none_found f n q }

-- the file is looked for in the directory, then in each directory above; the nearest counts
module _ (n : ℕ) (v : ℕ → View) (d x : ℕ) where
  nearest_is : (t : ℕ) → nearest_of n v d x ≡ Some t → NearestAt n v d x t
  unfolding nearest_of file_up
  nearest_is t e =
      let g = found-says (λ k. child_named n v (up v k d) x) (suc (v d).level) t e in
      record { steps = g.at; above = omega (arith, g.low); here = g.here; nearest = g.before }

  is_nearest : (t : ℕ) → NearestAt n v d x t → nearest_of n v d x ≡ Some t
  unfolding nearest_of file_up
  is_nearest t g =
      found_at (λ k. child_named n v (up v k d) x) (suc (v d).level) g.steps t (omega (arith, g.above))
      (none_before (λ k. child_named n v (up v k d) x) g.steps g.nearest) g.here

  none_near : nearest_of n v d x ≡ None → (k : ℕ) → k ≤ (v d).level → child_named n v (up v k d) x ≡ None
  unfolding nearest_of file_up
  none_near e k h = none_found (λ j. child_named n v (up v j d) x) (suc (v d).level) e k (omega (arith, h))

  near_none : ((k : ℕ) → k ≤ (v d).level → child_named n v (up v k d) x ≡ None) → nearest_of n v d x ≡ None
  unfolding nearest_of file_up
  near_none f = none_before (λ k. child_named n v (up v k d) x) (suc (v d).level) (λ k l. f k (omega (arith, l)))

pub nearest-counts : ticket.NearestCounts
nearest-counts n v d x = ((λ t. (nearest_is n v d x t, is_nearest n v d x t)), (none_near n v d x, near_none n v d x))

-- a compact or an expanded rule stands in the record itself
pub own-rule : ticket.OwnRule
unfolding place_of deciding_rule own_place rule_of part
own-rule n img pool s z =
    let off : eqb (form_of (rec_at img s)) referred ≡ false = ne_eqb (form_of (rec_at img s)) referred z in
    (rw off, λ w short. rw off (own w short))
  where
    own : Within img s → get_or (rec_at img s) 33 0 ≤ 30
        → take (base s + 34 + get_or (rec_at img s) 33 0 - (base s + 34)) (drop (base s + 34) img) ≡ field_at (rec_at img s) 33
    own w short = field_in img s 33 w (omega arith) short (get_or (rec_at img s) 33 0) (byte_in img s 33 (omega arith))

none-placed : (n : ℕ) (img pool : List ℕ) (s : ℕ) → form_of (rec_at img s) ≡ referred
    → nearest_of n (view_at img) (view_at img s).parent (named_file_of (rec_at img s)) ≡ None → place_of n img pool s ≡ None
unfolding place_of referred_place
none-placed n img pool s e f = rw (eq-eqb (form_of (rec_at img s)) referred e, f)

-- a record without a rule: nowhere does one end
no_end : (s : List ℕ) → ((r : List ℕ) → Padded s r → ⊥) → unpadded_end s ≡ 0
unfolding unpadded_end
no_end s f = go (first_below (suc (length s)) (ends_at s)) refl
  where
    go : (g : Option ℕ) → first_below (suc (length s)) (ends_at s) ≡ g → unwrap_or g 0 ≡ 0
    go None q = refl
    go (Some j) q = absurd (f (take j s) (ends_padded s j (first_is (suc (length s)) (ends_at s) j q).here))

empty : (r : List ℕ) → length r ≡ 0 → r ≡ []
empty [] e = refl
empty (x ∷ r) e = absurd (omega (arith, e))

-- the file that is named is in slot t
module _ (n : ℕ) (img pool : List ℕ) (s t : ℕ) (names : Names n img s t) where
  abbrev k : ℕ
  k = named_record_of (rec_at img s)

  pub taken : place_of n img pool s ≡ cond (eqb t s) None (held_place img pool t k)
  unfolding place_of referred_place
  taken = rw (
    eq-eqb (form_of (rec_at img s)) referred names.form,
    is_nearest n (view_at img) (view_at img s).parent (named_file_of (rec_at img s)) t names.found,
  )

  held : held_place img pool t k ≡ None → place_of n img pool s ≡ None
  held e = taken ∙ go (eqb t s)
    where
      go : (b : Bool) → cond b None (held_place img pool t k) ≡ None
      go true = refl
      go false = e

  number_off : has_record img t k ≡ false → held_place img pool t k ≡ None
  unfolding held_place
  number_off e = rw (e, and-false (is_linear (rec_at img t)))

  -- no other file than a linear fixed EF
  other_off : is_linear (rec_at img t) ≡ false → held_place img pool t k ≡ None
  unfolding held_place
  other_off e = rw e

  zeroth_off : k ≡ 0 → has_record img t k ≡ false
  unfolding has_record
  zeroth_off e = rw (le-ltb 0 k (omega (arith, e)))

  module _ (long : 0 < record_length_of (rec_at img t)) where
    past_off : size_of (rec_at img t) / record_length_of (rec_at img t) < k → has_record img t k ≡ false
    unfolding has_record
    past_off h =
        rw (lt-leb (k * record_length_of (rec_at img t)) (size_of (rec_at img t)) ((div-lt_iff_lt-mul long).0 h), and-false (ltb 0 k))

    there-on : 1 ≤ k → k ≤ size_of (rec_at img t) / record_length_of (rec_at img t) → has_record img t k ≡ true
    unfolding has_record
    there-on a b =
        rw (lt-ltb 0 k a, le-leb (k * record_length_of (rec_at img t)) (size_of (rec_at img t)) ((le-div_iff_mul-le long).0 b))

  -- no rule and padding
  malformed_off : ((r : List ℕ) → Padded (row_at img pool t k) r → ⊥) → held_place img pool t k ≡ None
  unfolding held_place
  malformed_off f = go (is_linear (rec_at img t) && has_record img t k)
    where
      end : unpadded_end (row_at img pool t k) ≡ 0
      end = no_end (row_at img pool t k) f

      go : (b : Bool) → cond b (in_pool (record_start img t k) (unpadded_end (row_at img pool t k))) None ≡ None
      go true = rw (eq-eqb (unpadded_end (row_at img pool t k)) 0 end)
      go false = refl

  -- a rule and padding
  module _ (r : List ℕ) (other : t ≡ s → ⊥) (linear : is_linear (rec_at img t) ≡ true) (has : has_record img t k ≡ true)
      (p : Padded (row_at img pool t k) r) where
    ends : unpadded_end (row_at img pool t k) ≡ length r
    ends = ap unpadded_end p.whole ∙ end_is r p.padding p.formed p.only

    some : length r ≡ 0 → ⊥
    some e = false≢true (sym none-formed ∙ ap expanded_formed (sym (empty r e)) ∙ p.formed)

    placed : place_of n img pool s ≡ Some (InPool (record_start img t k) (record_start img t k + length r))
    unfolding held_place
    placed = taken ∙ rw (ne_eqb t s other, linear, has, ends, ne_eqb (length r) 0 some)

    -- the part of the pool is the beginning of the record
    rules : deciding_rule n img pool s ≡ r
    unfolding deciding_rule row_at part
    rules =
        let e : record_start img t k + length r - record_start img t k ≡ length r = omega arith in
        ap (part_of img pool) placed ∙ ap (λ (j : ℕ). take j (drop (record_start img t k) pool)) e ∙ sym start
      where
        row : List ℕ
        row = take (record_length_of (rec_at img t)) (drop (record_start img t k) pool)

        short : length r ≤ record_length_of (rec_at img t)
        short = omega (arith, ap length p.whole, length-append r p.padding, (take_short (record_length_of (rec_at img t)) (drop (record_start img t k) pool)).0)

        start : r ≡ take (length r) (drop (record_start img t k) pool)
        start =
            sym (take-append_seam r p.padding) ∙ ap (take (length r)) (sym p.whole)
            ∙ take-take (length r) (record_length_of (rec_at img t)) (drop (record_start img t k) pool) short

pub denials : ticket.Denials
denials = record {
  missing = λ n img pool s e f. none-placed n img pool s e (near_none n (view_at img) (view_at img s).parent (named_file_of (rec_at img s)) f);
  itself = λ n img pool s h. taken n img pool s s h ∙ rw (eq-eqb s s refl);
  other = λ n img pool s t h e. held n img pool s t h (other_off n img pool s t h e);
  zeroth = λ n img pool s t h e. held n img pool s t h (number_off n img pool s t h (zeroth_off n img pool s t h e));
  past = λ n img pool s t h l e. held n img pool s t h (number_off n img pool s t h (past_off n img pool s t h l e));
  malformed = λ n img pool s t h f. held n img pool s t h (malformed_off n img pool s t h f);
}

pub denied-empty : ticket.DeniedEmpty
unfolding deciding_rule
denied-empty n img pool s e = ap (part_of img pool) e

pub decides : ticket.Decides
decides n img pool s t r names other linear long first last p =
    let has = there-on n img pool s t names long first last in
    (placed n img pool s t names r other linear has p, rules n img pool s t names r other linear has p)

pub reference_read : ticket.ReferenceRead
unfolding named_file_of named_record_of rule_of field_at part u16_at
reference_read r a b k e = (rw (byte 0 (omega (arith, long)), byte 1 (omega (arith, long)), e), rw (byte 2 (omega (arith, long)), e))
  where
    z : ℕ
    z = get_or r 33 0

    long : 3 ≤ z
    long = omega (arith, ap length e, (take_short z (drop 34 r)).0)

    byte : (i : ℕ) → i < 3 → get_or r (34 + i) 0 ≡ get_or (take z (drop 34 r)) i 0
    byte i h = sym (get_or-drop 34 r i 0) ∙ sym (get_or-take z (drop 34 r) i 0 (omega (arith, h, long)))

pub linear_fixed : ticket.LinearFixed
unfolding is_linear
linear_fixed r = (
  (λ e. let two = (and-says (eqb (kind_of r) ef) (eqb (structure_of (descriptor_of r)) 0b010)).0 e in
      (eqb-true (kind_of r) ef two.0, eqb-true (structure_of (descriptor_of r)) 0b010 two.1)),
  (λ h. rw (eq-eqb (kind_of r) ef h.0, eq-eqb (structure_of (descriptor_of r)) 0b010 h.1)),
)

pub padding-FF : ticket.PaddingFF
unfolding is_padding is_ff
padding-FF s = (
  (λ e i h. eqb-true (get_or s i 0) 0xFF (all_each (λ j. eqb (get_or s j 0) 0xFF) (length s) i h e)),
  (λ f. (all-says (length s) (λ j. eqb (get_or s j 0) 0xFF)).1 (λ i h. eq-eqb (get_or s i 0) 0xFF (f i h))),
)

pub one-rule : ticket.OneRule
one-rule s r q a b = padding.one-rule s r q a b

-- The maker's length, total and bytes; and that what it makes is sound: `sound-made`.
use mathlib.Core.Path.{◌≡◌, refl, sym, ◌∙◌, ap}
use mathlib.Core.Bool.{Bool, true, false, cond, false≢true}
use mathlib.Core.List.{List, [], ◌++◌, append_assoc}
use mathlib.Core.Logic.{◌↔◌}
use Prim.Native.Nat.{ℕ, ◌+◌, ◌*◌, ◌-◌, ◌<◌, ◌≤◌}
use native.Mathlib.Omega.{arith}
use lib.ListN.{length, replicate, length-append, length-replicate}
use Rattle.std.specs.Prelude.{Result, Ok, Err}
use Rattle.laws.specs.Lists.{splice}
use Rattle.laws.proofs.Says.{says, and-says, untrue}
use Rattle.laws.proofs.Settling.{settled, both_are}
use Rattle.laws.proofs.Splices.{splice-step, splice_all}
use Rattle.image.specs.Layout.{longest_rule, known_version, version_of, Sized, record_bytes, put_record, count_of}
use Rattle.image.proofs.Versions.{known_narrow}
use Rattle.image.proofs.Made.{length-made}
use Rattle.access.specs.Access.{fits_record}
use Rattle.access.proofs.Fits.{fits-short, fits-form}
use Rattle.sound.specs.Table.{View, view_at}
use Rattle.sound.specs.Sound.{Sound}
use Rattle.sound.specs.Effects.{root_head, fresh_header, fresh}
use Rattle.sound.proofs.Kept.{gone}
use Rattle.sound.proofs.Fresh.{fresh-version, count, view_root, view_rest, sound-fresh}
use Rattle.maker.specs.declared.Edition.{Edition}
use Rattle.maker.specs.declared.MakeError.{MakeError}
use Rattle.maker.specs.declared.MakeError.TheVariants.{BadLength, BadTotal, BadRule}
use Rattle.maker.specs.Making.{slots_in, fits_length, fits_buffer, fits_total, made_of, made_number, left_by}
use Rattle.maker.specs.Making.{MakerPromises, MadeOnce, SoundMade, MakerAnswers}

length-says : (long : ℕ) → (fits_length long ≡ true) ↔ ((2 ≤ slots_in long) × ((slots_in long ≤ 1023) × (long ≡ 16 + 64 * slots_in long)))
unfolding fits_length
length-says long = simp says ((λ h. h), (λ h. h))

pub total-says : (n total : ℕ) → (fits_total n total ≡ true) ↔ ((1 ≤ total) × (total ≤ 64 * (n - 1)))
unfolding fits_total
total-says n total = simp says ((λ h. h), (λ h. h))

-- a buffer and an edition: a length that fits, and a version
module _ (long : ℕ) (e : Edition) where
  buffer-says : (fits_buffer long e ≡ true) ↔ ((fits_length long ≡ true) × (known_version e.version ≡ true))
  unfolding fits_buffer
  buffer-says = and-says (fits_length long) (known_version e.version)

  -- n is the number of slots
  module _ {n : ℕ} (q : n ≡ slots_in long) where
    pub buffer_says : (fits_buffer long e ≡ true) ↔ ((2 ≤ n) × (n ≤ 1023) × (long ≡ 16 + 64 * n) × (known_version e.version ≡ true))
    buffer_says = (
      (λ t. let two = buffer-says.0 t in let h = (length-says long).0 two.0 in (rw q h.0, rw q h.1.0, rw q h.1.1, two.1)),
      (λ h. buffer-says.1 ((length-says long).1 (rw (← q) (h.0, (h.1, h.2))), h.3)),
    )

-- what the tests that passed tell: a rule that fits is as long as the version has room for, and a byte holds its form; the version is
-- one of few
module _ (v form : ℕ) (rule : List ℕ) where
  pub form-none : 255 < form → false ≡ fits_record v form rule
  form-none h = sym (untrue _ (λ t. omega (arith, fits-form v form rule t)))

  pub rule_fits : fits_record v form rule ≡ true → (length rule ≤ longest_rule v) × (form < 256)
  rule_fits f = (fits-short v form rule f, omega (arith, fits-form v form rule f))

-- .. of a buffer that fits n slots
module _ (img : List ℕ) (e : Edition) {n : ℕ} (t : fits_buffer (length img) e ≡ true) (q : n ≡ slots_in (length img)) where
  pub length_sized : Sized img n
  length_sized = let h = (buffer_says (length img) e q).0 t in record { long = h.2; least = h.0; most = h.1 }

  pub version_low : e.version < 65536
  version_low = known_narrow e.version ((buffer-says (length img) e).0 t).1

-- header, root and free records are the whole buffer
pub fresh-written : (img a b z : List ℕ) (v n total form : ℕ) (rule : List ℕ) → Sized img n → length rule ≤ longest_rule v
    → a ≡ splice img 0 (fresh_header v n) → b ≡ put_record a 0 (record_bytes v (root_head total form) [] rule)
    → z ≡ splice b 80 (replicate (64 * (n - 1)) 0) → z ≡ fresh v n total form rule
unfolding put_record fresh
fresh-written img a b z v n total form rule sized short e f g =
    let w = length-made v (root_head total form) [] rule (omega arith) short in
    let l16 = header-long in
    let l80 : length (fresh_header v n ++ record_bytes v (root_head total form) [] rule) ≡ 80 = rw (length-append (fresh_header v n), w, l16) in
    let one = splice-step img 0 (fresh_header v n) a 16 (record_bytes v (root_head total form) [] rule) b e (omega (arith, l16, sized.long))
    (omega (arith, l16)) f in
    let two = splice-step img 0 (fresh_header v n ++ record_bytes v (root_head total form) [] rule) b 80 (replicate (64 * (n - 1)) 0) z one
    (omega (arith, l80, sized.long, sized.least)) (omega (arith, l80)) g in
    two
    ∙ splice_all img (fresh_header v n ++ record_bytes v (root_head total form) [] rule ++ replicate (64 * (n - 1)) 0) (whole l80)
    ∙ append_assoc (fresh_header v n) (record_bytes v (root_head total form) [] rule) (replicate (64 * (n - 1)) 0)
  where
    header-long : length (fresh_header v n) ≡ 16
    header-long = unfold fresh_header in refl

    whole : length (fresh_header v n ++ record_bytes v (root_head total form) [] rule) ≡ 80
        → length (fresh_header v n ++ record_bytes v (root_head total form) [] rule ++ replicate (64 * (n - 1)) 0) ≡ length img
    whole h =
        rw (length-append (fresh_header v n ++ record_bytes v (root_head total form) [] rule), h, length-replicate {A = ℕ} (64 * (n - 1)) 0)
        (omega (arith, sized.long, sized.least))

module _ (img : List ℕ) (e : Edition) (total form : ℕ) (rule : List ℕ) where
  -- an answer that is the one given has 01's number
  promised : (r : Result Unit MakeError) (left : List ℕ) → r ≡ made_of img e total form rule → left ≡ left_by r img e total form rule
      → MakerPromises img e total form rule r left
  unfolding made_of
  promised r left p q = (
    p,
    q,
    ap made_number p
        ∙ go (fits_buffer (length img) e) (fits_total (slots_in (length img)) total) (fits_record e.version form rule),
  )
    where
      go : (a b c : Bool) → made_number (cond a (cond b (cond c (Ok tt) (Err BadRule)) (Err BadTotal)) (Err BadLength)) ≡ cond a (cond b (cond c 0 4) 3) 2
      go true true true = refl
      go true true false = refl
      go true false c = refl
      go false b c = refl

  -- the maker's ways out: n is the number of slots
  pub made-length : {r : Result Unit MakeError} → fits_buffer (length img) e ≡ false → r ≡ Err BadLength → MakerPromises img e total form rule r img
  unfolding made_of
  made-length t q = rw q (promised (Err BadLength) img (rw t) refl)

  module _ {n : ℕ} (t : fits_buffer (length img) e ≡ true) (f : n ≡ slots_in (length img)) where
    pub made-total : {r : Result Unit MakeError} → fits_total n total ≡ false → r ≡ Err BadTotal → MakerPromises img e total form rule r img
    unfolding made_of
    made-total u q = rw q (promised (Err BadTotal) img (rw (t, ← f, u)) refl)

    pub made-rule : {r : Result Unit MakeError} → fits_total n total ≡ true → fits_record e.version form rule ≡ false → r ≡ Err BadRule → MakerPromises img e total form rule r img
    unfolding made_of
    made-rule u w q = rw q (promised (Err BadRule) img (rw (t, ← f, u, w)) refl)

    pub made-done : fits_total n total ≡ true → fits_record e.version form rule ≡ true → {b : ℕ} → b ≡ form → {left : List ℕ}
        → left ≡ fresh e.version n total b rule → MakerPromises img e total form rule (Ok tt) left
    unfolding made_of
    made-done u w {b} k {left} q =
        promised (Ok tt) left (rw (t, ← f, u, w))
        (q ∙ ap (λ (m : ℕ). fresh e.version m total b rule) f ∙ ap (λ (m : ℕ). fresh e.version (slots_in (length img)) total m rule) k)

-- an image holds the root alone, with that total
pub record Alone (made : List ℕ) (total : ℕ) : Type 0 where
  pub root : (view_at made 0).size ≡ total
  pub rest : (t : ℕ) → t < count_of made → (t ≡ 0 → ⊥) → view_at made t ≡ gone

-- `Ok` comes only after the maker's three tests
module _ (img : List ℕ) (e : Edition) (total form : ℕ) (rule : List ℕ) where
  pub done_tested : (P : Type 0)
      → (fits_length (length img) ≡ true → fits_total (slots_in (length img)) total ≡ true → fits_record e.version form rule ≡ true → P)
      → made_of img e total form rule ≡ Ok tt → P
  unfolding made_of
  done_tested P made m =
      go (fits_buffer (length img) e) (fits_total (slots_in (length img)) total) (fits_record e.version form rule) refl refl refl m
    where
      go : (a b c : Bool) → fits_buffer (length img) e ≡ a → fits_total (slots_in (length img)) total ≡ b
          → fits_record e.version form rule ≡ c
          → ◌≡◌ {A = Result Unit MakeError} (cond a (cond b (cond c (Ok tt) (Err BadRule)) (Err BadTotal)) (Err BadLength)) (Ok tt) → P
      go true true true p q r f = made ((buffer-says (length img) e).0 p).0 q r
      go true true false p q r f = absurd (omega (arith, ap made_number f))
      go true false c p q r f = absurd (omega (arith, ap made_number f))
      go false b c p q r f = absurd (omega (arith, ap made_number f))

  -- what it makes is sound
  made-sound : made_of img e total form rule ≡ Ok tt → Sound (left_by (Ok tt) img e total form rule)
  made-sound = done_tested (Sound (left_by (Ok tt) img e total form rule)) (λ a b c.
      let h = (length-says (length img)).0 a in
      let t = (total-says (slots_in (length img)) total).0 b in
      sound-fresh e.version (slots_in (length img)) total form rule h.0 h.1.0 t.0 t.1 c)

  -- of that version
  pub version-made : made_of img e total form rule ≡ Ok tt → version_of (left_by (Ok tt) img e total form rule) ≡ e.version
  version-made = done_tested _ (λ a b c.
      let h = (length-says (length img)).0 a in
      let t = (total-says (slots_in (length img)) total).0 b in
      fresh-version e.version (slots_in (length img)) total form rule h.0 h.1.0 t.0 t.1 c)

  -- and holds the root alone
  pub alone-made : made_of img e total form rule ≡ Ok tt → Alone (left_by (Ok tt) img e total form rule) total
  alone-made = done_tested (Alone (left_by (Ok tt) img e total form rule) total) (λ a b c.
      let n = slots_in (length img) in
      let h = (length-says (length img)).0 a in
      let t = (total-says n total).0 b in
      let k = count e.version n total form rule h.0 h.1.0 t.0 t.1 c in
      record {
        root = ap (λ (x : View). x.size) (view_root e.version n total form rule h.0 h.1.0 t.0 t.1 c);
        rest = λ s l z. view_rest e.version n total form rule h.0 h.1.0 t.0 t.1 c s (rw k at l) z;
      })

pub sound-made : SoundMade
sound-made = made-sound

-- the maker's statement settles answer and buffer
pub made_once : MadeOnce
made_once img e total form rule =
    let made = made_of img e total form rule in
    settled (λ p. MakerPromises img e total form rule p.0 p.1) (made, left_by made img e total form rule)
    (λ p k. both_are _ _ p k.0 (k.1 ∙ ap (λ (m : Result Unit MakeError). left_by m img e total form rule) k.0))

-- the number of slots of a buffer that has some
sized_slots : (img : List ℕ) (n : ℕ) → Sized img n → (fits_length (length img) ≡ true) × (slots_in (length img) ≡ n)
sized_slots img n k =
    let e = slots_are in
    ((length-says (length img)).1 (rw e (k.least, (k.most, k.long))), e)
  where
    slots_are : slots_in (length img) ≡ n
    slots_are = unfold slots_in in omega (arith, k.long)

-- .. and of one that can be a card of an edition
sized-buffer : (img : List ℕ) (e : Edition) (n : ℕ) → Sized img n → known_version e.version ≡ true
    → (fits_buffer (length img) e ≡ true) × (slots_in (length img) ≡ n)
sized-buffer img e n k known = let s = sized_slots img n k in ((buffer-says (length img) e).1 (s.0, known), s.1)

pub maker_answers : MakerAnswers
unfolding made_of
maker_answers img e total form rule r left p = record {
  two = λ none. short (λ t. let h = (length-says (length img)).0 ((buffer-says (length img) e).0 t).0 in
      none (slots_in (length img)) (record { long = h.1.1; least = h.0; most = h.1.0 }));
  two-version = λ un. short (λ t. false≢true (sym un ∙ ((buffer-says (length img) e).0 t).1));
  three = λ n k known un.
      let a = sized-buffer img e n k known in
      let b : fits_total n total ≡ false = untrue _ (λ t. un ((total-says n total).0 t)) in
      let q : made_of img e total form rule ≡ Err BadTotal = rw (a.0, a.1, b) in
      (p.2 ∙ rw (a.0, a.1, b), leaves q);
  four = λ n k known yes c.
      let a = sized-buffer img e n k known in
      let b = (total-says n total).1 yes in
      let q : made_of img e total form rule ≡ Err BadRule = rw (a.0, a.1, b, c) in
      (p.2 ∙ rw (a.0, a.1, b, c), leaves q);
  none = λ n k known yes c.
      let a = sized-buffer img e n k known in
      let b = (total-says n total).1 yes in
      let q : made_of img e total form rule ≡ Ok tt = rw (a.0, a.1, b, c) in
      (p.2 ∙ rw (a.0, a.1, b, c), leaves q ∙ ap (λ (j : ℕ). fresh e.version j total form rule) a.1);
}
  where
    leaves : {m : Result Unit MakeError} → made_of img e total form rule ≡ m → left ≡ left_by m img e total form rule
    leaves q = p.1 ∙ ap (λ (k : Result Unit MakeError). left_by k img e total form rule) (p.0 ∙ q)

    short : (fits_buffer (length img) e ≡ true → ⊥) → (made_number r ≡ 2) × (left ≡ img)
    short un =
        let a : fits_buffer (length img) e ≡ false = untrue _ un in
        let q : made_of img e total form rule ≡ Err BadLength = rw a in
        (p.2 ∙ rw a, leaves q)

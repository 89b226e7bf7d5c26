-- READ and UPDATE: what their steps say where all hold, so that the bytes that they are about are bytes of the current EF's body.
use mathlib.Core.Path.{◌≡◌, refl, sym, ap, ◌∙◌}
use mathlib.Core.Bool.{true, false, not, ◌&&◌, ◌||◌, false≢true}
use mathlib.Core.List.{List}
use mathlib.Core.Logic.{⊎_elim}
use Prim.Native.Nat.{ℕ, zero, suc, ◌+◌, ◌*◌, ◌-◌, ◌<◌, ◌≤◌}
use native.Mathlib.Nat.{suc-mul}
use native.Mathlib.Omega.{arith}
use lib.Dec.{eqb, leb}
use lib.ListN.{length, length-drop}
use borrow.Author.Tests.{eq-eqb, eqb-true, leb-true, ltb-true}
use Rattle.std.specs.Prelude.{Err}
use Rattle.laws.proofs.Says.{and-says, or-says, not-says}
use Rattle.rules.specs.declared.Sets.{Sets}
use Rattle.rules.specs.Descriptor.{ef}
use Rattle.image.specs.Layout.{has_bodies, version_of, current_ef_of, none, rec_at, kind_of, size_of, record_length_of, start_of}
use Rattle.pool.specs.Bodies.{body_of, start_at, body_at}
use Rattle.sound.specs.Sound.{Sound}
use Rattle.verdict.specs.Applied.{sent_data}
use Rattle.judge_target.specs.Steps.{Plan, followed}
use Rattle.apdu.specs.Apdu.{instruction, lc, is_old, is_terminate, is_known, is_body, is_binary, is_record, is_read, is_update, has_data}
use Rattle.apdu.specs.Apdu.{fit_length, parameters, record_number, asked}
use Rattle.pool.specs.Records.{has_record}
use Rattle.judge_bodies.specs.Bodies.{touching, binary, recordwise}
use Rattle.judge.specs.Judge.{body_plan}
use Rattle.card.specs.Touching.{place_of}
use Rattle.card.proofs.Steps.{cond_by, followed_by, any_word}
use Rattle.card.proofs.Tells.{binary-place, record_place, Tells}

-- one of four
one_of_four : (P : ℕ → Type 0) → P 0xB0 → P 0xD6 → P 0xB2 → P 0xDC → (i : ℕ) → is_body i ≡ true → P i
unfolding is_body is_binary is_record
one_of_four P a b c d i h =
    ⊎_elim (λ x. ⊎_elim (λ e. rw (eqb-true i 0xB0 e) a) (λ e. rw (eqb-true i 0xD6 e) b) ((or-says _ _).0 x))
    (λ x. ⊎_elim (λ e. rw (eqb-true i 0xB2 e) c) (λ e. rw (eqb-true i 0xDC e) d) ((or-says _ _).0 x))
    ((or-says (eqb i 0xB0 || eqb i 0xD6) (eqb i 0xB2 || eqb i 0xDC)).0 h)

-- a card that has one of them has bodies
pub known-bodies : (v i : ℕ) → is_body i ≡ true → is_known v i ≡ true → has_bodies v ≡ true
unfolding is_known
known-bodies v i b k = go (rw (not_old, b) at k)
  where
    not_old : is_old i ≡ false
    not_old = one_of_four (λ j. is_old j ≡ false) (unfold is_old is_terminate in refl) (unfold is_old is_terminate in refl)
        (unfold is_old is_terminate in refl) (unfold is_old is_terminate in refl) i b

    go : (has_bodies v && true) ≡ true → has_bodies v ≡ true
    go h = ((and-says (has_bodies v) true).0 h).0

-- so many records, each as long as the first
times : (i len : ℕ) → 0 < i → (i - 1) * len + len ≡ i * len
times zero len h = absurd (omega arith)
times (suc j) len h =
    let e : suc j - 1 ≡ j = omega arith in
    ap (λ (x : ℕ). x * len + len) e ∙ sym (suc-mul j len)

-- an UPDATE has data, as many bytes as its Lc says
updates : (c : List ℕ) → fit_length c ≡ true → (i : ℕ) → is_body i ≡ true → instruction c ≡ i → is_read i ≡ false → has_data c ≡ true
unfolding is_read
updates c fit = one_of_four (λ j. instruction c ≡ j → (eqb j 0xB0 || eqb j 0xB2) ≡ false → has_data c ≡ true)
    (λ e r. absurd (false≢true (sym r)))
    (λ e r. (unfold fit_length is_update in rw e at fit))
    (λ e r. absurd (false≢true (sym r)))
    (λ e r. (unfold fit_length is_update in rw e at fit))

module _ (img pool c : List ℕ) (sound : Sound img) (has : has_bodies (version_of img) ≡ true) (fit : fit_length c ≡ true)
    (b : is_body (instruction c) ≡ true) where
  r : List ℕ
  r = rec_at img (current_ef_of img)

  -- the body of the current EF is as long as its size
  whole : (current_ef_of img ≡ none → ⊥) → body_at img (current_ef_of img) ≡ size_of (rec_at img (current_ef_of img))
  unfolding body_at body_of
  whole some = rw (has, eq-eqb (kind_of (rec_at img (current_ef_of img))) ef (sound.current.ef-file some))

  sized : (current_ef_of img ≡ none → ⊥) → 1 ≤ size_of (rec_at img (current_ef_of img))
  sized some =
      ((sound.records (current_ef_of img) (sound.current.ef-low some)).used (λ e. omega (arith, sound.current.ef-file some))).size

  data_long : is_read (instruction c) ≡ false → (5 ≤ length c) × (length (sent_data c) ≡ asked c)
  unfolding has_data asked
  data_long q =
      let p = (and-says (leb 6 (length c)) (eqb (length c) (5 + lc c))).0 (updates c fit (instruction c) b refl q) in
      let long : 6 ≤ length c = leb-true 6 (length c) p.0 in
      let is : length c ≡ 5 + lc c = eqb-true (length c) (5 + lc c) p.1 in
      (omega arith, rw q (omega (arith, length-drop 5 c)))

  touches : (current_ef_of img ≡ none → ⊥) → (k : ℕ) → k ≡ place_of c → k + asked c ≤ size_of (rec_at img (current_ef_of img))
      → Tells img c (touching img (current_ef_of img) (is_read (instruction c)) k (asked c))
  unfolding start_at
  touches some k e room = cond_by (Tells img c) (is_read (instruction c)) _ _
      (λ q. (
        record {
          some = some;
          here = unfold start_at in ap (λ (j : ℕ). start_of (rec_at img (current_ef_of img)) + j) e;
          within = omega (arith, e, whole some);
          body = omega (arith, whole some, sized some);
        },
        refl,
      ))
      (λ q. (
        (data_long q).0,
        record {
          some = some;
          here = unfold start_at in ap (λ (j : ℕ). start_of (rec_at img (current_ef_of img)) + j) e;
          within = omega (arith, e, whole some, (data_long q).1);
          body = omega (arith, whole some, sized some);
        },
      ))

  refused : (w : ℕ) → any_word w ≡ true → Tells img c (Err w)
  refused w k = tt

  pub body_tells : (x : Sets) → Tells img c (followed (body_plan img pool c x))
  unfolding body_plan binary recordwise has_record
  body_tells x = cond_by (λ (p : Plan). Tells img c (followed p)) (is_binary (instruction c)) _ _
      (λ q. followed_by (Tells img c) any_word refused _ refl (λ a.
      let p = simp and-says at a in
      touches (some p.0) (parameters c) (binary-place c q) (leb-true _ _ p.1.1.1.1.1.1.0)))
      (λ q. followed_by (Tells img c) any_word refused _ refl (λ a.
      let p = simp and-says at a in
      let len = record_length_of (rec_at img (current_ef_of img)) in
      let is : asked c ≡ len = eqb-true _ _ p.1.1.1.1.1.1.0 in
      let low : 0 < record_number c = ltb-true _ _ p.1.1.1.1.1.0.0 in
      let high : record_number c * len ≤ size_of (rec_at img (current_ef_of img)) = leb-true _ _ p.1.1.1.1.1.0.1 in
      touches (some p.0) ((record_number c - 1) * len) (record_place c len q is) (omega (arith, is, high, times (record_number c) len low))))
    where
      some : not (eqb (current_ef_of img) none) ≡ true → current_ef_of img ≡ none → ⊥
      some h e = (not-says _).0 h (eq-eqb _ _ e)

-- READ and UPDATE, command by command (specs/Obeyed, 02 Ticket 4): their steps are the asks of specs/Conditions, in their order and with
-- their words, and the effect is the stated one.
use mathlib.Core.Path.{◌≡◌, refl, ◌∙◌}
use mathlib.Core.Bool.{Bool, true, false, cond, not, ◌&&◌, ◌||◌, false≢true}
use mathlib.Core.List.{List}
use mathlib.Core.Logic.{◌↔◌, ◌⊎◌, inl, inr, ⊎_elim}
use Prim.Native.Nat.{ℕ, ◌+◌, ◌*◌, ◌/◌, ◌<◌, ◌≤◌}
use native.Mathlib.Omega.{arith}
use lib.Dec.{eqb, ltb}
use lib.ListN.{length, get_or}
use borrow.Author.Tests.{eqb-true, eq-eqb, ltb-true, lt-ltb}
use Rattle.laws.proofs.Says.{eq-says, le-says, and-says, or-says, not-says}
use Rattle.numbers.specs.Numbers.{u16_at}
use Rattle.rules.proofs.Lives.{same-says}
use Rattle.rules.specs.Descriptor.{type_of, structure_of, has_records, class_of, is_df, is_ef, df, ef, neither}
use Rattle.image.specs.Layout.{has_bodies, version_of, current_ef_of, none, rec_at, descriptor_of, record_length_of, size_of}
use Rattle.pool.specs.Bodies.{start_at}
use Rattle.sound.specs.Sound.{Sound}
use Rattle.verdict.specs.declared.State.{State}
use Rattle.apdu.specs.Apdu.{instruction, lc, is_terminate, is_old, is_known, wants_alone, is_body, is_binary, is_record, is_read, is_update}
use Rattle.apdu.specs.Apdu.{fit_parameters, good_parameters, has_data, is_five, fit_length, asked}
use Rattle.pool.specs.Records.{has_record}
use Rattle.judge_bodies.specs.Bodies.{binary, recordwise}
use Rattle.judge.specs.Judge.{body_plan, plan_for}
use Rattle.card.specs.Conditions.{start_in, second_in, le, read_binary_asks, update_binary_asks, read_record_asks, update_record_asks}
use Rattle.card.specs.Obeyed.{ReadBinaryObeys, UpdateBinaryObeys, ReadRecordObeys, UpdateRecordObeys}
use Rattle.card.proofs.Matching.{reads_none, reads-ask, reads_then, reads_skip}
use Rattle.card.proofs.Asked.{is_not-says, none-says, calm}
use Rattle.card.proofs.Obeying.{final, obeys, obeys_silent, opens}

lt-says : (a b : ℕ) → (ltb a b ≡ true) ↔ (a < b)
lt-says a b = (ltb-true a b, lt-ltb a b)

-- F: a start under 8000; P2 04
binary-parameters : (c : List ℕ) (i : ℕ) → instruction c ≡ i → eqb i 0xA4 ≡ false → is_binary i ≡ true
    → (fit_parameters c ≡ true) ↔ (start_in c < 0x8000)
unfolding fit_parameters good_parameters u16_at
binary-parameters c i e s b = rw (e, s, b) (lt-says _ _)

record_parameters : (c : List ℕ) (i : ℕ) → instruction c ≡ i → eqb i 0xA4 ≡ false → is_binary i ≡ false → is_record i ≡ true
    → (fit_parameters c ≡ true) ↔ (second_in c ≡ 0x04)
unfolding fit_parameters good_parameters u16_at
record_parameters c i e s b r = rw (e, s, b, r) (eq-says _ _)

-- G: 5 bytes; data
five_says : (c : List ℕ) (i : ℕ) → instruction c ≡ i → eqb i 0xE0 ≡ false → is_update i ≡ false → is_read i ≡ true
    → (fit_length c ≡ true) ↔ (length c ≡ 5)
unfolding fit_length is_five
five_says c i e s u r = rw (e, s, u, r) (eq-says _ _)

update-says : (c : List ℕ) (i : ℕ) → instruction c ≡ i → eqb i 0xE0 ≡ false → is_update i ≡ true
    → (fit_length c ≡ true) ↔ ((1 ≤ lc c) × (length c ≡ 5 + lc c))
unfolding fit_length has_data
update-says c i e s u = rw (e, s, u) (
  (λ h. let p = (and-says _ _).0 h in
      let a : 6 ≤ length c = (le-says _ _).0 p.0 in
      let b : length c ≡ 5 + lc c = (eq-says _ _).0 p.1 in
      (omega arith, b)),
  (λ h. let a : 6 ≤ length c = omega (arith, h.0, h.1) in (and-says _ _).1 ((le-says _ _).1 a, (eq-says _ _).1 h.1)),
)

-- the structures of EFs: 001, or one with records
structures : (d : ℕ) → class_of d ≡ ef → (structure_of d ≡ 1) ⊎ ((structure_of d ≡ 2) ⊎ (structure_of d ≡ 6))
unfolding class_of
structures d h = go (is_df d) (is_ef d) refl h
  where
    last : (a b c : Bool) → (a && (b && c)) ≡ true → c ≡ true
    last true true c k = k
    last true false c k = absurd (false≢true k)
    last false b c k = absurd (false≢true k)

    go : (a b : Bool) → is_ef d ≡ b → cond a df (cond b ef neither) ≡ ef → (structure_of d ≡ 1) ⊎ ((structure_of d ≡ 2) ⊎ (structure_of d ≡ 6))
    go true b q k = absurd (omega arith)
    go false false q k = absurd (omega arith)
    go false true q k =
        let p = last (eqb (d / 128) 0) (eqb (type_of d) 0 || eqb (type_of d) 1)
        (eqb (structure_of d) 1 || (eqb (structure_of d) 2 || eqb (structure_of d) 6)) q in
        ⊎_elim (λ e. inl (eqb-true (structure_of d) 1 e))
        (λ r. inr (⊎_elim (λ e. inl (eqb-true (structure_of d) 2 e)) (λ e. inr (eqb-true (structure_of d) 6 e))
        ((or-says (eqb (structure_of d) 2) (eqb (structure_of d) 6)).0 r)))
        ((or-says (eqb (structure_of d) 1) (eqb (structure_of d) 2 || eqb (structure_of d) 6)).0 p)

records_say : (d : ℕ) → (has_records d ≡ true) ↔ ((structure_of d ≡ 2) ⊎ (structure_of d ≡ 6))
unfolding has_records
records_say d = (
  (λ h. ⊎_elim (λ e. inl (eqb-true _ _ e)) (λ e. inr (eqb-true _ _ e)) ((or-says _ _).0 h)),
  (λ h. (or-says _ _).1 (⊎_elim (λ e. inl (eq-eqb _ _ e)) (λ e. inr (eq-eqb _ _ e)) h)),
)

transparent-says : (d : ℕ) → class_of d ≡ ef → (not (has_records d) ≡ true) ↔ (structure_of d ≡ 1)
transparent-says d h = (
  (λ k. ⊎_elim (λ e. e) (λ e. absurd ((not-says _).0 k ((records_say d).1 e))) (structures d h)),
  (λ e. (not-says _).1 (λ k. ⊎_elim (λ f. omega arith) (λ f. omega arith) ((records_say d).0 k))),
)

record_says : (img : List ℕ) (t i : ℕ)
    → (has_record img t i ≡ true) ↔ ((1 ≤ i) × (i * record_length_of (rec_at img t) ≤ size_of (rec_at img t)))
unfolding has_record
record_says img t i = (
  (λ h. let p = (and-says _ _).0 h in (ltb-true _ _ p.0, (le-says _ _).0 p.1)),
  (λ h. (and-says _ _).1 (lt-ltb _ _ h.0, (le-says _ _).1 h.1)),
)

module _ (img pool c : List ℕ) (st : State) (sound : Sound img) (third : version_of img ≡ 3) where
  -- C: a card of version 3 has these four
  pub knows : (i : ℕ) → is_old i ≡ false → is_body i ≡ true → is_known (version_of img) i ≡ true
  unfolding is_known has_bodies
  knows i o b = rw (third, o, b)

  -- the current EF, if there is one, is an EF
  class-ef : (current_ef_of img ≡ none → ⊥) → class_of (descriptor_of (rec_at img (current_ef_of img))) ≡ ef
  class-ef some =
      let file = sound.current.ef-file some in
      ((sound.records (current_ef_of img) (sound.current.ef-low some)).used (λ e. omega (arith, file))).class ∙ file

  read_is : (i : ℕ) → instruction c ≡ i → is_read i ≡ true → asked c ≡ le c
  unfolding asked
  read_is i e r = rw (e, r)

  update_is : (i : ℕ) → instruction c ≡ i → is_read i ≡ false → asked c ≡ lc c
  unfolding asked
  update_is i e r = rw (e, r)

pub read_binary_obeys : ReadBinaryObeys
unfolding plan_for body_plan binary is_old is_terminate is_body is_binary is_record is_read is_update wants_alone final asked u16_at start_at
read_binary_obeys img pool c st response sound fit third e =
    obeys img pool c st response sound fit (binary img pool (current_ef_of img) true (start_in c) (le c) st.sets) (rw e)
    (read_binary_asks img pool c st (length response)) _ _ _ _
    (opens img c st 0xB0 e (knows img pool c st sound third 0xB0 refl refl) _ _
    (reads_skip _ _ _ _ (calm c st 0xB0 e refl)
    (reads-ask _ _ _ _ _ _ (binary-parameters c 0xB0 e refl refl) refl
    (reads-ask _ _ _ _ _ _ (five_says c 0xB0 e refl refl refl) refl
    (reads_then _ _ _ _ _ _ (is_not-says _ _) refl (λ some.
    reads-ask _ _ _ _ _ _ ((λ h. h), (λ h. h)) refl
    (reads-ask _ _ _ _ _ _ (same-says _ _) refl
    (reads-ask _ _ _ _ _ _ (none-says img (current_ef_of img)) refl
    (reads-ask _ _ _ _ _ _ (transparent-says _ (class-ef img pool c st sound third some)) refl
    (reads-ask _ _ _ _ _ _ (lt-says _ _) refl
    (reads-ask _ _ _ _ _ _ (le-says _ _) refl
    (reads-ask _ _ _ _ _ _ (le-says _ _) refl
    reads_none))))))))))))
    (λ m. (refl, refl, refl, refl))

pub update-binary_obeys : UpdateBinaryObeys
unfolding plan_for body_plan binary is_old is_terminate is_body is_binary is_record is_read is_update wants_alone asked u16_at start_at
update-binary_obeys img pool c st response sound fit third e =
    obeys_silent img pool c st response sound fit (binary img pool (current_ef_of img) false (start_in c) (lc c) st.sets) (rw e)
    (update_binary_asks img pool c st) _ _ _ refl
    (opens img c st 0xD6 e (knows img pool c st sound third 0xD6 refl refl) _ _
    (reads_skip _ _ _ _ (calm c st 0xD6 e refl)
    (reads-ask _ _ _ _ _ _ (binary-parameters c 0xD6 e refl refl) refl
    (reads-ask _ _ _ _ _ _ (update-says c 0xD6 e refl refl) refl
    (reads_then _ _ _ _ _ _ (is_not-says _ _) refl (λ some.
    reads-ask _ _ _ _ _ _ ((λ h. h), (λ h. h)) refl
    (reads-ask _ _ _ _ _ _ (same-says _ _) refl
    (reads-ask _ _ _ _ _ _ (none-says img (current_ef_of img)) refl
    (reads-ask _ _ _ _ _ _ (transparent-says _ (class-ef img pool c st sound third some)) refl
    (reads-ask _ _ _ _ _ _ (lt-says _ _) refl
    (reads-ask _ _ _ _ _ _ (le-says _ _) refl
    reads_none)))))))))))
    (λ m. (refl, refl, refl))

pub read_record_obeys : ReadRecordObeys
unfolding plan_for body_plan recordwise is_old is_terminate is_body is_binary is_record is_read is_update wants_alone final asked start_at
read_record_obeys img pool c st response sound fit third e =
    obeys img pool c st response sound fit (recordwise img pool (current_ef_of img) true (get_or c 2 0) (le c) st.sets) (rw e)
    (read_record_asks img pool c st (length response)) _ _ _ _
    (opens img c st 0xB2 e (knows img pool c st sound third 0xB2 refl refl) _ _
    (reads_skip _ _ _ _ (calm c st 0xB2 e refl)
    (reads-ask _ _ _ _ _ _ (record_parameters c 0xB2 e refl refl refl) refl
    (reads-ask _ _ _ _ _ _ (five_says c 0xB2 e refl refl refl) refl
    (reads-ask _ _ _ _ _ _ (is_not-says _ _) refl
    (reads-ask _ _ _ _ _ _ ((λ h. h), (λ h. h)) refl
    (reads-ask _ _ _ _ _ _ (same-says _ _) refl
    (reads-ask _ _ _ _ _ _ (none-says img (current_ef_of img)) refl
    (reads-ask _ _ _ _ _ _ (records_say _) refl
    (reads-ask _ _ _ _ _ _ (record_says img (current_ef_of img) (get_or c 2 0)) refl
    (reads-ask _ _ _ _ _ _ (eq-says _ _) refl
    (reads-ask _ _ _ _ _ _ (le-says _ _) refl
    reads_none))))))))))))
    (λ m. (refl, refl, refl, refl))

pub update_record_obeys : UpdateRecordObeys
unfolding plan_for body_plan recordwise is_old is_terminate is_body is_binary is_record is_read is_update wants_alone asked start_at
update_record_obeys img pool c st response sound fit third e =
    obeys_silent img pool c st response sound fit (recordwise img pool (current_ef_of img) false (get_or c 2 0) (lc c) st.sets) (rw e)
    (update_record_asks img pool c st) _ _ _ refl
    (opens img c st 0xDC e (knows img pool c st sound third 0xDC refl refl) _ _
    (reads_skip _ _ _ _ (calm c st 0xDC e refl)
    (reads-ask _ _ _ _ _ _ (record_parameters c 0xDC e refl refl refl) refl
    (reads-ask _ _ _ _ _ _ (update-says c 0xDC e refl refl) refl
    (reads-ask _ _ _ _ _ _ (is_not-says _ _) refl
    (reads-ask _ _ _ _ _ _ ((λ h. h), (λ h. h)) refl
    (reads-ask _ _ _ _ _ _ (same-says _ _) refl
    (reads-ask _ _ _ _ _ _ (none-says img (current_ef_of img)) refl
    (reads-ask _ _ _ _ _ _ (records_say _) refl
    (reads-ask _ _ _ _ _ _ (record_says img (current_ef_of img) (get_or c 2 0)) refl
    (reads-ask _ _ _ _ _ _ (eq-says _ _) refl
    reads_none)))))))))))
    (λ m. (refl, refl, refl))

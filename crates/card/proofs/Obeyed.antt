-- Demand 2, command by command (specs/Obeyed): the steps that judging makes are the asks of specs/Conditions, in their order
-- and with their words, and the effect is the stated one.
use mathlib.Core.Path.{◌≡◌, refl, sym, ◌∙◌}
use mathlib.Core.Bool.{Bool, true, false, cond, ◌&&◌, ◌||◌, false≢true}
use mathlib.Core.List.{List, [], ◌∷◌}
use mathlib.Core.Logic.{◌↔◌, inl, inr, ⊎_elim}
use Prim.Native.Nat.{ℕ, ◌<◌, ◌≤◌}
use native.Mathlib.Omega.{arith}
use lib.Dec.{eqb, leb}
use lib.ListN.{length, get_or}
use borrow.Author.Tests.{ne_eqb}
use Rattle.std.specs.Prelude.{Ok}
use Rattle.laws.proofs.Says.{eq-says, le-says, or-says}
use Rattle.std.specs.Prelude.{Option, Some, None}
use Rattle.laws.specs.Lists.{part}
use Rattle.rules.specs.Descriptor.{df}
use Rattle.rules.specs.Life.{life_of}
use Rattle.rules.proofs.Lives.{same-says, activates_says}
use Rattle.image.specs.Layout.{has_bodies, version_of, count_of, current_df_of, current_ef_of, none, rec_at, set_current}
use Rattle.sound.specs.Table.{view_at}
use Rattle.sound.specs.Sound.{Sound}
use Rattle.sound.specs.Kinship.{free_slot}
use Rattle.sound.proofs.Created.{name-says, room_says}
use Rattle.create_data.specs.declared.Data.{Data}
use Rattle.std.specs.Prelude.{Option, Some, None}
use Rattle.create_data.specs.declared.Data.TheVariants.{Df, Ef}
use Rattle.create_data.specs.Data.{data_of}
use Rattle.verdict.specs.declared.Effect.TheVariants.{Select}
use Rattle.verdict.specs.Applied.{Verdict, sent_data, word_of, applied_of, pooled_of}
use Rattle.judge_target.specs.Target.{current_file, life_at, slot_in, selected, describes, creating as creating_it}
use Rattle.apdu.specs.Apdu.{class_byte, instruction, sent_identifier, is_terminate, is_old, is_known, wants_alone, wants_template}
use Rattle.apdu.specs.Apdu.{is_body, is_binary, is_record}
use Rattle.judge_create.specs.Creation.{create}
use Rattle.judge_commands.specs.Commands.{select_word, selecting as selecting_one, select, delete, activate, deactivate, terminate_the_ef}
use Rattle.judge_commands.specs.Commands.{terminate_the_df, terminate_the_card}
use Rattle.judge.specs.Judge.{life_plan, plan_for}
use Rattle.judge_target.proofs.FromSound.{judgeable, selected_stands}
use Rattle.fcp.specs.Template.{template_of}
use Rattle.effect.specs.Told.{chosen, told}
use Rattle.card.specs.Conditions.{unknown_asks, AsksTemplate}
use Rattle.card.specs.Conditions.{create_asks, delete_asks, activate_asks, deactivate_asks, terminate_ef_asks, terminate_df_asks}
use Rattle.card.specs.Conditions.{terminate_card_asks, select_asks, found}
use Rattle.card.specs.Obeyed.{word_for, selecting, telling, creating, filling, is_one_of, instructions_of, SelectObeys, CreateObeys}
use Rattle.card.specs.Obeyed.{DeleteObeys, ActivateObeys}
use Rattle.card.specs.Obeyed.{DeactivateObeys, TerminateEfObeys, TerminateDfObeys, TerminateCardObeys, OthersRefused, OlderHaveNone}
use Rattle.card.proofs.Matching.{reads_none, reads-ask, reads_skip, reads_stop}
use Rattle.card.proofs.Answered.{older_fit}
use Rattle.card.proofs.Asked.{bodiless, channel_says, none-says, takes-says, deletes-says, identifier-free}
use Rattle.card.proofs.Asked.{is_not-says, calm, alone-says, parameters_say, select-parameters, data_says, select-length}
use Rattle.card.proofs.Asked.{delete-length, file-says}
use Rattle.card.proofs.Obeying.{final, obeys, obeys_silent, opens, opens_anyway, opens-alone}

-- what SELECT finds has a slot, the root's where nothing was found
found-low : (img : List ℕ) → Sound img → (x : ℕ) → slot_in (selected img (count_of img) (current_df_of img) x) < count_of img
found-low img sound x = go (selected img (count_of img) (current_df_of img) x) refl
  where
    go : (f : Option ℕ) → selected img (count_of img) (current_df_of img) x ≡ f → slot_in f < count_of img
    go None e = omega (arith, sound.header.least)
    go (Some s) e = (selected_stands img (count_of img) (current_df_of img) x s (judgeable img sound) e).low

-- SELECT's effect, of the file in slot s: its word, the image, and what it tells
module _ (img pool c : List ℕ) (s : ℕ) (low : s ≡ none → ⊥) where
  abbrev Gives : Verdict → List ℕ → Type 0
  Gives v left =
      (word_of v ≡ word_for (life_of (life_at img s))) × (applied_of img c v ≡ left) × (pooled_of img pool c v ≡ pool)
      × (told img pool c v ≡ telling img c s)

  select_gives : Gives (selecting_one img (current_df_of img) s) (selecting img s)
  unfolding selecting_one select_word chosen wants_template
  select_gives = go (eqb (view_at img s).kind df)
    where
      go : (b : Bool)
          → Gives (cond b (Ok (Select s none (select_word (life_at img s)))) (Ok (Select (current_df_of img) s (select_word (life_at img s)))))
          (cond b (set_current img s none) (set_current img (current_df_of img) s))
      go true = (refl, refl, refl, refl)
      go false = (refl, refl, refl, rw (ne_eqb s none low))

-- the last ask of SELECT
fits-says : (c t : List ℕ) (lent : ℕ)
    → (leb (length (cond (eqb (get_or c 3 0) 0x04) t [])) lent ≡ true) ↔ (AsksTemplate c → length t ≤ lent)
fits-says c t lent = go (eqb (get_or c 3 0) 0x04) refl
  where
    go : (b : Bool) → eqb (get_or c 3 0) 0x04 ≡ b → (leb (length (cond b t [])) lent ≡ true) ↔ (AsksTemplate c → length t ≤ lent)
    go true q = ((λ h k. (le-says _ _).0 h), (λ h. (le-says _ _).1 (h ((eq-says _ _).0 q))))
    go false q = ((λ h k. absurd (false≢true (sym q ∙ (eq-says _ _).1 k))), (λ h. (le-says 0 lent).1 (omega arith)))

pub select_obeys : SelectObeys
unfolding plan_for is_known is_old is_body is_binary is_record wants_alone is_terminate final
select_obeys img pool c st response sound fit e =
    obeys img pool c st response sound fit (select img (count_of img) (current_df_of img) (sent_identifier c)) (rw e)
    (select_asks img c (length response)) _ _ _ _
    (opens img c st 0xA4 e refl _ _
    (reads_skip _ _ _ _ (calm c st 0xA4 e refl)
    (reads-ask _ _ _ _ _ _ (select-parameters c e) refl
    (reads-ask _ _ _ _ _ _ (select-length c e) refl
    (reads-ask _ _ _ _ _ _ ((λ h. h), (λ h. h)) refl
    (reads-ask _ _ _ _ _ _ (rw gives.3 (fits-says c (template_of (rec_at img (found img c))) (length response))) refl
    reads_none))))))
    (λ m. gives)
  where
    some : found img c ≡ none → ⊥
    some z = omega (arith, z, found-low img sound (sent_identifier c), sound.header.most)

    gives : Gives img pool c (found img c) some (selecting_one img (current_df_of img) (found img c)) (selecting img (found img c))
    gives = select_gives img pool c (found img c) some

pub create_obeys : CreateObeys
unfolding plan_for is_known is_old is_body is_binary is_record wants_alone is_terminate part
create_obeys img pool c st response sound fit e =
    obeys_silent img pool c st response sound fit (create img pool (count_of img) (current_df_of img) (sent_data c) st.sets) (rw e)
    (create_asks img pool c st) _ _ _
    (create_silent (data_of (version_of img) (sent_data c)))
    (opens img c st 0xE0 e refl _ _
    (reads-ask _ _ _ _ _ _ (alone-says c st 0xE0 e refl) refl
    (reads-ask _ _ _ _ _ _ (parameters_say c st 0xE0 e refl (bodiless 0xE0 refl)) refl
    (reads-ask _ _ _ _ _ _ (data_says c e) refl
    (reads-ask _ _ _ _ _ _ (file-says (version_of img) (sent_data c)) refl
    (reads-ask _ _ _ _ _ _ ((λ h. h), (λ h. h)) refl
    (reads-ask _ _ _ _ _ _ (takes-says img (current_df_of img)) refl
    (reads-ask _ _ _ _ _ _ (identifier-free img (current_df_of img) _) refl
    (reads-ask _ _ _ _ _ _ (name-says (count_of img) (view_at img) _) refl
    (reads-ask _ _ _ _ _ _ (room_says (count_of img) (view_at img) (current_df_of img) _) refl
    reads_none))))))))))
    (λ m. gives (data_of (version_of img) (sent_data c)) ((file-says (version_of img) (sent_data c)).1 m.1.1.1.1.1.1.1.0))
  where
    slot : ℕ
    slot = slot_in (free_slot (count_of img) (view_at img))

    create_silent : (new : Option Data) → told img pool c (creating_it img (current_df_of img) slot new) ≡ []
    create_silent None = refl
    create_silent (Some (Df x)) = refl
    create_silent (Some (Ef x)) = refl

    gives : (new : Option Data) → describes new ≡ true → (word_of (creating_it img (current_df_of img) slot new) ≡ 0x9000)
        × (applied_of img c (creating_it img (current_df_of img) slot new) ≡ creating img (sent_data c) slot new)
        × (pooled_of img pool c (creating_it img (current_df_of img) slot new) ≡ filling img pool new)
    gives None h = absurd (false≢true h)
    gives (Some (Df x)) h = (refl, refl, refl)
    gives (Some (Ef x)) h = (refl, refl, refl)

pub delete_obeys : DeleteObeys
unfolding plan_for is_known is_old is_body is_binary is_record wants_alone is_terminate
delete_obeys img pool c st response sound fit e =
    obeys_silent img pool c st response sound fit (delete img pool (count_of img) (current_df_of img) (sent_identifier c) st.sets) (rw e)
    (delete_asks img pool c st) _ _ _ refl
    (opens img c st 0xE4 e refl _ _
    (reads-ask _ _ _ _ _ _ (alone-says c st 0xE4 e refl) refl
    (reads-ask _ _ _ _ _ _ (parameters_say c st 0xE4 e refl (bodiless 0xE4 refl)) refl
    (reads-ask _ _ _ _ _ _ (delete-length c e) refl
    (reads-ask _ _ _ _ _ _ ((λ h. h), (λ h. h)) refl
    (reads-ask _ _ _ _ _ _ (deletes-says img pool (current_df_of img) _ st.sets) refl
    reads_none))))))
    (λ m. (refl, refl, refl))

pub activate_obeys : ActivateObeys
unfolding plan_for life_plan is_known is_old is_body is_binary is_record wants_alone is_terminate
activate_obeys img pool c st response sound fit e =
    obeys_silent img pool c st response sound fit (activate img pool (current_file img) st.sets) (rw e) (activate_asks img pool c st) _ _ _ refl
    (opens_anyway img c st 0x44 e refl refl refl refl refl refl _ _
    (reads-ask _ _ _ _ _ _ ((λ h. h), (λ h. h)) refl
    (reads-ask _ _ _ _ _ _ (none-says img (current_file img)) refl
    (reads-ask _ _ _ _ _ _ (activates_says (life_at img (current_file img))) refl
    reads_none))))
    (λ m. (refl, refl, refl))

pub deactivate_obeys : DeactivateObeys
unfolding plan_for life_plan is_known is_old is_body is_binary is_record wants_alone is_terminate
deactivate_obeys img pool c st response sound fit e =
    obeys_silent img pool c st response sound fit (deactivate img pool (current_file img) st.sets) (rw e) (deactivate_asks img pool c st) _ _ _ refl
    (opens_anyway img c st 0x04 e refl refl refl refl refl refl _ _
    (reads-ask _ _ _ _ _ _ ((λ h. h), (λ h. h)) refl
    (reads-ask _ _ _ _ _ _ (none-says img (current_file img)) refl
    (reads-ask _ _ _ _ _ _ (same-says _ _) refl
    reads_none))))
    (λ m. (refl, refl, refl))

pub terminate_ef_obeys : TerminateEfObeys
unfolding plan_for life_plan is_known is_old is_body is_binary is_record wants_alone is_terminate
terminate_ef_obeys img pool c st response sound fit e =
    obeys_silent img pool c st response sound fit (terminate_the_ef img pool (current_ef_of img) st.sets) (rw e) (terminate_ef_asks img pool c st) _ _ _ refl
    (opens-alone img c st 0xE8 e refl refl refl refl refl refl _ _
    (reads-ask _ _ _ _ _ _ (is_not-says _ _) refl
    (reads-ask _ _ _ _ _ _ ((λ h. h), (λ h. h)) refl
    (reads-ask _ _ _ _ _ _ (none-says img (current_ef_of img)) refl
    reads_none))))
    (λ m. (refl, refl, refl))

pub terminate_df_obeys : TerminateDfObeys
unfolding plan_for life_plan is_known is_old is_body is_binary is_record wants_alone is_terminate
terminate_df_obeys img pool c st response sound fit e =
    obeys_silent img pool c st response sound fit (terminate_the_df img pool (current_df_of img) st.sets) (rw e) (terminate_df_asks img pool c st) _ _ _ refl
    (opens-alone img c st 0xE6 e refl refl refl refl refl refl _ _
    (reads-ask _ _ _ _ _ _ ((λ h. h), (λ h. h)) refl
    (reads-ask _ _ _ _ _ _ (is_not-says _ _) refl
    (reads-ask _ _ _ _ _ _ (none-says img (current_df_of img)) refl
    reads_none))))
    (λ m. (refl, refl, refl))

pub terminate_card_obeys : TerminateCardObeys
unfolding plan_for life_plan is_known is_old is_body is_binary is_record wants_alone is_terminate
terminate_card_obeys img pool c st response sound fit e =
    obeys_silent img pool c st response sound fit (terminate_the_card img pool st.sets) (rw e) (terminate_card_asks img pool c st) _ _ _ refl
    (opens-alone img c st 0xFE e refl refl refl refl refl refl _ _
    (reads-ask _ _ _ _ _ _ ((λ h. h), (λ h. h)) refl
    reads_none))
    (λ m. (refl, refl, refl))

-- an instruction that a version doesn't have
or-none : (b : Bool) → (b || false) ≡ b
or-none true = refl
or-none false = refl

-- the same tests, one behind the other or in groups
regroup : (a b c d e f g h k w x y z : Bool)
    → (a || (b || (c || (d || (e || (f || (g || (h || (k && (w || (x || (y || z)))))))))))) ≡ false
    → ((a || (b || (c || (d || (e || (f || (g || h))))))) || (k && ((w || x) || (y || z)))) ≡ false
regroup true b c d e f g h k w x y z p = p
regroup false true c d e f g h k w x y z p = p
regroup false false true d e f g h k w x y z p = p
regroup false false false true e f g h k w x y z p = p
regroup false false false false true f g h k w x y z p = p
regroup false false false false false true g h k w x y z p = p
regroup false false false false false false true h k w x y z p = p
regroup false false false false false false false true k w x y z p = p
regroup false false false false false false false false false w x y z p = p
regroup false false false false false false false false true true x y z p = p
regroup false false false false false false false false true false x y z p = p

unknown : (v i : ℕ) → is_one_of i (instructions_of v) ≡ false → is_known v i ≡ false
unfolding is_known is_old is_terminate is_body is_binary is_record has_bodies
unknown v i h = go (eqb v 3) h
  where
    go : (b : Bool) → is_one_of i (0xA4 ∷ 0xE0 ∷ 0xE4 ∷ 0x44 ∷ 0x04 ∷ 0xE8 ∷ 0xE6 ∷ 0xFE ∷ cond b (0xB0 ∷ 0xD6 ∷ 0xB2 ∷ 0xDC ∷ []) []) ≡ false
        → ((eqb i 0xA4 || (eqb i 0xE0 || (eqb i 0xE4 || (eqb i 0x44 || (eqb i 0x04 || (eqb i 0xE8 || (eqb i 0xE6 || eqb i 0xFE)))))))
        || (b && ((eqb i 0xB0 || eqb i 0xD6) || (eqb i 0xB2 || eqb i 0xDC)))) ≡ false
    go b k = regroup (eqb i 0xA4) (eqb i 0xE0) (eqb i 0xE4) (eqb i 0x44) (eqb i 0x04) (eqb i 0xE8) (eqb i 0xE6) (eqb i 0xFE) b
        (eqb i 0xB0) (eqb i 0xD6) (eqb i 0xB2) (eqb i 0xDC) (same b k)
      where
        same : (b : Bool) → is_one_of i (0xA4 ∷ 0xE0 ∷ 0xE4 ∷ 0x44 ∷ 0x04 ∷ 0xE8 ∷ 0xE6 ∷ 0xFE ∷ cond b (0xB0 ∷ 0xD6 ∷ 0xB2 ∷ 0xDC ∷ []) []) ≡ false
            → (eqb i 0xA4 || (eqb i 0xE0 || (eqb i 0xE4 || (eqb i 0x44 || (eqb i 0x04 || (eqb i 0xE8 || (eqb i 0xE6 || (eqb i 0xFE
            || (b && (eqb i 0xB0 || (eqb i 0xD6 || (eqb i 0xB2 || eqb i 0xDC)))))))))))) ≡ false
        same true k = rw (or-none (eqb i 0xDC)) at k
        same false k = k

pub others_refused : OthersRefused
others_refused img pool c st response sound fit h =
    obeys img pool c st response sound fit (plan_for img pool (count_of img) (current_df_of img) c st) refl (unknown_asks c) 0x6D00 img pool []
    (reads-ask _ _ _ _ _ _ (le-says _ _) refl
    (reads-ask _ _ _ _ _ _ (channel_says (class_byte c)) refl
    (reads-ask _ _ _ _ _ _ (eq-says _ _) refl
    (reads_stop _ _ _ _ (unknown (version_of img) (instruction c) h) refl))))
    (λ m. absurd m.1.1.1.0)

pub older_have_none : OlderHaveNone
older_have_none img pool c st response sound older long class body =
    (others_refused img pool c st response sound (older_fit img pool older) (other (instruction c) body)).refused 0x6D00
    (inr (long, inr ((λ k. omega (arith, k.0, class)), inr (class, inl ((λ z. z), refl)))))
  where
    not_third : eqb (version_of img) 3 ≡ false
    not_third = ne_eqb (version_of img) 3 (λ e. ⊎_elim (λ v. omega arith) (λ v. omega arith) older)

    other : (i : ℕ) → is_one_of i (0xB0 ∷ 0xD6 ∷ 0xB2 ∷ 0xDC ∷ []) ≡ true → is_one_of i (instructions_of (version_of img)) ≡ false
    other i h = rw not_third (⊎_elim (λ e. rw ((eq-says i 0xB0).0 e))
        (λ g. ⊎_elim (λ e. rw ((eq-says i 0xD6).0 e))
        (λ g. ⊎_elim (λ e. rw ((eq-says i 0xB2).0 e))
        (λ g. ⊎_elim (λ e. rw ((eq-says i 0xDC).0 e)) (λ e. absurd (false≢true e))
        ((or-says (eqb i 0xDC) false).0 g))
        ((or-says (eqb i 0xB2) _).0 g))
        ((or-says (eqb i 0xD6) _).0 g))
        ((or-says (eqb i 0xB0) _).0 h))

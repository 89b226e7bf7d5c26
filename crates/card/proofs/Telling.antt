-- Every verdict of the judging tells what its effect needs: `judge-tells`, command by command.
use mathlib.Core.Path.{◌≡◌, refl, ap, ◌∙◌}
use mathlib.Core.Bool.{true, false≢true}
use mathlib.Core.List.{List, ◌∷◌}
use mathlib.Core.Logic.{◌⊎◌, inl, inr, ⊎_elim}
use Prim.Native.Nat.{ℕ, ◌-◌, ◌<◌, ◌≤◌}
use native.Mathlib.Omega.{arith}
use lib.Dec.{eqb}
use lib.ListN.{length, length-drop}
use borrow.Author.Tests.{eq-eqb, eqb-true, eqb-false}
use Rattle.std.specs.Prelude.{Option, Some, None, is_some, Ok, Err}
use Rattle.laws.specs.Lists.{part}
use Rattle.laws.proofs.Says.{and-says, not-says, same_or}
use Rattle.laws.proofs.Firsts.{first_is}
use Rattle.laws.proofs.Splices.{length_part}
use Rattle.rules.specs.declared.Sets.{Sets}
use Rattle.rules.specs.declared.Right.{Right}
use Rattle.rules.specs.declared.Right.TheVariants.{CreateDf, CreateEf}
use Rattle.laws.specs.Tests.{either}
use Rattle.rules.specs.Descriptor.{class_of, df, ef}
use Rattle.rules.proofs.Descriptors.{df-plain}
use Rattle.rules.proofs.Lives.{activated-known, deactivated-known, terminated-known, new_known}
use Rattle.rules.specs.Value.{good_length}
use Rattle.image.specs.Layout.{longest_rule, version_of, count_of, current_df_of, rec_at, descriptor_of}
use Rattle.access.proofs.Fits.{fits-short}
use Rattle.sound.specs.Table.{view_at, File}
use Rattle.sound.specs.Sound.{Sound}
use Rattle.sound.specs.Kinship.{is_child_named, child_named, free_slot, identifier_free, name_free, fits_room}
use Rattle.sound.specs.Effects.{GoodRecord, Deletes}
use Rattle.sound.proofs.Says.{child-says}
use Rattle.sound.proofs.Created.{class_low, room_says}
use Rattle.sound.proofs.FullTable.{slot_exists}
use Rattle.kinship.specs.Climb.{Stands}
use Rattle.kinship.specs.Search.{is_df_named, df_named}
use Rattle.create_data.specs.declared.Data.{Data}
use Rattle.std.specs.Prelude.{Option, Some, None}
use Rattle.create_data.specs.declared.Data.TheVariants.{Df, Ef}
use Rattle.create_data.specs.Data.{data_of}
use Rattle.template.specs.declared.Span.{Span}
use Rattle.template.specs.Objects.{bytes_at}
use Rattle.create_data.specs.declared.NewFile.{NewFile}
use Rattle.create_data.specs.Good.{GoodFile, Good}
use Rattle.create_data.proofs.Good.{good}
use Rattle.verdict.specs.declared.State.{State}
use Rattle.verdict.specs.declared.Effect.TheVariants.{Create}
use Rattle.verdict.specs.Applied.{sent_data}
use Rattle.effect.specs.Fit.{FieldSent}
use Rattle.judge_target.specs.Steps.{step, all_hold, Plan, followed}
use Rattle.apdu.specs.Apdu.{instruction, is_known, is_body, fit_length}
use Rattle.judge.specs.Shared.{shared_steps}
use Rattle.judge_target.specs.Target.{current_file, slot_in, describes, right_for, new_identifier, new_name, new_size, new_head}
use Rattle.judge_target.specs.Target.{new_record}
use Rattle.judge_target.specs.Target.{creating, selected}
use Rattle.judge_create.specs.Creation.{admission, create}
use Rattle.judge_commands.specs.Commands.{selecting, select, delete}
use Rattle.judge.specs.Judge.{life_plan, plan_for, judge_for, judge_of}
use Rattle.judge_target.proofs.FromSound.{judgeable, selected_by, selected_stands}
use Rattle.judge.proofs.Plans.{current_stands, create-long}
use Rattle.card.proofs.Steps.{cond_by, judged_by, followed_by, chosen_by, any_word}
use Rattle.card.proofs.Tells.{Tells}
use Rattle.card.proofs.Touching.{known-bodies, body_tells}

-- so a DF has record length 0
df-length : (k z : ℕ) → class_of k ≡ df → good_length k 0 z ≡ true
unfolding good_length either
df-length k z e = rw (df-plain k e)

-- a part of a slice is as long as it is said to be
part-long : (s : List ℕ) (a b : ℕ) → a ≤ b → b ≤ length s → length (part s a (b - a)) ≡ b - a
part-long s a b l h = length_part s a (b - a) (omega arith)

some_size : (z : ℕ) → (z ≡ 0 → ⊥) → 1 ≤ z
some_size z h = omega arith

-- a part of CREATE's data is a part of the command
field-sent : (most : ℕ) (c : List ℕ) (p : Span) → 5 ≤ length c → p.start ≤ p.end → p.end ≤ length (sent_data c)
    → p.end - p.start ≤ most → FieldSent most c p
field-sent most c p long l h k = record { order = l; inside = omega (arith, length-drop 5 c); short = k }

-- what was found
found_some : (f : Option ℕ) → (f ≡ None → ⊥) → f ≡ Some (slot_in f)
found_some (Some s) z = refl
found_some None z = absurd (z refl)

pub found_at : (f : Option ℕ) → is_some f ≡ true → f ≡ Some (slot_in f)
found_at (Some s) e = refl
found_at None e = absurd (false≢true e)

module _ (img pool c : List ℕ) (sound : Sound img) where
  refused : (w : ℕ) → any_word w ≡ true → Tells img c (Err w)
  refused w k = tt

  -- a directory has a directory above it
  parent_dir : (view_at img (view_at img (current_df_of img)).parent).kind ≡ df
  parent_dir = ⊎_elim
      (λ z. ap (λ (x : ℕ). (view_at img (view_at img x).parent).kind) z ∙ ap (λ (x : ℕ). (view_at img x).kind) sound.kin.root-parent
      ∙ sound.kin.root-kind)
      (λ z. (sound.kin.placed (current_df_of img) sound.current.df-low (used, z)).dir)
      (same_or (current_df_of img) 0)
    where
      used : (view_at img (current_df_of img)).kind ≡ 0 → ⊥
      used e = omega (arith, sound.current.df-dir)

  -- what SELECT finds is a directory, or a child of the current one
  Reachable : ℕ → Type 0
  Reachable s = ((view_at img s).kind ≡ df) ⊎ (File (view_at img) s × ((view_at img s).parent ≡ current_df_of img))

  reachable : (x s : ℕ) → selected img (count_of img) (current_df_of img) x ≡ Some s → Reachable s
  unfolding Reachable child_named df_named is_df_named
  reachable x s e =
      selected_by Reachable img (count_of img) (current_df_of img) x s (inl sound.kin.root-kind) (inl sound.current.df-dir)
      (inl parent_dir)
      (λ t f. inr
      ((child-says (view_at img) (current_df_of img) x t).0
      (first_is (count_of img) (is_child_named (view_at img) (current_df_of img) x) t f).here).0)
      (λ t f. inl
      (eqb-true _ _
      ((and-says _ _).0 (first_is (count_of img) (is_df_named (view_at img) (view_at img (current_df_of img)).parent x) t f).here).0))
      e

  -- a file that is no DF is an EF
  file-ef : (s : ℕ) → Stands img (count_of img) s → ((view_at img s).kind ≡ df → ⊥) → (view_at img s).kind ≡ ef
  file-ef s h z = omega (arith, h.used, z, ((sound.records s h.low).used h.used).class, class_low (descriptor_of (rec_at img s)))

  select_tells : (x : ℕ) → Tells img c (followed (select img (count_of img) (current_df_of img) x))
  unfolding selecting Reachable
  select_tells x = followed_by (Tells img c) any_word refused _ refl (λ a. found (found_at _ ((and-says _ _).0 a).0))
    where
      found : selected img (count_of img) (current_df_of img) x ≡ Some (slot_in (selected img (count_of img) (current_df_of img) x))
          → Tells img c (selecting img (current_df_of img) (slot_in (selected img (count_of img) (current_df_of img) x)))
      found e =
          let s : ℕ = slot_in (selected img (count_of img) (current_df_of img) x) in
          let h = selected_stands img (count_of img) (current_df_of img) x s (judgeable img sound) e in
          cond_by (Tells img c) (eqb (view_at img s).kind df) _ _
          (λ q. record {
            df-low = h.low;
            df-dir = eqb-true _ _ q;
            ef-low = λ z. absurd (z refl);
            ef-file = λ z. absurd (z refl);
            ef-child = λ z.
                absurd (z refl);
          })
          (λ q. record {
            df-low = sound.current.df-low;
            df-dir = sound.current.df-dir;
            ef-low = λ z. h.low;
            ef-file = λ z. file-ef s h (eqb-false _ _ q);
            ef-child = λ z. ⊎_elim (λ k. absurd (eqb-false _ _ q k)) (λ k. k.1) (reachable x s e);
          })

  delete_tells : (x : ℕ) (sets : Sets) → Tells img c (followed (delete img pool (count_of img) (current_df_of img) x sets))
  unfolding child_named
  delete_tells x sets = followed_by (Tells img c) any_word refused _ refl (λ a. found (found_at _ ((and-says _ _).0 a).0))
    where
      found : child_named (count_of img) (view_at img) (current_df_of img) x
          ≡ Some (slot_in (child_named (count_of img) (view_at img) (current_df_of img) x))
          → Deletes img (slot_in (child_named (count_of img) (view_at img) (current_df_of img) x))
      found e =
          let f = first_is (count_of img) (is_child_named (view_at img) (current_df_of img) x) _ e in
          let k = ((child-says (view_at img) (current_df_of img) x _).0 f.here).0 in
          record { low = f.low; file = k.0; child = k.1 }

  -- the steps of CREATE, all held: the slot is the lowest free one
  module _ (right : Right) (i : ℕ) (name : List ℕ) (z : ℕ) (sets : Sets)
      (a : all_hold (admission img pool (count_of img) (current_df_of img) right i name z sets) ≡ true) where
    admitted : (identifier_free (count_of img) (view_at img) (current_df_of img) i ≡ true)
        × ((name_free (count_of img) (view_at img) name ≡ true) × (fits_room (count_of img) (view_at img) (current_df_of img) z ≡ true))
    admitted =
        let p = simp and-says at a in
        (p.1.1.0, (p.1.1.1.0, p.1.1.1.1.0))

    slot : free_slot (count_of img) (view_at img) ≡ Some (slot_in (free_slot (count_of img) (view_at img)))
    slot = found_some _ (slot_exists img (current_df_of img) z sound sound.current.df-low sound.current.df-dir
        ((room_says (count_of img) (view_at img) (current_df_of img) z).0 admitted.1.1))

    slot-low : slot_in (free_slot (count_of img) (view_at img)) < count_of img
    unfolding free_slot
    slot-low = (first_is (count_of img) _ _ slot).low

  module _ (long : 5 ≤ length c) (sets : Sets) where
    -- the new record of a kind, by the right that it needs
    record_tells : (kind : ℕ) (right : Right) (x : NewFile) → GoodFile (version_of img) (sent_data c) x → x.name.end - x.name.start ≤ 16
        → GoodRecord (version_of img) (new_head img (current_df_of img) kind x) (bytes_at (sent_data c) x.name)
        (bytes_at (sent_data c) x.rule)
        → all_hold (admission img pool (count_of img) (current_df_of img) right x.identifier (bytes_at (sent_data c) x.name) x.size sets)
        ≡ true
        → Tells img c (Ok (Create (new_record img (current_df_of img) (slot_in (free_slot (count_of img) (view_at img))) kind x)))
    record_tells kind right x g short good h =
        let w = fits-short (version_of img) x.form _ g.rule in
        let r = part-long (sent_data c) x.rule.start x.rule.end g.rule-low g.rule-high in
        let k = admitted right x.identifier _ x.size sets h in (
          record {
            low = slot-low right x.identifier _ x.size sets h;
            name = field-sent 16 c x.name long g.name-low g.name-high short;
            rule = field-sent (longest_rule (version_of img)) c x.rule long g.rule-low g.rule-high (omega arith);
          },
          record {
            good = good;
            parent = refl;
            level = refl;
            identifier = k.0;
            name_is_free = k.1.0;
            room = k.1.1;
            slot = slot right x.identifier _ x.size sets h;
          },
        )

    -- how long the name is
    name-long : (x : NewFile) → GoodFile (version_of img) (sent_data c) x
        → length (bytes_at (sent_data c) x.name) ≡ x.name.end - x.name.start
    name-long x g = part-long (sent_data c) x.name.start x.name.end g.name-low g.name-high

    new_tells : (new : Option Data) → Good (version_of img) (sent_data c) new
        → all_hold
        (step (describes new) 0x6A80
        ∷ admission img pool (count_of img) (current_df_of img) (right_for new) (new_identifier new) (new_name (sent_data c) new) (new_size new)
        sets)
        ≡ true
        → Tells img c (creating img (current_df_of img) (slot_in (free_slot (count_of img) (view_at img))) new)
    new_tells None g h = tt
    new_tells (Some (Df x)) g h = record_tells df CreateDf x g.file g.name-short (record {
      class = g.class;
      some = λ e. omega arith;
      life = new_known x.life g.file.life;
      identifier = g.file.identifier;
      size = some_size x.size g.total;
      records = rw g.plain (df-length x.descriptor x.size g.class);
      name-short = omega (arith, name-long x g.file, g.name-short);
      nameless = λ e. absurd (omega arith);
      formed = g.file.rule;
    }) h
    new_tells (Some (Ef x)) g h = record_tells ef CreateEf x g.file (omega (arith, g.nameless)) (record {
      class = g.class;
      some = λ e. omega arith;
      life = new_known x.life g.file.life;
      identifier = g.file.identifier;
      size = some_size x.size g.size;
      records = g.records;
      name-short = omega (arith, name-long x g.file, g.nameless);
      nameless = λ e. omega (arith, name-long x g.file, g.nameless);
      formed = g.file.rule;
    }) h

    create_tells : Tells img c (followed (create img pool (count_of img) (current_df_of img) (sent_data c) sets))
    create_tells = followed_by (Tells img c) any_word refused _ refl
        (λ a. new_tells (data_of (version_of img) (sent_data c)) (good (version_of img) (sent_data c)) a)

  -- the life-cycle commands are about a file, and write a life cycle
  current-file : Stands img (count_of img) (current_file img)
  current-file = current_stands img (count_of img) (current_df_of img) (current_file img) (judgeable img sound) refl refl

  life_tells : (i : ℕ) (sets : Sets) → Tells img c (followed (life_plan img pool (current_df_of img) i sets))
  unfolding life_plan
  life_tells i sets =
      chosen_by (λ (p : Plan). Tells img c (followed p)) i _ _ _
      (λ e. followed_by (Tells img c) any_word refused _ refl (λ a. (current-file, activated-known)))
      (λ z. chosen_by (λ (p : Plan). Tells img c (followed p)) i _ _ _
      (λ e. followed_by (Tells img c) any_word refused _ refl (λ a. (current-file, deactivated-known)))
      (λ z. chosen_by (λ (p : Plan). Tells img c (followed p)) i _ _ _
      (λ e. followed_by (Tells img c) any_word refused _ refl
      (λ a. ((judgeable img sound).ef (λ e. (not-says _).0 ((and-says _ _).0 a).0 (eq-eqb _ _ e)), terminated-known)))
      (λ z. chosen_by (λ (p : Plan). Tells img c (followed p)) i _ _ _
      (λ e. followed_by (Tells img c) any_word refused _ refl (λ a. ((judgeable img sound).df, terminated-known)))
      (λ z. followed_by (Tells img c) any_word refused _ refl (λ a. ((judgeable img sound).root, terminated-known))))))

  plan_tells : fit_length c ≡ true → is_known (version_of img) (instruction c) ≡ true → (st : State)
      → Tells img c (followed (plan_for img pool (count_of img) (current_df_of img) c st))
  unfolding plan_for
  plan_tells fit known st =
      chosen_by (λ (p : Plan). Tells img c (followed p)) (instruction c) _ _ _ (λ e. select_tells _)
      (λ z. chosen_by (λ (p : Plan). Tells img c (followed p)) (instruction c) _ _ _
      (λ e. create_tells (create-long c fit refl e) st.sets)
      (λ z. chosen_by (λ (p : Plan). Tells img c (followed p)) (instruction c) _ _ _ (λ e. delete_tells _ st.sets)
      (λ z. cond_by (λ (p : Plan). Tells img c (followed p)) (is_body (instruction c)) _ _
      (λ b. body_tells img pool c sound (known-bodies (version_of img) (instruction c) b known) fit b st.sets)
      (λ z. life_tells (instruction c) st.sets))))

  pub judge_tells : (st : State) → Tells img c (judge_of img pool c st)
  unfolding judge_of judge_for
  judge_tells st = judged_by (Tells img c) any_word refused (shared_steps img c st) _ refl
      (λ a. plan_tells (fit a) (simp and-says at a).1.1.1.0 st)
    where
      fit : all_hold (shared_steps img c st) ≡ true → fit_length c ≡ true
      fit a = (simp and-says at a).1.1.1.1.1.1.1.0

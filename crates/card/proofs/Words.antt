-- Which words a verdict can have, and which verdicts warn.
use mathlib.Core.Path.{◌≡◌, refl}
use mathlib.Core.Bool.{Bool, true, not, ◌&&◌, false≢true}
use mathlib.Core.List.{List, [], ◌∷◌}
use mathlib.Core.Logic.{◌⊎◌, inl, inr, ⊎_elim}
use Prim.Native.Nat.{ℕ}
use lib.Dec.{eqb}
use borrow.Author.Tests.{eq-eqb}
use Rattle.std.specs.Prelude.{Err}
use Rattle.laws.proofs.Says.{and-says, not-says, or-says}
use Rattle.rules.specs.Descriptor.{df}
use Rattle.rules.specs.Life.{is_deactivated, is_terminated}
use Rattle.image.specs.Layout.{version_of, count_of, current_df_of}
use Rattle.sound.specs.Table.{view_at}
use Rattle.create_data.specs.declared.Data.{Data}
use Rattle.std.specs.Prelude.{Option, Some, None}
use Rattle.create_data.specs.declared.Data.TheVariants.{Df, Ef}
use Rattle.create_data.specs.Data.{data_of}
use Rattle.verdict.specs.declared.State.{State}
use Rattle.verdict.specs.Applied.{Verdict, word_of, sent_data}
use Rattle.judge_target.specs.Steps.{Plan, followed}
use Rattle.judge_target.specs.Target.{life_at, creating}
use Rattle.rules.specs.declared.Sets.{Sets}
use Rattle.apdu.specs.Apdu.{instruction, is_body, is_binary, is_read}
use Rattle.judge_bodies.specs.Bodies.{binary, recordwise}
use Rattle.judge_commands.specs.Commands.{select_word, selecting}
use Rattle.judge.specs.Shared.{shared_steps}
use Rattle.judge.specs.Judge.{life_plan, body_plan, plan_for, judge_for, judge_of}
use Rattle.card.specs.Obeyed.{is_one_of}
use Rattle.card.specs.Demands.{words_of_table}
use Rattle.card.proofs.Steps.{cond_by, chosen_by, touching_by, judged_by, followed_by}

abbrev ours : ℕ → Bool
ours w = is_one_of w words_of_table

-- those that warn; a word of a refusal is ours, and warns of nothing
abbrev pub warning : ℕ → Bool
warning w = is_one_of w (0x6283 ∷ 0x6285 ∷ [])

abbrev refuses : ℕ → Bool
refuses w = ours w && not (warning w)

-- a verdict whose word is ours, and which warns only if the command is SELECT
pub record Worded (c : List ℕ) (v : Verdict) : Type 0 where
  pub word : is_one_of (word_of v) words_of_table ≡ true
  pub warns : warning (word_of v) ≡ true → instruction c ≡ 0xA4

module _ (img pool c : List ℕ) (st : State) where
  refused : (w : ℕ) → refuses w ≡ true → Worded c (Err w)
  refused w k =
      let p = (and-says (ours w) (not (warning w))).0 k in
      record { word = p.0; warns = λ e. absurd ((not-says (warning w)).0 p.1 e) }

  plain : (v : Verdict) → word_of v ≡ 0x9000 → Worded c v
  plain v e = record { word = rw e; warns = λ q. absurd (false≢true (rw e at q)) }

  creating_worded : (d s : ℕ) (new : Option Data) → Worded c (creating img d s new)
  creating_worded d s None = refused 0x6A80 refl
  creating_worded d s (Some (Df x)) = plain _ refl
  creating_worded d s (Some (Ef x)) = plain _ refl

  select_word_lem : (life : ℕ) → ours (select_word life) ≡ true
  unfolding select_word
  select_word_lem life =
      cond_by (λ w. ours w ≡ true) (is_deactivated life) _ _ (λ q. refl)
      (λ q. cond_by (λ w. ours w ≡ true) (is_terminated life) _ _ (λ q. refl) (λ q. refl))

  selecting_worded : instruction c ≡ 0xA4 → (d s : ℕ) → Worded c (selecting img d s)
  unfolding selecting
  selecting_worded e d s = cond_by (Worded c) (eqb (view_at img s).kind df) _ _
      (λ q. record { word = select_word_lem (life_at img s); warns = λ h. e })
      (λ q. record { word = select_word_lem (life_at img s); warns = λ h. e })

  WordedThen : Plan → Type 0
  WordedThen p = Worded c (followed p)

  body_worded : (x : Sets) → Worded c (followed (body_plan img pool c x))
  unfolding body_plan binary recordwise WordedThen
  body_worded x =
      cond_by WordedThen (is_binary (instruction c)) _ _
      (λ q. followed_by (Worded c) refuses refused _ refl (λ a. touching_by (Worded c) (is_read (instruction c)) _ _ (plain _ refl) (plain _ refl)))
      (λ q. followed_by (Worded c) refuses refused _ refl (λ a. touching_by (Worded c) (is_read (instruction c)) _ _ (plain _ refl) (plain _ refl)))

  plan_worded : (n d : ℕ) → Worded c (followed (plan_for img pool n d c st))
  unfolding plan_for life_plan WordedThen
  plan_worded n d =
      chosen_by WordedThen (instruction c) _ _ _ (λ e. followed_by (Worded c) refuses refused _ refl (λ a. selecting_worded e d _))
      (λ z. chosen_by WordedThen (instruction c) _ _ _
      (λ e. followed_by (Worded c) refuses refused _ refl (λ a. creating_worded d _ (data_of (version_of img) (sent_data c))))
      (λ z. chosen_by WordedThen (instruction c) _ _ _ (λ e. followed_by (Worded c) refuses refused _ refl (λ a. plain _ refl))
      (λ z. cond_by WordedThen (is_body (instruction c)) _ _ (λ b. body_worded st.sets)
      (λ z. chosen_by WordedThen (instruction c) _ _ _ (λ e. followed_by (Worded c) refuses refused _ refl (λ a. plain _ refl))
      (λ z. chosen_by WordedThen (instruction c) _ _ _ (λ e. followed_by (Worded c) refuses refused _ refl (λ a. plain _ refl))
      (λ z. chosen_by WordedThen (instruction c) _ _ _ (λ e. followed_by (Worded c) refuses refused _ refl (λ a. plain _ refl))
      (λ z. chosen_by WordedThen (instruction c) _ _ _ (λ e. followed_by (Worded c) refuses refused _ refl (λ a. plain _ refl))
      (λ z. followed_by (Worded c) refuses refused _ refl (λ a. plain _ refl)))))))))

  judge_said : Worded c (judge_of img pool c st)
  unfolding judge_of judge_for
  judge_said = judged_by (Worded c) refuses refused (shared_steps img c st) _ refl (λ a. plan_worded (count_of img) (current_df_of img))

  pub judge_worded : is_one_of (word_of (judge_of img pool c st)) words_of_table ≡ true
  judge_worded = judge_said.word

  pub judge_warns : (word_of (judge_of img pool c st) ≡ 0x6283) ⊎ (word_of (judge_of img pool c st) ≡ 0x6285) → instruction c ≡ 0xA4
  judge_warns h = judge_said.warns ((or-says _ _).1 (⊎_elim (λ e. inl (eq-eqb _ _ e)) (λ e. inr ((or-says _ _).1 (inl (eq-eqb _ _ e)))) h))

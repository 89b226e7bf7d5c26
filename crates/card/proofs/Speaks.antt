-- The words of a verdict: a refusal never says 9000, 6283 or 6285, a selection says one of them; and where all
-- steps hold, the effect is no refusal.
use mathlib.Core.Path.{◌≡◌, refl}
use mathlib.Core.Bool.{Bool, true, not, ◌||◌, false≢true}
use mathlib.Core.List.{List}
use mathlib.Core.Logic.{inl, inr, ⊎_elim}
use Prim.Native.Nat.{ℕ}
use lib.Dec.{eqb}
use borrow.Author.Tests.{eq-eqb}
use Rattle.std.specs.Prelude.{Ok, Err}
use Rattle.laws.proofs.Says.{and-says, not-says, or-says}
use Rattle.rules.specs.Descriptor.{df}
use Rattle.rules.specs.Life.{is_deactivated, is_terminated}
use Rattle.image.specs.Layout.{version_of, count_of, current_df_of}
use Rattle.sound.specs.Table.{view_at}
use Rattle.create_data.specs.declared.Data.{Data}
use Rattle.std.specs.Prelude.{Option, Some, None}
use Rattle.create_data.specs.declared.Data.TheVariants.{Df, Ef}
use Rattle.create_data.specs.Data.{data_of}
use Rattle.verdict.specs.declared.State.{State}
use Rattle.verdict.specs.declared.Effect.TheVariants.{Select, Create, Delete, SetLife, Read, Update}
use Rattle.verdict.specs.Words.{done, file_deactivated, file_terminated}
use Rattle.verdict.specs.Applied.{Verdict, word_of, sent_data}
use Rattle.judge_target.specs.Steps.{all_hold, Plan}
use Rattle.rules.specs.declared.Sets.{Sets}
use Rattle.apdu.specs.Apdu.{instruction, is_body, is_binary, is_read}
use Rattle.judge_bodies.specs.Bodies.{binary, recordwise}
use Rattle.judge.specs.Shared.{shared_steps}
use Rattle.judge_target.specs.Target.{slot_in, describes, creating, selected}
use Rattle.judge_commands.specs.Commands.{select_word, selecting}
use Rattle.judge.specs.Judge.{life_plan, body_plan, plan_for, judge_for, judge_of}
use Rattle.card.specs.Demands.{Succeeds}
use Rattle.card.proofs.Steps.{cond_by, chosen_by, touching_by, all_words, judged_by, followed_by}

-- neither 9000 nor 6283 nor 6285
abbrev pub refusal : ℕ → Bool
refusal w = not (eqb w done || (eqb w file_deactivated || eqb w file_terminated))

pub no_success : (w : ℕ) → refusal w ≡ true → Succeeds w → ⊥
no_success w r s = (not-says _).0 r ((or-says _ _).1 (⊎_elim (λ e. inl (eq-eqb w done e))
    (λ t. inr ((or-says _ _).1 (⊎_elim (λ e. inl (eq-eqb w file_deactivated e)) (λ e. inr (eq-eqb w file_terminated e)) t))) s))

abbrev pub Spoken : Verdict → Type 0
Spoken (Err w) = Succeeds w → ⊥
Spoken (Ok (Select d e w)) = Succeeds w
Spoken (Ok (Create x)) = Unit {0}
Spoken (Ok (Delete s)) = Unit {0}
Spoken (Ok (SetLife s life)) = Unit {0}
Spoken (Ok (Read at n)) = Unit {0}
Spoken (Ok (Update at)) = Unit {0}

select_word_lem : (life : ℕ) → Succeeds (select_word life)
unfolding select_word
select_word_lem life =
    cond_by Succeeds (is_deactivated life) _ _ (λ q. inr (inl refl))
    (λ q. cond_by Succeeds (is_terminated life) _ _ (λ q. inr (inr refl)) (λ q. inl refl))

selecting_spoken : (img : List ℕ) (d s : ℕ) → Spoken (selecting img d s)
unfolding selecting
selecting_spoken img d s = cond_by Spoken (eqb (view_at img s).kind df) _ _ (λ q. select_word_lem _) (λ q. select_word_lem _)

creating_spoken : (img : List ℕ) (d s : ℕ) (new : Option Data) → describes new ≡ true → Spoken (creating img d s new)
creating_spoken img d s None h = absurd (false≢true h)
creating_spoken img d s (Some (Df x)) h = tt
creating_spoken img d s (Some (Ef x)) h = tt

-- a plan whose refusals are refusals, and whose effect speaks where all its steps hold
abbrev pub Speaks : Plan → Type 0
Speaks p = (all_words refusal p.steps ≡ true) × (all_hold p.steps ≡ true → Spoken p.effect)

body_speaks : (img pool c : List ℕ) (x : Sets) → Speaks (body_plan img pool c x)
unfolding body_plan binary recordwise
body_speaks img pool c x =
    cond_by Speaks (is_binary (instruction c)) _ _ (λ q. (refl, λ a. touching_by Spoken (is_read (instruction c)) _ _ tt tt))
    (λ q. (refl, λ a. touching_by Spoken (is_read (instruction c)) _ _ tt tt))

plan_speaks : (img pool : List ℕ) (n d : ℕ) (c : List ℕ) (st : State) → Speaks (plan_for img pool n d c st)
unfolding plan_for life_plan
plan_speaks img pool n d c st =
    chosen_by Speaks (instruction c) _ _ _ (λ e. (refl, λ a. selecting_spoken img d _))
    (λ z. chosen_by Speaks (instruction c) _ _ _ (λ e.
    (refl, λ a. creating_spoken img d _ (data_of (version_of img) (sent_data c)) ((and-says _ _).0 a).0))
    (λ z. chosen_by Speaks (instruction c) _ _ _ (λ e. (refl, λ a. tt))
    (λ z. cond_by Speaks (is_body (instruction c)) _ _ (λ b. body_speaks img pool c st.sets)
    (λ z. chosen_by Speaks (instruction c) _ _ _ (λ e. (refl, λ a. tt))
    (λ z. chosen_by Speaks (instruction c) _ _ _ (λ e. (refl, λ a. tt))
    (λ z. chosen_by Speaks (instruction c) _ _ _ (λ e. (refl, λ a. tt))
    (λ z. chosen_by Speaks (instruction c) _ _ _ (λ e. (refl, λ a. tt)) (λ z. (refl, λ a. tt)))))))))

refused : (w : ℕ) → refusal w ≡ true → Spoken (Err w)
refused w r = no_success w r

pub judge_speaks : (img pool c : List ℕ) (st : State) → Spoken (judge_of img pool c st)
unfolding judge_of judge_for
judge_speaks img pool c st =
    let p = plan_speaks img pool (count_of img) (current_df_of img) c st in
    judged_by Spoken refusal refused (shared_steps img c st) _ refl (λ a. followed_by Spoken refusal refused _ p.0 p.1)

-- an effect that acts: no refusal
abbrev pub Acts : Verdict → Type 0
Acts (Err w) = ⊥
Acts (Ok (Select d e w)) = Unit {0}
Acts (Ok (Create x)) = Unit {0}
Acts (Ok (Delete s)) = Unit {0}
Acts (Ok (SetLife s life)) = Unit {0}
Acts (Ok (Read at n)) = Unit {0}
Acts (Ok (Update at)) = Unit {0}

abbrev ActsThen : Plan → Type 0
ActsThen p = all_hold p.steps ≡ true → Acts p.effect

creating-acts : (img : List ℕ) (d s : ℕ) (new : Option Data) → describes new ≡ true → Acts (creating img d s new)
creating-acts img d s None h = absurd (false≢true h)
creating-acts img d s (Some (Df x)) h = tt
creating-acts img d s (Some (Ef x)) h = tt

body-acts : (img pool c : List ℕ) (x : Sets) → ActsThen (body_plan img pool c x)
unfolding body_plan binary recordwise
body-acts img pool c x =
    cond_by ActsThen (is_binary (instruction c)) _ _ (λ q a. touching_by Acts (is_read (instruction c)) _ _ tt tt)
    (λ q a. touching_by Acts (is_read (instruction c)) _ _ tt tt)

pub plan-acts : (img pool : List ℕ) (n d : ℕ) (c : List ℕ) (st : State) → all_hold (plan_for img pool n d c st).steps ≡ true
    → Acts (plan_for img pool n d c st).effect
unfolding plan_for life_plan selecting
plan-acts img pool n d c st =
    chosen_by ActsThen (instruction c) _ _ _
    (λ e a. cond_by Acts (eqb (view_at img (slot_in (selected img n d _))).kind df) _ _ (λ q. tt) (λ q. tt))
    (λ z. chosen_by ActsThen (instruction c) _ _ _
    (λ e a. creating-acts img d _ (data_of (version_of img) (sent_data c)) ((and-says _ _).0 a).0)
    (λ z. chosen_by ActsThen (instruction c) _ _ _ (λ e a. tt)
    (λ z. cond_by ActsThen (is_body (instruction c)) _ _ (λ b. body-acts img pool c st.sets)
    (λ z. chosen_by ActsThen (instruction c) _ _ _ (λ e a. tt)
    (λ z. chosen_by ActsThen (instruction c) _ _ _ (λ e a. tt)
    (λ z. chosen_by ActsThen (instruction c) _ _ _ (λ e a. tt)
    (λ z. chosen_by ActsThen (instruction c) _ _ _ (λ e a. tt) (λ z a. tt))))))))

-- what acts and speaks succeeds
pub succeeds : (v : Verdict) → Acts v → Spoken v → Succeeds (word_of v)
succeeds (Err w) a s = absurd a
succeeds (Ok (Select d e w)) a s = s
succeeds (Ok (Create x)) t s = inl refl
succeeds (Ok (Delete x)) a s = inl refl
succeeds (Ok (SetLife x life)) a s = inl refl
succeeds (Ok (Read at n)) a s = inl refl
succeeds (Ok (Update at)) a s = inl refl

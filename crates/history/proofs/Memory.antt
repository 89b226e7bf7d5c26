-- Memory is the last of CREATE's steps: where every other holds, the word is 9000 or 6A84, by the room that the records
-- leave (`memory-decides`).
use mathlib.Core.Path.{◌≡◌, refl, sym, ap, ◌∙◌}
use mathlib.Core.Bool.{Bool, true, false, not, cond, ◌&&◌, ◌||◌, false≢true}
use mathlib.Core.Logic.{◌⊎◌, inl, inr, ⊎_elim}
use mathlib.Core.List.{List, [], ◌∷◌, ◌++◌}
use Prim.Native.Nat.{ℕ}
use native.Mathlib.Omega.{arith}
use lib.Dec.{eqb}
use borrow.Author.Tests.{eq-eqb}
use Rattle.laws.proofs.Says.{and-says, not-says, or-says}
use Rattle.image.specs.Layout.{version_of, count_of, current_df_of}
use Rattle.sound.specs.Table.{view_at}
use Rattle.sound.specs.Sound.{Sound}
use Rattle.sound.specs.Kinship.{free_slot, identifier_free, name_free, fits_room}
use Rattle.create_data.specs.declared.Data.{Data}
use Rattle.std.specs.Prelude.{Option, Some, None}
use Rattle.create_data.specs.declared.Data.TheVariants.{Df, Ef}
use Rattle.create_data.specs.Data.{data_of}
use Rattle.verdict.specs.declared.State.{State}
use Rattle.verdict.specs.Words.{done, not_enough_memory, wrong_data, security_not_satisfied, conditions_not_satisfied, identifier_exists}
use Rattle.verdict.specs.Words.{name_exists}
use Rattle.verdict.specs.Applied.{word_of, sent_data}
use Rattle.judge_target.specs.Steps.{Step, step, all_hold, Plan}
use Rattle.judge_target.specs.Target.{allowed_at, slot_in, describes, right_for, new_identifier, new_name, new_size, creating}
use Rattle.judge_create.specs.Creation.{takes_files, create}
use Rattle.apdu.specs.Apdu.{instruction, create_file}
use Rattle.judge.specs.Shared.{shared_steps}
use Rattle.judge.specs.Judge.{plan_for, judge_of}
use Rattle.card.specs.Command.{pool_fits, PoolFits}
use Rattle.card.specs.Steps.{steps_of, effect_of, first_failing}
use Rattle.card.specs.Demands.{Call}
use Rattle.card.proofs.Steps.{all_words}
use Rattle.card.proofs.Due.{pool-says, due_wrong}
use Rattle.card.proofs.Answered.{word_is}
use Rattle.card.proofs.Silent.{due_silent}
use Rattle.card.proofs.Demands.{judged_in_order}
use Rattle.history.specs.Story.{word_for, but_last, Ready, ReadyExactly, size_sent}

-- a list of steps, and one more
but_last_lem : (ys : List Step) (m : Step) → but_last (ys ++ (m ∷ [])) ≡ ys
but_last_lem [] m = refl
but_last_lem (s ∷ []) m = refl
but_last_lem (s ∷ t ∷ ys) m = ap (λ (l : List Step). s ∷ l) (but_last_lem (t ∷ ys) m)

module _ (m : Step) where
  last-holds : (ys : List Step) → all_hold ys ≡ true → m.holds ≡ true → all_hold (ys ++ (m ∷ [])) ≡ true
  last-holds [] h e = (and-says m.holds true).1 (e, refl)
  last-holds (s ∷ ys) h e =
      let p = (and-says s.holds (all_hold ys)).0 h in
      (and-says s.holds (all_hold (ys ++ (m ∷ [])))).1 (p.0, last-holds ys p.1 e)

  last_fails : (ys : List Step) → all_hold ys ≡ true → m.holds ≡ false
      → (all_hold (ys ++ (m ∷ [])) ≡ false) × (first_failing (ys ++ (m ∷ [])) ≡ m.word)
  last_fails [] h e = rw e (refl, refl)
  last_fails (s ∷ ys) h e =
      let p = (and-says s.holds (all_hold ys)).0 h in
      rw p.0 (last_fails ys p.1 e)

  -- one that fails among the others gives its word, whatever the last says
  early_fails :
      (ys : List Step) → all_hold ys ≡ false → (all_hold (ys ++ (m ∷ [])) ≡ false) × (first_failing (ys ++ (m ∷ [])) ≡ first_failing ys)
  early_fails [] h = absurd (false≢true (sym h))
  early_fails (s ∷ ys) h = go s.holds h (λ q. early_fails ys q)
    where
      go : (b : Bool) → (b && all_hold ys) ≡ false
          → (all_hold ys ≡ false → (all_hold (ys ++ (m ∷ [])) ≡ false) × (first_failing (ys ++ (m ∷ [])) ≡ first_failing ys))
          → ((b && all_hold (ys ++ (m ∷ []))) ≡ false)
          × (cond b (first_failing (ys ++ (m ∷ []))) s.word ≡ cond b (first_failing ys) s.word)
      go true q rec = rec q
      go false q rec = (refl, refl)

-- a test that the words of all steps pass, the word of the first that fails passes
first_word : (ok : ℕ → Bool) (ys : List Step) → all_words ok ys ≡ true → all_hold ys ≡ false → ok (first_failing ys) ≡ true
first_word ok [] w h = absurd (false≢true (sym h))
first_word ok (s ∷ ys) w h =
    let p = (and-says (ok s.word) (all_words ok ys)).0 w in
    go s.holds h p.0 (λ q. first_word ok ys p.1 q)
  where
    go : (b : Bool) → (b && all_hold ys) ≡ false → ok s.word ≡ true → (all_hold ys ≡ false → ok (first_failing ys) ≡ true)
        → ok (cond b (first_failing ys) s.word) ≡ true
    go true q p rec = rec q
    go false q p rec = p

-- neither 9000 nor 6A84
another : ℕ → Bool
another w = not (eqb w done || eqb w not_enough_memory)

module _ (img pool c : List ℕ) (st : State) (e : instruction c ≡ create_file) where
  new : Option Data
  new = data_of (version_of img) (sent_data c)

  earlier : List Step
  earlier = shared_steps img c st ++ (
      step (describes new) wrong_data
      ∷ step (allowed_at img pool (current_df_of img) (right_for new) st.sets) security_not_satisfied
      ∷ step (takes_files img (current_df_of img)) conditions_not_satisfied
      ∷ step (identifier_free (count_of img) (view_at img) (current_df_of img) (new_identifier new)) identifier_exists
      ∷ step (name_free (count_of img) (view_at img) (new_name (sent_data c) new)) name_exists
      ∷ [])

  memory : Step
  memory = step (fits_room (count_of img) (view_at img) (current_df_of img) (new_size new)) not_enough_memory

  plan_is : plan_for img pool (count_of img) (current_df_of img) c st ≡ create img pool (count_of img) (current_df_of img) (sent_data c) st.sets
  unfolding plan_for
  plan_is = rw e

  steps_are : steps_of img pool c st ≡ earlier ++ (memory ∷ [])
  unfolding earlier memory new
  steps_are = ap (λ (p : Plan). shared_steps img c st ++ p.steps) plan_is

  effect_is : effect_of img pool c st ≡ creating img (current_df_of img) (slot_in (free_slot (count_of img) (view_at img))) new
  unfolding new
  effect_is = ap (λ (p : Plan). p.effect) plan_is

  is-file : all_hold earlier ≡ true → describes new ≡ true
  unfolding earlier
  is-file h = (simp and-says at h).1.1.1.1.1.1.1.1.0

  created-word : (d s : ℕ) (f : Option Data) → describes f ≡ true → word_of (creating img d s f) ≡ done
  created-word d s None h = absurd (false≢true h)
  created-word d s (Some (Df x)) h = refl
  created-word d s (Some (Ef x)) h = refl

  module _ (sound : Sound img) (h : all_hold (but_last (steps_of img pool c st)) ≡ true) where
    hold : all_hold earlier ≡ true
    hold = ap all_hold (sym (ap but_last steps_are ∙ but_last_lem earlier memory)) ∙ h

    decides : (b : Bool) → memory.holds ≡ b → word_of (judge_of img pool c st) ≡ cond b done not_enough_memory
    unfolding memory
    decides true q =
        ap word_of ((judged_in_order img pool c st).0 (ap all_hold steps_are ∙ last-holds memory earlier hold q) ∙ effect_is)
        ∙ created-word (current_df_of img) (slot_in (free_slot (count_of img) (view_at img))) new (is-file hold)
    decides false q =
        let f = last_fails memory earlier hold q in
        ap word_of ((judged_in_order img pool c st).1 (ap all_hold steps_are ∙ f.0)) ∙ ap first_failing steps_are ∙ f.1

  -- where one of the others fails, the word is neither 9000 nor 6A84
  early_word : all_hold earlier ≡ false → another (word_of (judge_of img pool c st)) ≡ true
  early_word h =
      let f = early_fails memory earlier h in
      let w = ap word_of ((judged_in_order img pool c st).1 (ap all_hold steps_are ∙ f.0)) ∙ ap first_failing steps_are ∙ f.1 in
      ap another w ∙ first_word another earlier (unfold earlier another in refl) h

-- CREATE tells nothing, so with the card's pool its word is that of the judging
create-word : (img : List ℕ) (x : Call) → Sound img → instruction x.command ≡ create_file → PoolFits img x.pool
    → word_for img x ≡ word_of (judge_of img x.pool x.command x.state)
create-word img x sound e k =
    word_is img x.pool x.command x.state x.lent sound
    ∙ ap word_of (due_silent img x.pool x.command x.state x.lent (λ q p. omega (arith, e, q)) (λ q. omega (arith, e, q))
    (λ q. omega (arith, e, q)) k)

-- with another it is answer 6, which has no word
pub wrong_word : (img : List ℕ) (x : Call) → Sound img → pool_fits img x.pool ≡ false → word_for img x ≡ 0x0000
wrong_word img x sound q =
    word_is img x.pool x.command x.state x.lent sound
    ∙ ap word_of (due_wrong img x.pool x.command x.state x.lent q)

pub memory_decides : (img : List ℕ) (x : Call) → Sound img → Ready img x
    → word_for img x ≡ cond (fits_room (count_of img) (view_at img) (current_df_of img) (size_sent (version_of img) x)) done not_enough_memory
unfolding memory new
memory_decides img x sound r =
    create-word img x sound r.create r.pool-fits ∙ decides img x.pool x.command x.state r.create sound r.earlier _ refl

-- a CREATE on a sound image is ready exactly when its word is 9000 or 6A84
pub ready_exactly : ReadyExactly
unfolding another
ready_exactly img x sound e =
    (λ r. or_of (fits_room (count_of img) (view_at img) (current_df_of img) (size_sent (version_of img) x)) (memory_decides img x sound r), back)
  where
    or_of : (b : Bool) → word_for img x ≡ cond b done not_enough_memory → (word_for img x ≡ done) ⊎ (word_for img x ≡ not_enough_memory)
    or_of true q = inl q
    or_of false q = inr q

    back : (word_for img x ≡ done) ⊎ (word_for img x ≡ not_enough_memory) → Ready img x
    back h =
        record {
          create = e;
          pool-fits = fit;
          earlier = ap all_hold
              (ap but_last (steps_are img x.pool x.command x.state e)
              ∙ but_last_lem (earlier img x.pool x.command x.state e) (memory img x.pool x.command x.state e))
              ∙ holds;
        }
      where
        fit : PoolFits img x.pool
        fit = (pool-says img x.pool).0 (go (pool_fits img x.pool) refl)
          where
            go : (b : Bool) → pool_fits img x.pool ≡ b → b ≡ true
            go true q = refl
            go false q =
                let z = wrong_word img x sound q in
                absurd (⊎_elim (λ w. omega (arith, w, z)) (λ w. omega (arith, w, z)) h)

        spoken : another (word_of (judge_of img x.pool x.command x.state)) ≡ true → ⊥
        spoken a = (not-says _).0 a ((or-says _ _).1 (⊎_elim
            (λ q. inl (eq-eqb _ _ (sym (create-word img x sound e fit) ∙ q)))
            (λ q. inr (eq-eqb _ _ (sym (create-word img x sound e fit) ∙ q))) h))

        holds : all_hold (earlier img x.pool x.command x.state e) ≡ true
        holds = go (all_hold (earlier img x.pool x.command x.state e)) refl
          where
            go : (b : Bool) → all_hold (earlier img x.pool x.command x.state e) ≡ b → b ≡ true
            go true q = refl
            go false q = absurd (spoken (early_word img x.pool x.command x.state e q))

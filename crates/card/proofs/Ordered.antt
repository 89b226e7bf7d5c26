-- What a verdict has from its command: SELECT alone selects; CREATE alone creates, in the free slot, with the life cycle that was sent;
-- DELETE alone erases, and the child that it names; every other effect writes the byte of its command, and never into a terminated
-- file.
use mathlib.Core.Path.{◌≡◌, refl, ap}
use mathlib.Core.Bool.{true, false}
use mathlib.Core.List.{List}
use Prim.Native.Nat.{ℕ, suc, ◌+◌, ◌*◌, ◌-◌}
use native.Mathlib.Omega.{arith}
use lib.Dec.{eqb}
use borrow.Author.Tests.{ne_eqb, eqb-true}
use Rattle.std.specs.Prelude.{Some, Ok, Err}
use Rattle.laws.proofs.Walks.{any_at}
use Rattle.laws.proofs.Says.{and-says, not-says}
use Rattle.rules.specs.Descriptor.{df}
use Rattle.rules.specs.declared.Sets.{Sets}
use Rattle.image.specs.Layout.{version_of, count_of, current_df_of, current_ef_of, rec_at, record_length_of, start_of}
use Rattle.pool.specs.Bodies.{start_at}
use Rattle.sound.specs.Table.{view_at, up, upward}
use Rattle.sound.specs.Kinship.{child_named, free_slot, at_or_beneath, terminated_at, terminated_up}
use Rattle.create_data.specs.declared.Data.{Data}
use Rattle.std.specs.Prelude.{Option, Some, None}
use Rattle.create_data.specs.declared.Data.TheVariants.{Df, Ef}
use Rattle.create_data.specs.Data.{data_of}
use Rattle.verdict.specs.declared.State.{State}
use Rattle.verdict.specs.declared.Effect.TheVariants.{Select, Create, Delete, SetLife, Read, Update}
use Rattle.verdict.specs.Applied.{Verdict, sent_data}
use Rattle.judge_target.specs.Steps.{Plan, followed}
use Rattle.judge_target.specs.Target.{creating, slot_in}
use Rattle.apdu.specs.Apdu.{instruction, sent_identifier, is_body, is_binary, is_read, parameters, record_number, asked}
use Rattle.judge_bodies.specs.Bodies.{touching, binary, recordwise}
use Rattle.judge_commands.specs.Commands.{selecting}
use Rattle.judge.specs.Shared.{shared_steps}
use Rattle.judge.specs.Judge.{life_plan, body_plan, plan_for, judge_for, judge_of}
use Rattle.card.specs.Lives.{written_by}
use Rattle.card.specs.Touching.{place_of}
use Rattle.card.proofs.Tells.{binary-place, record_place}
use Rattle.card.proofs.Steps.{cond_by, chosen_by, any_word, judged_by, followed_by}
use Rattle.card.proofs.Telling.{found_at}

-- the verdict erases the file in slot s
abbrev pub Erases : List ℕ → ℕ → Verdict → Type 0
Erases img s (Ok (Delete x)) = at_or_beneath (view_at img) x s ≡ true
Erases img s (Err w) = ⊥
Erases img s (Ok (Select d e w)) = ⊥
Erases img s (Ok (Create x)) = ⊥
Erases img s (Ok (SetLife x life)) = ⊥
Erases img s (Ok (Read at n)) = ⊥
Erases img s (Ok (Update at)) = ⊥

-- the life cycle that CREATE's data give
abbrev pub sent_life : Option Data → ℕ
sent_life None = 0
sent_life (Some (Df x)) = x.life
sent_life (Some (Ef x)) = x.life

abbrev pub Ordered : List ℕ → List ℕ → Verdict → Type 0
Ordered img c (Err w) = Unit {0}
Ordered img c (Ok (Select d e w)) = instruction c ≡ 0xA4
Ordered img c (Ok (Create x)) =
    (instruction c ≡ 0xE0) × (x.slot ≡ slot_in (free_slot (count_of img) (view_at img)))
    × (x.head.life ≡ sent_life (data_of (version_of img) (sent_data c)))
Ordered img c (Ok (Delete x)) = (instruction c ≡ 0xE4) × (child_named (count_of img) (view_at img) (current_df_of img) (sent_identifier c) ≡ Some x)
Ordered img c (Ok (SetLife x life)) =
    (instruction c ≡ 0xE0 → ⊥) × (life ≡ written_by (instruction c)) × (terminated_at img x ≡ true → ⊥) × (is_body (instruction c) ≡ false)
Ordered img c (Ok (Read at n)) =
    (is_body (instruction c) ≡ true) × (is_read (instruction c) ≡ true) × (at ≡ start_at img (current_ef_of img) + place_of c) × (n ≡ asked c)
Ordered img c (Ok (Update at)) =
    (is_body (instruction c) ≡ true) × (is_read (instruction c) ≡ false) × (at ≡ start_at img (current_ef_of img) + place_of c)

-- the file itself is the first on its way up
alive : (img : List ℕ) (t : ℕ) → (terminated_up img t ≡ true → ⊥) → terminated_at img t ≡ true → ⊥
unfolding terminated_up upward up
alive img t z e = z (any_at (λ k. terminated_at img (up (view_at img) k t)) (suc (view_at img t).level) 0 (omega arith) e)

module _ (img pool c : List ℕ) (st : State) where
  refused : (w : ℕ) → any_word w ≡ true → Ordered img c (Err w)
  refused w k = tt

  creating_ordered : instruction c ≡ 0xE0 → (new : Option Data) → data_of (version_of img) (sent_data c) ≡ new
      → Ordered img c (creating img (current_df_of img) (slot_in (free_slot (count_of img) (view_at img))) new)
  creating_ordered e None q = tt
  creating_ordered e (Some (Df x)) q = (e, refl, rw q)
  creating_ordered e (Some (Ef x)) q = (e, refl, rw q)

  selecting_ordered : instruction c ≡ 0xA4 → (d s : ℕ) → Ordered img c (selecting img d s)
  unfolding selecting
  selecting_ordered e d s = cond_by (Ordered img c) (eqb (view_at img s).kind df) _ _ (λ q. e) (λ q. e)

  -- the byte of a life-cycle command i that is neither ACTIVATE nor DEACTIVATE
  ends : (i : ℕ) → (i ≡ 0x44 → ⊥) → (i ≡ 0x04 → ⊥) → 0x0C ≡ written_by i
  ends i a d = rw (ne_eqb i 0x44 a, ne_eqb i 0x04 d)

  -- a command on a body: whether it reads is told by its instruction, where it begins by its parameters
  touching_ordered : is_body (instruction c) ≡ true → (k : ℕ) → k ≡ place_of c
      → Ordered img c (touching img (current_ef_of img) (is_read (instruction c)) k (asked c))
  unfolding start_at
  touching_ordered b k e = cond_by (Ordered img c) (is_read (instruction c)) _ _
      (λ q. (b, q, ap (λ (j : ℕ). start_of (rec_at img (current_ef_of img)) + j) e, refl))
      (λ q. (b, q, ap (λ (j : ℕ). start_of (rec_at img (current_ef_of img)) + j) e))

  body_ordered : is_body (instruction c) ≡ true → (x : Sets) → Ordered img c (followed (body_plan img pool c x))
  unfolding body_plan binary recordwise
  body_ordered b x =
      cond_by (λ (p : Plan). Ordered img c (followed p)) (is_binary (instruction c)) _ _
      (λ q. followed_by (Ordered img c) any_word refused _ refl (λ a. touching_ordered b (parameters c) (binary-place c q)))
      (λ q. followed_by (Ordered img c) any_word refused _ refl
      (λ a. touching_ordered b ((record_number c - 1) * record_length_of (rec_at img (current_ef_of img)))
      (record_place c (record_length_of (rec_at img (current_ef_of img))) q (eqb-true _ _ (simp and-says at a).1.1.1.1.1.1.0))))

  OrderedThen : Plan → Type 0
  OrderedThen p = Ordered img c (followed p)

  plan_ordered : (terminated_at img 0 ≡ true → ⊥) → Ordered img c (followed (plan_for img pool (count_of img) (current_df_of img) c st))
  unfolding plan_for life_plan OrderedThen
  plan_ordered root =
      chosen_by OrderedThen (instruction c) _ _ _ (λ e. followed_by (Ordered img c) any_word refused _ refl (λ a. selecting_ordered e _ _))
      (λ z. chosen_by OrderedThen (instruction c) _ _ _
      (λ e. followed_by (Ordered img c) any_word refused _ refl (λ a. creating_ordered e (data_of (version_of img) (sent_data c)) refl))
      (λ not-create. chosen_by OrderedThen (instruction c) _ _ _
      (λ e. followed_by (Ordered img c) any_word refused _ refl (λ a. (e, found_at _ ((and-says _ _).0 a).0)))
      (λ z. cond_by OrderedThen (is_body (instruction c)) _ _ (λ b. body_ordered b st.sets)
      (λ not-IsBody. chosen_by OrderedThen (instruction c) _ _ _
      (λ e. followed_by (Ordered img c) any_word refused _ refl
      (λ a. (not-create, rw e, alive img _ ((not-says _).0 (simp and-says at a).1.0), not-IsBody)))
      (λ not-activate. chosen_by OrderedThen (instruction c) _ _ _
      (λ e. followed_by (Ordered img c) any_word refused _ refl
      (λ a. (not-create, rw e, alive img _ ((not-says _).0 (simp and-says at a).1.0), not-IsBody)))
      (λ not-deactivate. chosen_by OrderedThen (instruction c) _ _ _
      (λ e. followed_by (Ordered img c) any_word refused _ refl
      (λ a. (not-create, ends (instruction c) not-activate not-deactivate, alive img _ ((not-says _).0 (simp and-says at a).1.1.0), not-IsBody)))
      (λ z. chosen_by OrderedThen (instruction c) _ _ _
      (λ e. followed_by (Ordered img c) any_word refused _ refl
      (λ a. (not-create, ends (instruction c) not-activate not-deactivate, alive img _ ((not-says _).0 (simp and-says at a).1.1.0), not-IsBody)))
      (λ z. followed_by (Ordered img c) any_word refused _ refl
      (λ a. (not-create, ends (instruction c) not-activate not-deactivate, root, not-IsBody))))))))))

  pub judge_ordered : Ordered img c (judge_of img pool c st)
  unfolding judge_of judge_for
  judge_ordered =
      judged_by (Ordered img c) any_word refused (shared_steps img c st) _ refl
      (λ a. plan_ordered ((not-says _).0 (simp and-says at a).1.1.1.1.0))

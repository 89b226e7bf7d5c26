-- The verdict on a command is gated by what step J decides, whatever the command; and what has passed where it denies.
use Rattle.std.specs.Prelude.{is_some}
use mathlib.Core.Path.{◌≡◌, refl, ap, ◌∙◌}
use mathlib.Core.Bool.{Bool, true, false, cond, not, ◌||◌}
use mathlib.Core.List.{List, ◌∷◌, ◌++◌}
use Prim.Native.Nat.{ℕ, ◌≤◌}
use lib.Dec.{eqb}
use lib.ListN.{length}
use borrow.Author.Tests.{leb-true}
use Rattle.laws.proofs.Says.{and-says}
use Rattle.rules.specs.declared.Right.{Right}
use Rattle.rules.specs.declared.Right.TheVariants.{DeleteSelf, Terminate, Activate, Deactivate, DeleteChild}
use Rattle.rules.specs.declared.Sets.{Sets}
use Rattle.rules.specs.Descriptor.{df}
use Rattle.image.specs.Layout.{version_of, count_of, current_df_of, current_ef_of, none}
use Rattle.access.specs.declared.Decision.{Decision}
use Rattle.access.specs.declared.Decision.TheVariants.{Granted}
use Rattle.access.specs.Decision.{is_granted}
use Rattle.access.proofs.Decided.{granted_stays, either-says}
use Rattle.sound.specs.Table.{view_at}
use Rattle.sound.specs.Kinship.{child_named}
use Rattle.create_data.specs.declared.Data.{Data}
use Rattle.std.specs.Prelude.{Option, Some, None}
use Rattle.create_data.specs.declared.Data.TheVariants.{Df, Ef}
use Rattle.create_data.specs.Data.{data_of}
use Rattle.verdict.specs.declared.State.{State}
use Rattle.verdict.specs.Applied.{Verdict, sent_data}
use Rattle.verdict.specs.Words.{security_not_satisfied, conditions_not_satisfied, not_allowed, not_found, wrong_class, wrong_data, wrong_instruction, wrong_length, wrong_parameters}
use Rattle.apdu.specs.Apdu.{instruction, sent_identifier, select_file, create_file, delete_file, activate_file, deactivate_file, terminate_ef}
use Rattle.apdu.specs.Apdu.{terminate_df, is_body, is_binary, is_read, crowded, other_channel, fit_length}
use Rattle.judge_target.specs.Steps.{Step, step, plan, followed}
use Rattle.judge_target.specs.Target.{allowed_at, decision_at, slot_in, right_for, describes, creating, current_file}
use Rattle.judge_create.specs.Creation.{create}
use Rattle.judge_commands.specs.Commands.{selecting, select, may_delete, delete}
use Rattle.judge_bodies.specs.Bodies.{right_to, touching, binary, recordwise}
use Rattle.judge.specs.Shared.{shared_steps}
use Rattle.judge.specs.Judge.{life_plan, body_plan, plan_for, judge_for, judge_of}
use Rattle.judge_security.specs.Security.{is_denied, ef_decision, deletion, life_decision, decision_for, step_j, holds_j, under}
use Rattle.judge_security.proofs.Gates.{Gated, quiet, gate_none, gate_step, gate_before, gate_there, gate_choice, gate_both}
use Rattle.judge_security.proofs.Gates.{passed}

-- "granted" is what steps ask
pub allowed_granted : (img pool : List ℕ) (s : ℕ) (right : Right) (x : Sets) → is_granted (decision_at img pool s right x) ≡ allowed_at img pool s right x
unfolding decision_at allowed_at
allowed_granted img pool s right x = granted_stays _ _ right x

-- effects are no refusals of step J
creates : (img : List ℕ) (d s : ℕ) (new : Option Data) → is_denied (creating img d s new) ≡ false
creates img d s None = refl
creates img d s (Some (Df x)) = refl
creates img d s (Some (Ef x)) = refl

either_way : (t : Bool) (v u : Verdict) → is_denied v ≡ false → is_denied u ≡ false → is_denied (cond t v u) ≡ false
either_way true v u e f = e
either_way false v u e f = f

selects : (img : List ℕ) (d s : ℕ) → is_denied (selecting img d s) ≡ false
unfolding selecting
selects img d s = either_way (eqb (view_at img s).kind df) _ _ refl refl

touches : (img : List ℕ) (t : ℕ) (reads : Bool) (k n : ℕ) → is_denied (touching img t reads k n) ≡ false
touches img t reads k n = either_way reads _ _ refl refl

module _ (img pool : List ℕ) (n d : ℕ) where
  select_gated : (i : ℕ) → Gated (λ x. select img n d i) (λ x. Granted)
  select_gated i = gate_none _ _ _ refl (selects img d _)

  create_gated : (s : List ℕ) → Gated (create img pool n d s) (decision_at img pool d (right_for (data_of (version_of img) s)))
  create_gated s =
      gate_before _ _ _
      (gate_step (allowed_at img pool d (right_for (data_of (version_of img) s))) _ _ _ (allowed_granted img pool d _) refl (creates img d _ (data_of (version_of img) s)))
      (λ x. describes (data_of (version_of img) s)) wrong_data (λ x y. refl) refl

  delete_gated : (i : ℕ) → Gated (delete img pool n d i) (deletion img pool n d i)
  unfolding deletion may_delete
  delete_gated i =
      gate_before _ _ _ (gate_step (may_delete img pool d (slot_in (child_named n (view_at img) d i))) _ _ _ same refl refl)
      (λ x. is_some (child_named n (view_at img) d i)) not_found (λ x y. refl) refl
    where
      own : Sets → Decision
      own = decision_at img pool (slot_in (child_named n (view_at img) d i)) DeleteSelf

      above : Sets → Decision
      above = decision_at img pool d DeleteChild

      same : (x : Sets) → is_granted (deletion img pool n d i x) ≡ may_delete img pool d (slot_in (child_named n (view_at img) d i)) x
      same x =
          (either-says (own x) (above x)).0 ∙ ap (λ (b : Bool). b || is_granted (above x)) (allowed_granted img pool (slot_in (child_named n (view_at img) d i)) DeleteSelf x)
          ∙ ap (λ (b : Bool). allowed_at img pool (slot_in (child_named n (view_at img) d i)) DeleteSelf x || b) (allowed_granted img pool d DeleteChild x)

  -- one rule, then steps on the life cycle
  rule_gated : (s : ℕ) (right : Right) (after : List Step) (e : Verdict) → quiet after ≡ true → is_denied e ≡ false
      → Gated (λ x. plan (step (allowed_at img pool s right x) security_not_satisfied ∷ after) e) (decision_at img pool s right)
  rule_gated s right after e = gate_step (allowed_at img pool s right) after e (decision_at img pool s right) (allowed_granted img pool s right)

  -- .. of the current EF, if there is one
  ef_gated : (right : Right) (after : List Step) (e : Verdict) → quiet after ≡ true → is_denied e ≡ false
      → Gated (λ x. plan (step (not (eqb (current_ef_of img) none)) not_allowed ∷ step (allowed_at img pool (current_ef_of img) right x) security_not_satisfied ∷ after) e)
      (ef_decision img pool right)
  unfolding ef_decision
  ef_gated right after e k h = gate_there _ _ _ (rule_gated (current_ef_of img) right after e k h) (eqb (current_ef_of img) none) not_allowed refl

  life_gated : (i : ℕ) → Gated (life_plan img pool d i) (life_decision img pool d i)
  unfolding life_plan life_decision
  life_gated i =
      gate_choice (eqb i activate_file) _ _ _ _ (rule_gated (current_file img) Activate _ _ refl refl)
      (gate_choice (eqb i deactivate_file) _ _ _ _ (rule_gated (current_file img) Deactivate _ _ refl refl)
      (gate_choice (eqb i terminate_ef) _ _ _ _ (ef_gated Terminate _ _ refl refl)
      (gate_choice (eqb i terminate_df) _ _ _ _ (rule_gated d Terminate _ _ refl refl) (rule_gated 0 Terminate _ _ refl refl))))

  body_gated : (c : List ℕ) → Gated (body_plan img pool c) (ef_decision img pool (right_to (is_read (instruction c))))
  unfolding body_plan binary recordwise
  body_gated c =
      gate_both (is_binary (instruction c)) _ _ _
      (ef_gated (right_to (is_read (instruction c))) _ _ refl (touches img (current_ef_of img) (is_read (instruction c)) _ _))
      (ef_gated (right_to (is_read (instruction c))) _ _ refl (touches img (current_ef_of img) (is_read (instruction c)) _ _))

module _ (img pool c : List ℕ) (st : State) where
  plan_gated : (n d : ℕ) → Gated (λ x. plan_for img pool n d c (under st x)) (decision_for img pool n d c)
  unfolding plan_for decision_for
  plan_gated n d =
      gate_choice (eqb (instruction c) select_file) _ _ _ _ (select_gated img pool n d (sent_identifier c))
      (gate_choice (eqb (instruction c) create_file) _ _ _ _ (create_gated img pool n d (sent_data c))
      (gate_choice (eqb (instruction c) delete_file) _ _ _ _ (delete_gated img pool n d (sent_identifier c))
      (gate_choice (is_body (instruction c)) _ _ _ _ (body_gated img pool n d c) (life_gated img pool n d (instruction c)))))

  -- the shared steps before it
  all_gated : Gated (λ x. plan (shared_steps img c (under st x) ++ (plan_for img pool (count_of img) (current_df_of img) c (under st x)).steps)
      (plan_for img pool (count_of img) (current_df_of img) c (under st x)).effect) (step_j img pool c)
  unfolding step_j crowded other_channel
  all_gated =
      gate_before _ _ _
      (gate_before _ _ _
      (gate_before _ _ _
      (gate_before _ _ _
      (gate_before _ _ _
      (gate_before _ _ _
      (gate_before _ _ _
      (gate_before (λ x. (plan_for img pool (count_of img) (current_df_of img) c (under st x)).steps)
      (λ x. (plan_for img pool (count_of img) (current_df_of img) c (under st x)).effect) _ (plan_gated (count_of img) (current_df_of img))
      _ wrong_length (λ x y. refl) refl)
      _ wrong_parameters (λ x y. refl) refl)
      _ conditions_not_satisfied (λ x y. refl) refl)
      _ conditions_not_satisfied (λ x y. refl) refl)
      _ wrong_instruction (λ x y. refl) refl)
      _ wrong_class (λ x y. refl) refl)
      _ conditions_not_satisfied (λ x y. refl) refl)
      _ wrong_length (λ x y. refl) refl

  pub judge_gated : (x y : Sets) → is_denied (judge_of img pool c (under st x)) ≡ true → is_denied (judge_of img pool c (under st y)) ≡ not (is_granted (step_j img pool c y))
  unfolding judge_of judge_for followed
  judge_gated x y d = all_gated.again x y d

  pub judge_tells : (x y : Sets) → is_denied (judge_of img pool c (under st x)) ≡ true
      → holds_j (shared_steps img c (under st y) ++ (plan_for img pool (count_of img) (current_df_of img) c (under st y)).steps) ≡ is_granted (step_j img pool c y)
  unfolding judge_of judge_for followed
  judge_tells x y d = all_gated.tells x y d

  -- a command that is denied is long enough, and as long as it should be
  pub denied-fits : is_denied (judge_of img pool c st) ≡ true → (4 ≤ length c) × (fit_length c ≡ true)
  unfolding judge_of judge_for
  denied-fits e =
      let a = simp and-says at (passed (shared_steps img c st) _ refl e) in
      (leb-true 4 (length c) a.0, a.1.1.1.1.1.1.1.0)

-- What step J decides is what was meant of it, over all states: where it is lacking some state grants, where it is closed none does.
use mathlib.Core.Path.{◌≡◌, ap, ◌∙◌}
use mathlib.Core.Bool.{Bool, true, false, cond, ◌||◌}
use mathlib.Core.List.{List}
use mathlib.Core.Logic.{◌⊎◌, inl, inr, ⊎_elim}
use Prim.Native.Nat.{ℕ}
use native.Mathlib.Omega.{arith}
use lib.Dec.{eqb}
use Rattle.laws.proofs.Says.{or-says}
use Rattle.rules.specs.declared.Right.{Right}
use Rattle.rules.specs.declared.Right.TheVariants.{DeleteSelf, Terminate, Activate, Deactivate, DeleteChild}
use Rattle.rules.specs.declared.Sets.{Sets}
use Rattle.image.specs.Layout.{version_of, count_of, current_df_of, current_ef_of, none}
use Rattle.access.specs.declared.Decision.{Decision}
use Rattle.access.specs.declared.Decision.TheVariants.{Granted, Lacking, Closed}
use Rattle.access.specs.Decision.{IsState, decision_number, is_granted, either}
use Rattle.access.proofs.Decided.{decision_says, granted_stays, either-says}
use Rattle.sound.specs.Table.{view_at}
use Rattle.sound.specs.Kinship.{child_named}
use Rattle.create_data.specs.Data.{data_of}
use Rattle.verdict.specs.Applied.{sent_data}
use Rattle.apdu.specs.Apdu.{instruction, sent_identifier, select_file, create_file, delete_file, activate_file, deactivate_file, terminate_ef}
use Rattle.apdu.specs.Apdu.{terminate_df, is_body, is_read}
use Rattle.judge_target.specs.Target.{current_file, decision_at, slot_in, right_for}
use Rattle.judge_bodies.specs.Bodies.{right_to}
use Rattle.judge_security.specs.Security.{ef_decision, deletion, life_decision, decision_for, step_j}

pub record Sure (g : Sets → Decision) : Type 0 where
  pub lacking : (x : Sets) → g x ≡ Lacking → (y : Sets) × (IsState y × (is_granted (g y) ≡ true))
  pub closed : (x : Sets) → g x ≡ Closed → (y : Sets) → is_granted (g y) ≡ false

-- a rule
rule_sure : (img pool : List ℕ) (s : ℕ) (right : Right) → Sure (decision_at img pool s right)
unfolding decision_at
rule_sure img pool s right = record {
  lacking = λ x e. let p = ((decision_says _ _ right x).lacking.0 e).1 in (p.0, (p.1.0, granted_stays _ _ right p.0 ∙ p.1.1));
  closed = λ x e y. granted_stays _ _ right y ∙ (decision_says _ _ right x).closed.0 e y;
}

nothing_sure : Sure (λ x. Granted)
nothing_sure = record {
  lacking = λ x e. absurd (omega (arith, ap decision_number e));
  closed = λ x e. absurd (omega (arith, ap decision_number e));
}

choice_sure : (b : Bool) (g h : Sets → Decision) → Sure g → Sure h → Sure (λ x. cond b (g x) (h x))
choice_sure true g h k l = k
choice_sure false g h k l = l

-- where one of two rules suffices
either_sure : (g h : Sets → Decision) → Sure g → Sure h → Sure (λ x. either (g x) (h x))
either_sure g h k l = record {
  lacking = λ x e. ⊎_elim
      (λ q. let p = k.lacking x q in (p.0, (p.1.0, one_grants p.0 (inl p.1.1))))
      (λ q. let p = l.lacking x q in (p.0, (p.1.0, one_grants p.0 (inr p.1.1))))
      ((either-says (g x) (h x)).1.0 e).1;
  closed = λ x e y.
      let p = (either-says (g x) (h x)).2.0 e in
      (either-says (g y) (h y)).0 ∙ ap (λ (b : Bool). b || is_granted (h y)) (k.closed x p.0 y) ∙ l.closed x p.1 y;
}
  where
    one_grants : (y : Sets) → (is_granted (g y) ≡ true) ⊎ (is_granted (h y) ≡ true) → is_granted (either (g y) (h y)) ≡ true
    one_grants y e = (either-says (g y) (h y)).0 ∙ (or-says (is_granted (g y)) (is_granted (h y))).1 e

module _ (img pool : List ℕ) where
  ef_sure : (right : Right) → Sure (ef_decision img pool right)
  unfolding ef_decision
  ef_sure right = choice_sure (eqb (current_ef_of img) none) _ _ nothing_sure (rule_sure img pool (current_ef_of img) right)

  life_sure : (d i : ℕ) → Sure (life_decision img pool d i)
  unfolding life_decision
  life_sure d i =
      choice_sure (eqb i activate_file) _ _ (rule_sure img pool (current_file img) Activate)
      (choice_sure (eqb i deactivate_file) _ _ (rule_sure img pool (current_file img) Deactivate)
      (choice_sure (eqb i terminate_ef) _ _ (ef_sure Terminate)
      (choice_sure (eqb i terminate_df) _ _ (rule_sure img pool d Terminate) (rule_sure img pool 0 Terminate))))

  delete_sure : (n d i : ℕ) → Sure (deletion img pool n d i)
  unfolding deletion
  delete_sure n d i =
      either_sure _ _ (rule_sure img pool (slot_in (child_named n (view_at img) d i)) DeleteSelf) (rule_sure img pool d DeleteChild)

  pub step_sure : (c : List ℕ) → Sure (step_j img pool c)
  unfolding step_j decision_for
  step_sure c =
      choice_sure (eqb (instruction c) select_file) _ _ nothing_sure
      (choice_sure (eqb (instruction c) create_file) _ _ (rule_sure img pool (current_df_of img) (right_for (data_of (version_of img) (sent_data c))))
      (choice_sure (eqb (instruction c) delete_file) _ _ (delete_sure (count_of img) (current_df_of img) (sent_identifier c))
      (choice_sure (is_body (instruction c)) _ _ (ef_sure (right_to (is_read (instruction c)))) (life_sure (current_df_of img) (instruction c)))))

-- What step J of a command decides, of three, and what a verdict says of security (02 Ticket 6). n is the slot count, d the current DF.
use Rattle.std.specs.Prelude.{ℕ, Bool, true, false, cond, ◌&&◌, List, [], ◌∷◌, eqb, Ok, Err}
use Rattle.rules.specs.declared.Right.{Right}
use Rattle.rules.specs.declared.Right.TheVariants.{DeleteSelf, Terminate, Activate, Deactivate, DeleteChild}
use Rattle.rules.specs.declared.Sets.{Sets}
use Rattle.image.specs.Layout.{version_of, count_of, current_df_of, current_ef_of, none}
use Rattle.access.specs.declared.Decision.{Decision}
use Rattle.access.specs.declared.Decision.TheVariants.{Granted}
use Rattle.access.specs.Decision.{either}
use Rattle.sound.specs.Table.{view_at}
use Rattle.sound.specs.Kinship.{child_named}
use Rattle.create_data.specs.Data.{data_of}
use Rattle.verdict.specs.declared.State.{State}
use Rattle.verdict.specs.Applied.{Verdict, sent_data}
use Rattle.verdict.specs.Words.{security_not_satisfied}
use Rattle.apdu.specs.Apdu.{instruction, sent_identifier, select_file, create_file, delete_file, activate_file, deactivate_file}
use Rattle.apdu.specs.Apdu.{terminate_ef}
use Rattle.apdu.specs.Apdu.{terminate_df, is_body, is_read}
use Rattle.judge_target.specs.Steps.{Step}
use Rattle.judge_target.specs.Target.{current_file, decision_at, slot_in, right_for}
use Rattle.judge_bodies.specs.Bodies.{right_to}

-- a command on the current EF; where there is none, step I refuses before
unfoldable pub ef_decision : List ℕ → List ℕ → Right → Sets → Decision
ef_decision img pool right x = cond (eqb (current_ef_of img) none) Granted (decision_at img pool (current_ef_of img) right x)

-- DELETE: by the child's own b7 or directory d's b1
unfoldable pub deletion : List ℕ → List ℕ → ℕ → ℕ → ℕ → Sets → Decision
deletion img pool n d id x =
    either (decision_at img pool (slot_in (child_named n (view_at img) d id)) DeleteSelf x) (decision_at img pool d DeleteChild x)

-- a life-cycle command i: the current EF, else the current DF; the current EF; the current DF d; the root
unfoldable pub life_decision : List ℕ → List ℕ → ℕ → ℕ → Sets → Decision
life_decision img pool d i x =
    cond (eqb i activate_file) (decision_at img pool (current_file img) Activate x)
    (cond (eqb i deactivate_file) (decision_at img pool (current_file img) Deactivate x)
    (cond (eqb i terminate_ef) (ef_decision img pool Terminate x)
    (cond (eqb i terminate_df) (decision_at img pool d Terminate x)
    (decision_at img pool 0 Terminate x))))

-- what step J decides, by the instruction; SELECT has no step J
unfoldable pub decision_for : List ℕ → List ℕ → ℕ → ℕ → List ℕ → Sets → Decision
decision_for img pool n d c x =
    cond (eqb (instruction c) select_file) Granted
    (cond (eqb (instruction c) create_file) (decision_at img pool d (right_for (data_of (version_of img) (sent_data c))) x)
    (cond (eqb (instruction c) delete_file) (deletion img pool n d (sent_identifier c) x)
    (cond (is_body (instruction c)) (ef_decision img pool (right_to (is_read (instruction c))) x)
    (life_decision img pool d (instruction c) x))))

unfoldable pub step_j : List ℕ → List ℕ → List ℕ → Sets → Decision
step_j img pool c x = decision_for img pool (count_of img) (current_df_of img) c x

-- a verdict is the refusal of step J
abbrev pub is_denied : Verdict → Bool
is_denied (Err word) = eqb word security_not_satisfied
is_denied (Ok effect) = false

-- what a verdict says of security: granted, unless it is that refusal
unfoldable pub denial_of : List ℕ → List ℕ → List ℕ → Sets → Verdict → Decision
denial_of img pool c x v = cond (is_denied v) (step_j img pool c x) Granted

-- step J of a list of steps holds: the one whose word is 6982
abbrev pub holds_j : List Step → Bool
holds_j [] = true
holds_j (s ∷ rest) = cond (eqb s.word security_not_satisfied) s.holds true && holds_j rest

-- the same state, had other sets been authenticated
abbrev pub under : State → Sets → State
under st x = record { sets = x; channels = st.channels }

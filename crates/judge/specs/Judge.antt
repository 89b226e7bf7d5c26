-- The order in which a command is judged (01): the shared steps A to G, then the command's own.
use Rattle.std.specs.Prelude.{ℕ, Bool, cond, List, eqb}
use Rattle.rules.specs.declared.Sets.{Sets}
use Rattle.image.specs.Layout.{count_of, current_df_of, current_ef_of}
use Rattle.verdict.specs.declared.State.{State}
use Rattle.verdict.specs.Applied.{Verdict, sent_data}
use Rattle.judge_target.specs.Steps.{Plan, judged, followed}
use Rattle.apdu.specs.Apdu.{instruction, sent_identifier, select_file, create_file, delete_file, activate_file, deactivate_file}
use Rattle.apdu.specs.Apdu.{terminate_ef}
use Rattle.apdu.specs.Apdu.{terminate_df, is_body, is_binary, is_read, parameters, record_number, asked}
use Rattle.judge.specs.Shared.{shared_steps}
use Rattle.judge_target.specs.Target.{current_file}
use Rattle.judge_create.specs.Creation.{create}
use Rattle.judge_bodies.specs.Bodies.{binary, recordwise}
use Rattle.judge_commands.specs.Commands.{select, delete, activate, deactivate, terminate_the_ef, terminate_the_df, terminate_the_card}

-- the plan of a life-cycle command i: the current EF, else the current DF; the current EF; the current DF d; the root
unfoldable pub life_plan : List ℕ → List ℕ → ℕ → ℕ → Sets → Plan
life_plan img pool d i x =
    cond (eqb i activate_file) (activate img pool (current_file img) x)
    (cond (eqb i deactivate_file) (deactivate img pool (current_file img) x)
    (cond (eqb i terminate_ef) (terminate_the_ef img pool (current_ef_of img) x)
    (cond (eqb i terminate_df) (terminate_the_df img pool d x)
    (terminate_the_card img pool x))))

-- the plan of a command on a body: that of the current EF
unfoldable pub body_plan : List ℕ → List ℕ → List ℕ → Sets → Plan
body_plan img pool c x =
    let reads : Bool = is_read (instruction c) in
    cond (is_binary (instruction c)) (binary img pool (current_ef_of img) reads (parameters c) (asked c) x)
    (recordwise img pool (current_ef_of img) reads (record_number c) (asked c) x)

-- the command's own plan, by its instruction: n is the slot count, d the current DF
unfoldable pub plan_for : List ℕ → List ℕ → ℕ → ℕ → List ℕ → State → Plan
plan_for img pool n d c st =
    cond (eqb (instruction c) select_file) (select img n d (sent_identifier c))
    (cond (eqb (instruction c) create_file) (create img pool n d (sent_data c) st.sets)
    (cond (eqb (instruction c) delete_file) (delete img pool n d (sent_identifier c) st.sets)
    (cond (is_body (instruction c)) (body_plan img pool c st.sets)
    (life_plan img pool d (instruction c) st.sets))))

unfoldable pub judge_for : List ℕ → List ℕ → ℕ → ℕ → List ℕ → State → Verdict
judge_for img pool n d c st = judged (shared_steps img c st) (followed (plan_for img pool n d c st))

-- the verdict on command c, for an image, its pool, in which rules may stand, and what the caller hands over
unfoldable pub judge_of : List ℕ → List ℕ → List ℕ → State → Verdict
judge_of img pool c st = judge_for img pool (count_of img) (current_df_of img) c st

-- The commands of 01 but CREATE, each as the steps H to L that it is judged by and the effect that it then has. n is
-- the slot count, d the current DF, t the file that a life-cycle command is about.
use Rattle.std.specs.Prelude.{ℕ, Bool, cond, not, ◌||◌, List, [], ◌∷◌, eqb, Option, is_some, Ok}
use Rattle.rules.specs.declared.Sets.{Sets}
use Rattle.rules.specs.declared.Right.TheVariants.{DeleteSelf, Terminate, Activate, Deactivate, DeleteChild}
use Rattle.rules.specs.Descriptor.{df}
use Rattle.rules.specs.Life.{is_activated, is_deactivated, is_terminated, can_activate, activated_byte, deactivated_byte, terminated_byte}
use Rattle.image.specs.Layout.{none}
use Rattle.sound.specs.Table.{view_at}
use Rattle.sound.specs.Kinship.{child_named, terminated_up}
use Rattle.verdict.specs.Applied.{Verdict}
use Rattle.verdict.specs.declared.Effect.TheVariants.{Select, Delete, SetLife}
use Rattle.verdict.specs.Words.{done, file_deactivated, file_terminated, security_not_satisfied, conditions_not_satisfied, not_allowed}
use Rattle.verdict.specs.Words.{not_found}
use Rattle.judge_target.specs.Steps.{step, judged, Plan, plan}
use Rattle.judge_target.specs.Target.{life_at, allowed_at, slot_in, selected}

-- SELECT of a 04 file gives 6283, of a 0C file 6285, and still selects
unfoldable pub select_word : ℕ → ℕ
select_word life = cond (is_deactivated life) file_deactivated (cond (is_terminated life) file_terminated done)

-- a DF becomes current with no EF; an EF becomes current EF
unfoldable pub selecting : List ℕ → ℕ → ℕ → Verdict
selecting img d s =
    cond (eqb (view_at img s).kind df)
    (Ok (Select s none (select_word (life_at img s))))
    (Ok (Select d s (select_word (life_at img s))))

-- SELECT skips steps J and K
abbrev pub select : List ℕ → ℕ → ℕ → ℕ → Plan
select img n d x =
    let file : Option ℕ = selected img n d x in
    plan (step (is_some file) not_found ∷ []) (selecting img d (slot_in file))  -- I

-- the child in slot s may be deleted: by its own b7 or directory d's b1
unfoldable pub may_delete : List ℕ → List ℕ → ℕ → ℕ → Sets → Bool
may_delete img pool d s x = allowed_at img pool s DeleteSelf x || allowed_at img pool d DeleteChild x

-- the child goes, if it may be deleted
abbrev pub deleting : List ℕ → List ℕ → ℕ → Sets → ℕ → Verdict
deleting img pool d x s = judged (step (may_delete img pool d s x) security_not_satisfied ∷ []) (Ok (Delete s))

-- DELETE: a child of the current DF; no life-cycle check
abbrev pub delete : List ℕ → List ℕ → ℕ → ℕ → ℕ → Sets → Plan
delete img pool n d id x =
    let child : Option ℕ = child_named n (view_at img) d id in
    plan
    (step (is_some child) not_found  -- I
    ∷ step (may_delete img pool d (slot_in child) x) security_not_satisfied  -- J
    ∷ [])
    (Ok (Delete (slot_in child)))

-- ACTIVATE of the file in slot t: creation, initialisation, deactivated to 05
abbrev pub activate : List ℕ → List ℕ → ℕ → Sets → Plan
activate img pool t x =
    plan
    (step (allowed_at img pool t Activate x) security_not_satisfied  -- J
    ∷ step (not (terminated_up img t)) conditions_not_satisfied  -- K
    ∷ step (can_activate (life_at img t)) conditions_not_satisfied
    ∷ [])
    (Ok (SetLife t activated_byte))

-- DEACTIVATE: activated to 04
abbrev pub deactivate : List ℕ → List ℕ → ℕ → Sets → Plan
deactivate img pool t x =
    plan
    (step (allowed_at img pool t Deactivate x) security_not_satisfied  -- J
    ∷ step (not (terminated_up img t)) conditions_not_satisfied  -- K
    ∷ step (is_activated (life_at img t)) conditions_not_satisfied
    ∷ [])
    (Ok (SetLife t deactivated_byte))

-- TERMINATE EF: the current EF, any state but 0C to 0C
abbrev pub terminate_the_ef : List ℕ → List ℕ → ℕ → Sets → Plan
terminate_the_ef img pool t x =
    plan
    (step (not (eqb t none)) not_allowed  -- I
    ∷ step (allowed_at img pool t Terminate x) security_not_satisfied  -- J
    ∷ step (not (terminated_up img t)) conditions_not_satisfied  -- K
    ∷ [])
    (Ok (SetLife t terminated_byte))

-- TERMINATE DF: the current DF, any state but 0C to 0C; the root is 6985
abbrev pub terminate_the_df : List ℕ → List ℕ → ℕ → Sets → Plan
terminate_the_df img pool t x =
    plan
    (step (allowed_at img pool t Terminate x) security_not_satisfied  -- J
    ∷ step (not (eqb t 0)) conditions_not_satisfied  -- K
    ∷ step (not (terminated_up img t)) conditions_not_satisfied
    ∷ [])
    (Ok (SetLife t terminated_byte))

-- TERMINATE CARD USAGE: the root's b6; root to 0C
abbrev pub terminate_the_card : List ℕ → List ℕ → Sets → Plan
terminate_the_card img pool x =
    plan (step (allowed_at img pool 0 Terminate x) security_not_satisfied ∷ []) (Ok (SetLife 0 terminated_byte))  -- J

-- The steps A to G that all commands share (01 "The order in which a command is judged").
use Rattle.std.specs.Prelude.{ℕ, not, List, [], ◌∷◌, length, eqb, leb}
use Rattle.image.specs.Layout.{version_of}
use Rattle.sound.specs.Kinship.{terminated_at}
use Rattle.verdict.specs.declared.State.{State}
use Rattle.verdict.specs.Words.{wrong_length, wrong_class, wrong_instruction, wrong_parameters, conditions_not_satisfied}
use Rattle.judge_target.specs.Steps.{Step, step}
use Rattle.apdu.specs.Apdu.{class_byte, instruction, is_known, crowded, fit_parameters, fit_length, on_other_channel}

-- the steps E to G
abbrev pub later_steps : List ℕ → State → List Step
later_steps c st =
    step (not (crowded (instruction c) st)) conditions_not_satisfied  -- E
    ∷ step (fit_parameters c) wrong_parameters  -- F
    ∷ step (fit_length c) wrong_length  -- G
    ∷ []

-- the steps A to G
abbrev pub shared_steps : List ℕ → List ℕ → State → List Step
shared_steps img c st =
    step (leb 4 (length c)) wrong_length  -- A
    ∷ step (not (on_other_channel (class_byte c))) conditions_not_satisfied  -- B
    ∷ step (eqb (class_byte c) 0x00) wrong_class
    ∷ step (is_known (version_of img) (instruction c)) wrong_instruction  -- C
    ∷ step (not (terminated_at img 0)) conditions_not_satisfied  -- D
    ∷ later_steps c st  -- E to G

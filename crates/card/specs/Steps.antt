-- All steps that judging makes of a command, A to L in order, and the effect that it has where all hold; then the last check of a call,
-- that what is told fits the response.
use Rattle.std.specs.Prelude.{ℕ, cond, List, [], ◌∷◌, ◌++◌, leb, length}
use Rattle.image.specs.Layout.{count_of, current_df_of}
use Rattle.verdict.specs.declared.State.{State}
use Rattle.verdict.specs.Applied.{Verdict}
use Rattle.verdict.specs.Words.{done}
use Rattle.judge_target.specs.Steps.{Step, step}
use Rattle.judge.specs.Shared.{shared_steps}
use Rattle.judge.specs.Judge.{plan_for}
use Rattle.effect.specs.Told.{told}

abbrev pub steps_of : List ℕ → List ℕ → List ℕ → State → List Step
steps_of img pool c st = shared_steps img c st ++ (plan_for img pool (count_of img) (current_df_of img) c st).steps

abbrev pub effect_of : List ℕ → List ℕ → List ℕ → State → Verdict
effect_of img pool c st = (plan_for img pool (count_of img) (current_df_of img) c st).effect

-- .. and the last: answer 5, which has no word
abbrev pub last_step : List ℕ → List ℕ → List ℕ → State → ℕ → Step
last_step img pool c st lent = step (leb (length (told img pool c (effect_of img pool c st))) lent) 0x0000

abbrev pub all_steps : List ℕ → List ℕ → List ℕ → State → ℕ → List Step
all_steps img pool c st lent = steps_of img pool c st ++ (last_step img pool c st lent ∷ [])

-- the word of the first step that fails
abbrev pub first_failing : List Step → ℕ
first_failing [] = done
first_failing (s ∷ rest) = cond s.holds (first_failing rest) s.word

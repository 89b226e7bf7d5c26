-- A command is judged by steps: each is a condition and the word of its failure. The first that fails gives
-- its word; where all hold, the command has its effect (demand 2).
use Rattle.std.specs.Prelude.{ℕ, Bool, true, cond, ◌&&◌, List, [], ◌∷◌, Result, Err}
use Rattle.verdict.specs.Applied.{Verdict}

pub record Step : Type 0 where
  pub holds : Bool
  pub word : ℕ

abbrev pub step : Bool → ℕ → Step
step test word = record { holds = test; word = word }

-- the word of the first step that fails; else what is due: the verdict where a plan ends, nothing where steps are only tested
abbrev pub judged : {A : Type 0} → List Step → Result A ℕ → Result A ℕ
judged [] due = due
judged (s ∷ rest) due = cond s.holds (judged rest due) (Err s.word)

-- every step holds
abbrev pub all_hold : List Step → Bool
all_hold [] = true
all_hold (s ∷ rest) = s.holds && all_hold rest

-- what a command asks, and what it then does
pub record Plan : Type 0 where
  pub steps : List Step
  pub effect : Verdict

abbrev pub plan : List Step → Verdict → Plan
plan steps effect = record { steps = steps; effect = effect }

unfoldable pub followed : Plan → Verdict
followed p = judged p.steps p.effect

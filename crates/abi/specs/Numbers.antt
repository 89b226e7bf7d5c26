-- How the numbers of a C call stand for what 01 and 02 name: the card that is made, the state that a command is given, and its reply as
-- one number.
use Rattle.std.specs.Prelude.{ℕ, ◌+◌, ◌*◌, ◌-◌, List, [], ◌∷◌, Option, Some, None, Ok, Err}
use Rattle.maker.specs.declared.Edition.{Edition}
use Rattle.verdict.specs.declared.State.{State}
use Rattle.referred.specs.declared.Place.{Place}
use Rattle.referred.specs.declared.Place.TheVariants.{InImage, InPool}
use Rattle.card.specs.Command.{Reply, answer_number, answer_word, answer_told, answer_security}
use Rattle.card.specs.Ruling.{Ruling}

-- the kind of card: its version
abbrev pub edition_of : ℕ → Edition
edition_of kind = record { version = kind }

-- three sets, then the byte of open channels
abbrev pub state_of : ℕ → ℕ → ℕ → ℕ → State
state_of m e u ch = record {
  sets = record { messaging = m; external = e; user = u };
  channels = ch;
}

-- the answer above the sixteen bits of the word
abbrev pub packed : Reply → ℕ
packed r = answer_number r * 65536 + answer_word r

-- what a command tells beside its word: how many bytes of data, and what a security refusal lacks (02 Ticket 6); one entry is kept for the
-- bytes moved (02 Ticket 8), and is 0
abbrev pub told_numbers : Reply → List ℕ
told_numbers r = answer_told r ∷ answer_security r ∷ 0 ∷ []

-- where a rule stands (02 Ticket 7): 0 nowhere, 1 in the image, 2 in the pool; its first byte; how many bytes it has
abbrev pub place_numbers : Option Place → List ℕ
place_numbers None = 0 ∷ 0 ∷ 0 ∷ []
place_numbers (Some (InImage from to)) = 1 ∷ from ∷ (to - from) ∷ []
place_numbers (Some (InPool from to)) = 2 ∷ from ∷ (to - from) ∷ []

abbrev pub ruling_numbers : Ruling → List ℕ
ruling_numbers (Ok p) = place_numbers p
ruling_numbers (Err e) = 0 ∷ 0 ∷ 0 ∷ []

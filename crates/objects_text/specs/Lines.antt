-- The lines of a listing. Each begins with a place in the data, in two hex digits.
use Rattle.std.specs.Prelude.{ℕ, ◌/◌, ◌%◌, List, [], ◌∷◌, ◌++◌, Option, Some, None}
use Rattle.rules.specs.declared.life_cycle.Life.{Life}
use Rattle.rules.specs.declared.life_cycle.Life.TheVariants.{Creation, Initialisation, Activated, Deactivated, Terminated}
use Rattle.text.specs.Digits.{digit_of}
use Rattle.rules.specs.Life.{life_of}

-- a byte in two digits
abbrev pub hex : ℕ → List ℕ
hex b = digit_of (b / 16) ∷ digit_of (b % 16) ∷ []

-- a place or a byte, and a word behind it
unfoldable pub mark_line : ℕ → List ℕ → List ℕ
mark_line at word = hex at ++ (32 ∷ []) ++ word

-- an object's tag and length
abbrev pub tag_and_length : ℕ → ℕ → List ℕ
tag_and_length tag long = hex tag ++ (32 ∷ []) ++ hex long

-- the words `END`, `BREAK`, `HEAD`, `DF`, `EF`, `DF 2`, `EF 2`, `DF 3`, `EF 3` and `6A80`, each to the end of its line
abbrev pub end : List ℕ
end = 69 ∷ 78 ∷ 68 ∷ 10 ∷ []

abbrev pub break : List ℕ
break = 66 ∷ 82 ∷ 69 ∷ 65 ∷ 75 ∷ 10 ∷ []

abbrev pub head : List ℕ
head = 72 ∷ 69 ∷ 65 ∷ 68 ∷ 10 ∷ []

abbrev pub df : List ℕ
df = 68 ∷ 70 ∷ 10 ∷ []

abbrev pub ef : List ℕ
ef = 69 ∷ 70 ∷ 10 ∷ []

abbrev pub later_df : List ℕ
later_df = 68 ∷ 70 ∷ 32 ∷ 50 ∷ 10 ∷ []

abbrev pub later_ef : List ℕ
later_ef = 69 ∷ 70 ∷ 32 ∷ 50 ∷ 10 ∷ []

abbrev pub third_df : List ℕ
third_df = 68 ∷ 70 ∷ 32 ∷ 51 ∷ 10 ∷ []

abbrev pub third_ef : List ℕ
third_ef = 69 ∷ 70 ∷ 32 ∷ 51 ∷ 10 ∷ []

abbrev pub bad : List ℕ
bad = 54 ∷ 65 ∷ 56 ∷ 48 ∷ 10 ∷ []

-- the life cycles by their class: `creation`, `initialisation`, `activated`, `deactivated`, `terminated`, else `unknown`
unfoldable pub life_word : Option Life → List ℕ
life_word (Some Creation) = 99 ∷ 114 ∷ 101 ∷ 97 ∷ 116 ∷ 105 ∷ 111 ∷ 110 ∷ 10 ∷ []
life_word (Some Initialisation) = 105 ∷ 110 ∷ 105 ∷ 116 ∷ 105 ∷ 97 ∷ 108 ∷ 105 ∷ 115 ∷ 97 ∷ 116 ∷ 105 ∷ 111 ∷ 110 ∷ 10 ∷ []
life_word (Some Activated) = 97 ∷ 99 ∷ 116 ∷ 105 ∷ 118 ∷ 97 ∷ 116 ∷ 101 ∷ 100 ∷ 10 ∷ []
life_word (Some Deactivated) = 100 ∷ 101 ∷ 97 ∷ 99 ∷ 116 ∷ 105 ∷ 118 ∷ 97 ∷ 116 ∷ 101 ∷ 100 ∷ 10 ∷ []
life_word (Some Terminated) = 116 ∷ 101 ∷ 114 ∷ 109 ∷ 105 ∷ 110 ∷ 97 ∷ 116 ∷ 101 ∷ 100 ∷ 10 ∷ []
life_word None = 117 ∷ 110 ∷ 107 ∷ 110 ∷ 111 ∷ 119 ∷ 110 ∷ 10 ∷ []

-- a life-cycle byte, and its life cycle in words
unfoldable pub life_line : ℕ → List ℕ
life_line b = mark_line b (life_word (life_of b))

-- What replay writes (01 "Replay"): a line of four capital hex digits a command, and the lines that are no word (`BIG` is text's).
use Rattle.std.specs.Prelude.{ℕ, ◌/◌, ◌%◌, List, [], ◌∷◌}
use Rattle.text.specs.Digits.{digit_of}

-- four digits and a newline
unfoldable pub line_of : ℕ → List ℕ
line_of w = digit_of (w / 4096) ∷ digit_of (w / 256 % 16) ∷ digit_of (w / 16 % 16) ∷ digit_of (w % 16) ∷ 10 ∷ []

-- `BAD` and `CUT`, each a line
abbrev pub bad : List ℕ
bad = 66 ∷ 65 ∷ 68 ∷ 10 ∷ []

abbrev pub cut : List ℕ
cut = 67 ∷ 85 ∷ 84 ∷ 10 ∷ []

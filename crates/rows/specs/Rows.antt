-- Both sides of each line (01): what the definitions give, beside what 01 says; one table, one theorem.
-- The sets of the caller are any sets, so that "exactly" and "never" are said of all of them; W2 and W3 are also said
-- with numbers, so that they do not rest on our own reading of a bit. W7 and W10 are whole calls on cards that can exist, of version v.
use Rattle.std.specs.Prelude.{ℕ, ◌≡◌, Bool, true, false, ◌&&◌, ◌||◌, List, [], ◌∷◌}
use Rattle.laws.specs.Walks.{if_so}
use Rattle.rules.specs.declared.Sets.{Sets}
use Rattle.rules.specs.declared.Right.TheVariants.{CreateDf, CreateEf}
use Rattle.rules.specs.Descriptor.{class_of, structure_of, df, ef, neither}
use Rattle.rules.specs.Value.{good_length}
use Rattle.rules.specs.Condition.{bit, holds_of}
use Rattle.image.specs.Layout.{known_version}
use Rattle.access.specs.Access.{compact, granted_of}
use Rattle.rows.specs.Calls.{word, left, room, life, card, create_ef, activate_file, root_in, ef_in}

-- a row: the number of its line, what the definitions give, what 01 says
pub record Row : Type 0 where
  pub line : ℕ
  pub gives : ℕ
  pub says : ℕ

abbrev pub number : ℕ → ℕ → ℕ → Row
number w a b = record { line = w; gives = a; says = b }

abbrev pub test : ℕ → Bool → Bool → Row
test w a b = number w (if_so a 1) (if_so b 1)

-- the sets of secure messaging, external and user authentication
abbrev pub sets : ℕ → ℕ → ℕ → Sets
sets m e u = record { messaging = m; external = e; user = u }

abbrev pub empty : Sets
empty = sets 0x0000 0x0000 0x0000

abbrev pub full : Sets
full = sets 0xFFFF 0xFFFF 0xFFFF

-- the structures of W8
abbrev pub transparent : ℕ
transparent = 1

abbrev pub linear : ℕ
linear = 2

abbrev pub cyclic : ℕ
cyclic = 6

abbrev pub rows : ℕ → Sets → List Row
rows v x =
    -- W1: SC 00 holds with empty sets, FF doesn't with full sets
    test 1 (holds_of 0x00 empty) true
    ∷ test 1 (holds_of 0xFF full) false
    -- W2: SC 11 holds exactly with user bit 1
    ∷ test 2 (holds_of 0x11 x) (bit x.user 1)
    ∷ test 2 (holds_of 0x11 (sets 0x0000 0x0000 0x0002)) true
    ∷ test 2 (holds_of 0x11 (sets 0xFFFF 0xFFFF 0xFFFD)) false
    -- W3: SC B2 needs external and user bit 2, SC 32 either
    ∷ test 3 (holds_of 0xB2 x) (bit x.external 2 && bit x.user 2)
    ∷ test 3 (holds_of 0xB2 (sets 0x0000 0x0004 0x0004)) true
    ∷ test 3 (holds_of 0xB2 (sets 0xFFFF 0xFFFB 0xFFFF)) false
    ∷ test 3 (holds_of 0xB2 (sets 0xFFFF 0xFFFF 0xFFFB)) false
    ∷ test 3 (holds_of 0x32 x) (bit x.external 2 || bit x.user 2)
    ∷ test 3 (holds_of 0x32 (sets 0x0000 0x0004 0x0000)) true
    ∷ test 3 (holds_of 0x32 (sets 0x0000 0x0000 0x0004)) true
    ∷ test 3 (holds_of 0x32 (sets 0xFFFF 0xFFFB 0xFFFB)) false
    -- W4: SC 80 and 1F never hold
    ∷ test 4 (holds_of 0x80 x) false
    ∷ test 4 (holds_of 0x1F x) false
    -- W5: rule 06 00 FF: DF creation yes, EF creation no
    ∷ test 5 (granted_of compact (0x06 ∷ 0x00 ∷ 0xFF ∷ []) CreateDf x) true
    ∷ test 5 (granted_of compact (0x06 ∷ 0x00 ∷ 0xFF ∷ []) CreateEf x) false
    -- W6: 02 FF 02 00: EF creation yes
    ∷ test 6 (granted_of compact (0x02 ∷ 0xFF ∷ 0x02 ∷ 0x00 ∷ []) CreateEf x) true
    -- W7: room 256: size 192 fits and leaves 0, 193 gives 6A84
    ∷ number 7 (room (card v 5 256)) 256
    ∷ number 7 (word x (card v 5 256) (create_ef 192)) 0x9000
    ∷ number 7 (room (left x (card v 5 256) (create_ef 192))) 0
    ∷ number 7 (word x (card v 5 256) (create_ef 193)) 0x6A84
    -- W8: 78 DF, 41 transparent, 42 linear, 46 cyclic, 79 and 21 neither
    ∷ number 8 (class_of 0x78) df
    ∷ number 8 (class_of 0x41) ef ∷ number 8 (structure_of 0x41) transparent
    ∷ number 8 (class_of 0x42) ef ∷ number 8 (structure_of 0x42) linear
    ∷ number 8 (class_of 0x46) ef ∷ number 8 (structure_of 0x46) cyclic
    ∷ number 8 (class_of 0x79) neither
    ∷ number 8 (class_of 0x21) neither
    -- W9: record length 10: size 20 good, 25 bad; length 1: 254 good, 255 bad
    ∷ test 9 (good_length 0x42 10 20) true
    ∷ test 9 (good_length 0x42 10 25) false
    ∷ test 9 (good_length 0x42 1 254) true
    ∷ test 9 (good_length 0x42 1 255) false
    -- W10: 04 activates to 05, so does 06 (02 Ticket 1), 0C answers 6985
    ∷ number 10 (word x (root_in v 0x04) activate_file) 0x9000
    ∷ number 10 (life (left x (root_in v 0x04) activate_file) 0) 0x05
    ∷ number 10 (word x (root_in v 0x06) activate_file) 0x9000
    ∷ number 10 (life (left x (root_in v 0x06) activate_file) 0) 0x05
    ∷ number 10 (word x (root_in v 0x0C) activate_file) 0x6985
    ∷ number 10 (word x (ef_in v x 0x04) activate_file) 0x9000
    ∷ number 10 (life (left x (ef_in v x 0x04) activate_file) 1) 0x05
    ∷ number 10 (word x (ef_in v x 0x06) activate_file) 0x9000
    ∷ number 10 (life (left x (ef_in v x 0x06) activate_file) 1) 0x05
    ∷ number 10 (word x (ef_in v x 0x0C) activate_file) 0x6985
    ∷ []

abbrev pub all_give : List Row → List ℕ
all_give [] = []
all_give (r ∷ rs) = r.gives ∷ all_give rs

abbrev pub all_say : List Row → List ℕ
all_say [] = []
all_say (r ∷ rs) = r.says ∷ all_say rs

-- in every row the definitions give what 01 says, on a card of any version that is known (proofs/Computed, `both_sides`)
abbrev pub BothSides : Type 0
BothSides = (v : ℕ) → known_version v ≡ true → (x : Sets) → all_give (rows v x) ≡ all_say (rows v x)

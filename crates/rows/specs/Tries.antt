-- SELECT tries the root, the current DF, its parent, its children, then DFs beside it; the first match wins (01 "SELECT"): on one
-- card, whole calls from its bytes. A row is an identifier that is sent, and the word, the current DF and the current EF that
-- follow.
use Rattle.std.specs.Prelude.{ℕ, ◌≡◌, List, [], ◌∷◌}
use Rattle.rules.specs.declared.Sets.{Sets}
use Rattle.image.specs.Layout.{current_df_of, current_ef_of}
use Rattle.rows.specs.Calls.{word, left, card, create_file, create_df, select_file}

-- CREATE FILE of an EF of one byte
abbrev pub create_byte : ℕ → ℕ → List ℕ
create_byte high low = create_file high low 0x05 1

abbrev pub after : Sets → List ℕ → List (List ℕ) → List ℕ
after x img [] = img
after x img (c ∷ rest) = after x (left x img c) rest

-- slot 1 is DF 7F10 in the root, 2 EF 2F00 beside it, 3 DF 7F20 beside it; in 7F10 are 4, an EF that is called 7F20 too, and 5, the
-- DF 7F11, which is current
abbrev pub nested : Sets → List ℕ
nested x =
    after x (card 1 9 512)
    (create_df 0x7F 0x10 200
    ∷ select_file 0x3F 0x00 ∷ create_byte 0x2F 0x00
    ∷ create_df 0x7F 0x20 32
    ∷ select_file 0x7F 0x10 ∷ create_byte 0x7F 0x20
    ∷ create_df 0x7F 0x11 32
    ∷ [])

abbrev pub answer : Sets → List ℕ → List ℕ → List ℕ
answer x img c = word x img c ∷ current_df_of (left x img c) ∷ current_ef_of (left x img c) ∷ []

-- from 7F11: root, itself, its parent; nothing that lies higher or beside its parent. From 7F10: its child wins over the DF beside;
-- its child DF; an EF beside is not found. From 7F20: the DF beside
abbrev pub tried : Sets → List (List ℕ)
tried x =
    let here : List ℕ = nested x in
    let up : List ℕ = left x here (select_file 0x7F 0x10) in
    let beside : List ℕ = left x (left x here (select_file 0x3F 0x00)) (select_file 0x7F 0x20) in
    answer x here (select_file 0x3F 0x00)
    ∷ answer x here (select_file 0x7F 0x11)
    ∷ answer x here (select_file 0x7F 0x10)
    ∷ answer x here (select_file 0x7F 0x20)
    ∷ answer x up (select_file 0x7F 0x20)
    ∷ answer x up (select_file 0x7F 0x11)
    ∷ answer x up (select_file 0x2F 0x00)
    ∷ answer x beside (select_file 0x7F 0x10)
    ∷ []

abbrev pub found : List (List ℕ)
found =
    (0x9000 ∷ 0 ∷ 0xFFFF ∷ [])
    ∷ (0x9000 ∷ 5 ∷ 0xFFFF ∷ [])
    ∷ (0x9000 ∷ 1 ∷ 0xFFFF ∷ [])
    ∷ (0x6A82 ∷ 5 ∷ 0xFFFF ∷ [])
    ∷ (0x9000 ∷ 1 ∷ 4 ∷ [])
    ∷ (0x9000 ∷ 5 ∷ 0xFFFF ∷ [])
    ∷ (0x6A82 ∷ 1 ∷ 0xFFFF ∷ [])
    ∷ (0x9000 ∷ 1 ∷ 0xFFFF ∷ [])
    ∷ []

-- (proofs/Computed, `select_tries`)
abbrev pub SelectTries : Type 0
SelectTries = (x : Sets) → tried x ≡ found

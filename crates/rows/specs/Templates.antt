-- SELECT that asks for the template, through whole calls (02 Ticket 2): what it answers and tells of a DF, of EFs without and with
-- records, of the root and by life cycle; what it wants of P2, length and Le; and a response that is too short. Then each file made
-- again, by what was told of it, on a fresh card.
use Rattle.std.specs.Prelude.{ℕ, ◌≡◌, List, [], ◌∷◌, ◌++◌, take, drop, replicate}
use Rattle.rules.specs.declared.Sets.{Sets}
use Rattle.image.specs.Layout.{rec_at, current_df_of, current_ef_of, set_life}
use Rattle.fcp.specs.Template.{with_c6}
use Rattle.card.specs.Command.{answer_number, answer_word, answer_told, reply_of, image_of, response_of}
use Rattle.recreation.specs.Recreation.{create_of}
use Rattle.rows.specs.Calls.{with, left, card, create_df, create_ef, select_file}

-- answer, word, how many bytes were told, what is current afterwards, and the response, of which n bytes of AA were lent
abbrev pub said : Sets → List ℕ → ℕ → List ℕ → List ℕ
said x img n c =
    answer_number (reply_of img [] c (with x) n) ∷ answer_word (reply_of img [] c (with x) n) ∷ answer_told (reply_of img [] c (with x) n)
    ∷ current_df_of (image_of img [] c (with x) n) ∷ current_ef_of (image_of img [] c (with x) n)
    ∷ response_of img [] c (with x) (replicate n 0xAA)

-- SELECT with P2 04 and Le 00
abbrev pub ask_file : ℕ → ℕ → List ℕ
ask_file high low = 0x00 ∷ 0xA4 ∷ 0x00 ∷ 0x04 ∷ 0x02 ∷ high ∷ low ∷ 0x00 ∷ []

-- CREATE FILE of 6F08, linear fixed, two records of ten bytes
abbrev pub create_records : List ℕ
create_records =
    0x00 ∷ 0xE0 ∷ 0x00 ∷ 0x00 ∷ 0x17 ∷ 0x62 ∷ 0x15 ∷ 0x82 ∷ 0x04 ∷ 0x42 ∷ 0x00 ∷ 0x00 ∷ 0x0A ∷ 0x83 ∷ 0x02 ∷ 0x6F ∷ 0x08 ∷ 0x8A ∷ 0x01
    ∷ 0x07 ∷ 0x8C ∷ 0x02 ∷ 0x01 ∷ 0x00 ∷ 0x80 ∷ 0x02 ∷ 0x00 ∷ 0x14 ∷ []

-- .. of 7F11, with name A0 01 and total 65
abbrev pub create_named : List ℕ
create_named =
    0x00 ∷ 0xE0 ∷ 0x00 ∷ 0x00 ∷ 0x1C ∷ 0x62 ∷ 0x1A ∷ 0x82 ∷ 0x02 ∷ 0x38 ∷ 0x00 ∷ 0x83 ∷ 0x02 ∷ 0x7F ∷ 0x11 ∷ 0x84 ∷ 0x02 ∷ 0xA0 ∷ 0x01
    ∷ 0x8A ∷ 0x01 ∷ 0x05 ∷ 0x8C ∷ 0x02 ∷ 0x01 ∷ 0x00 ∷ 0x81 ∷ 0x02 ∷ 0x00 ∷ 0x41 ∷ 0xC6 ∷ 0x01 ∷ 0x00 ∷ []

-- a card with 7F10 in slot 1 and in it 6F07, the current EF, in slot 2; one with 6F08; one with 7F11
abbrev pub tree : Sets → List ℕ
tree x = left x (left x (card 1 4 192) (create_df 0x7F 0x10 65)) (create_ef 1)

abbrev pub records : Sets → List ℕ
records x = left x (card 1 3 128) create_records

abbrev pub named : Sets → List ℕ
named x = left x (card 1 4 192) create_named

abbrev pub asked : Sets → List (List ℕ)
asked x =
    -- a DF, with three bytes to spare; none to spare; one too few, and 6F07 stays current
    said x (tree x) 30 (ask_file 0x7F 0x10) ∷ said x (tree x) 27 (ask_file 0x7F 0x10) ∷ said x (tree x) 26 (ask_file 0x7F 0x10)
    -- an EF: activated, deactivated, terminated; the root
    ∷ said x (tree x) 27 (ask_file 0x6F 0x07) ∷ said x (set_life (tree x) 2 0x04) 27 (ask_file 0x6F 0x07)
    ∷ said x (set_life (tree x) 2 0x0C) 27 (ask_file 0x6F 0x07) ∷ said x (tree x) 27 (ask_file 0x3F 0x00)
    -- a record length; a name
    ∷ said x (records x) 23 (ask_file 0x6F 0x08) ∷ said x (named x) 25 (ask_file 0x7F 0x11)
    -- no such file, and no response; without P2 04 none is needed
    ∷ said x (tree x) 0 (ask_file 0x6F 0x0B) ∷ said x (tree x) 0 (select_file 0x7F 0x10)
    -- 04 with 7 bytes, with Lc 3, with Le 01; 0C with 8 bytes; another P2, another P1
    ∷ said x (tree x) 0 (0x00 ∷ 0xA4 ∷ 0x00 ∷ 0x04 ∷ 0x02 ∷ 0x7F ∷ 0x10 ∷ [])
    ∷ said x (tree x) 0 (0x00 ∷ 0xA4 ∷ 0x00 ∷ 0x04 ∷ 0x03 ∷ 0x7F ∷ 0x10 ∷ 0x00 ∷ [])
    ∷ said x (tree x) 0 (0x00 ∷ 0xA4 ∷ 0x00 ∷ 0x04 ∷ 0x02 ∷ 0x7F ∷ 0x10 ∷ 0x01 ∷ [])
    ∷ said x (tree x) 0 (0x00 ∷ 0xA4 ∷ 0x00 ∷ 0x0C ∷ 0x02 ∷ 0x7F ∷ 0x10 ∷ 0x00 ∷ [])
    ∷ said x (tree x) 0 (0x00 ∷ 0xA4 ∷ 0x00 ∷ 0x00 ∷ 0x02 ∷ 0x7F ∷ 0x10 ∷ 0x00 ∷ [])
    ∷ said x (tree x) 0 (0x00 ∷ 0xA4 ∷ 0x04 ∷ 0x04 ∷ 0x02 ∷ 0x7F ∷ 0x10 ∷ 0x00 ∷ [])
    ∷ []

-- 62 LL to the rule of a file that allows everything, with its descriptor, identifier and life cycle
abbrev pub told : ℕ → ℕ → ℕ → ℕ → List ℕ
told descriptor high low life =
    0x62 ∷ 0x19 ∷ 0x82 ∷ 0x02 ∷ descriptor ∷ 0x21 ∷ 0x83 ∷ 0x02 ∷ high ∷ low ∷ 0x8A ∷ 0x01 ∷ life
    ∷ 0x8C ∷ 0x08 ∷ 0x7F ∷ 0 ∷ 0 ∷ 0 ∷ 0 ∷ 0 ∷ 0 ∷ 0 ∷ []

-- a refusal of a command on `tree`: 7F10 and 6F07 stay current
abbrev pub refused : ℕ → List ℕ
refused w = 0 ∷ w ∷ 0 ∷ 1 ∷ 2 ∷ []

abbrev pub answers : List (List ℕ)
answers =
    (0 ∷ 0x9000 ∷ 27 ∷ 1 ∷ 0xFFFF ∷ (told 0x78 0x7F 0x10 0x05 ++ (0x81 ∷ 0x02 ∷ 0x00 ∷ 0x41 ∷ 0xAA ∷ 0xAA ∷ 0xAA ∷ [])))
    ∷ (0 ∷ 0x9000 ∷ 27 ∷ 1 ∷ 0xFFFF ∷ (told 0x78 0x7F 0x10 0x05 ++ (0x81 ∷ 0x02 ∷ 0x00 ∷ 0x41 ∷ [])))
    ∷ (5 ∷ 0x0000 ∷ 0 ∷ 1 ∷ 2 ∷ replicate 26 0xAA)
    ∷ (0 ∷ 0x9000 ∷ 27 ∷ 1 ∷ 2 ∷ (told 0x41 0x6F 0x07 0x05 ++ (0x80 ∷ 0x02 ∷ 0x00 ∷ 0x01 ∷ [])))
    ∷ (0 ∷ 0x6283 ∷ 27 ∷ 1 ∷ 2 ∷ (told 0x41 0x6F 0x07 0x04 ++ (0x80 ∷ 0x02 ∷ 0x00 ∷ 0x01 ∷ [])))
    ∷ (0 ∷ 0x6285 ∷ 27 ∷ 1 ∷ 2 ∷ (told 0x41 0x6F 0x07 0x0C ++ (0x80 ∷ 0x02 ∷ 0x00 ∷ 0x01 ∷ [])))
    ∷ (0 ∷ 0x9000 ∷ 27 ∷ 0 ∷ 0xFFFF ∷ (told 0x38 0x3F 0x00 0x05 ++ (0x81 ∷ 0x02 ∷ 0x00 ∷ 0xC0 ∷ [])))
    ∷ (0 ∷ 0x9000 ∷ 23 ∷ 0 ∷ 1 ∷ 0x62 ∷ 0x15 ∷ 0x82 ∷ 0x04 ∷ 0x42 ∷ 0x21 ∷ 0x00 ∷ 0x0A ∷ 0x83 ∷ 0x02 ∷ 0x6F ∷ 0x08 ∷ 0x8A ∷ 0x01 ∷ 0x07
    ∷ 0x8C ∷ 0x02 ∷ 0x01 ∷ 0x00 ∷ 0x80 ∷ 0x02 ∷ 0x00 ∷ 0x14 ∷ [])
    ∷ (0 ∷ 0x9000 ∷ 25 ∷ 1 ∷ 0xFFFF ∷ 0x62 ∷ 0x17 ∷ 0x82 ∷ 0x02 ∷ 0x38 ∷ 0x21 ∷ 0x83 ∷ 0x02 ∷ 0x7F ∷ 0x11 ∷ 0x84 ∷ 0x02 ∷ 0xA0 ∷ 0x01
    ∷ 0x8A ∷ 0x01 ∷ 0x05 ∷ 0x8C ∷ 0x02 ∷ 0x01 ∷ 0x00 ∷ 0x81 ∷ 0x02 ∷ 0x00 ∷ 0x41 ∷ [])
    ∷ refused 0x6A82 ∷ (0 ∷ 0x9000 ∷ 0 ∷ 1 ∷ 0xFFFF ∷ [])
    ∷ refused 0x6700 ∷ refused 0x6700 ∷ refused 0x6700 ∷ refused 0x6700 ∷ refused 0x6B00 ∷ refused 0x6B00
    ∷ []

abbrev pub TemplatesTold : Type 0
TemplatesTold = (x : Sets) → asked x ≡ answers

-- a file made again in a DF of another card, by what SELECT told of it: the word, and the record, in slot 2
abbrev pub elsewhere : Sets → List ℕ
elsewhere x = left x (card 1 5 256) (create_df 0x7F 0x20 150)

abbrev pub told_of : Sets → List ℕ → ℕ → List ℕ → List ℕ
told_of x img n c = response_of img [] c (with x) (replicate n 0xAA)

abbrev pub again : Sets → List ℕ → List ℕ
again x s =
    answer_word (reply_of (elsewhere x) [] (create_of s) (with x) 0) ∷ rec_at (image_of (elsewhere x) [] (create_of s) (with x) 0) 2

-- 6F07, 6F08, and 7F11 with a C6
abbrev pub remade : Sets → List (List ℕ)
remade x =
    again x (told_of x (tree x) 27 (ask_file 0x6F 0x07)) ∷ again x (told_of x (records x) 23 (ask_file 0x6F 0x08))
    ∷ again x (with_c6 (0x00 ∷ []) (told_of x (named x) 25 (ask_file 0x7F 0x11))) ∷ []

-- parent 1, level 2, all else as it was
abbrev pub moved : List ℕ → List ℕ
moved r = 0x9000 ∷ (take 6 r ++ ((0 ∷ 1 ∷ 0 ∷ 2 ∷ []) ++ drop 10 r))

abbrev pub FilesRemade : Type 0
FilesRemade = (x : Sets) → remade x ≡ (moved (rec_at (tree x) 2) ∷ moved (rec_at (records x) 1) ∷ moved (rec_at (named x) 1) ∷ [])

-- Rules of both forms through whole calls (02 Ticket 3): what CREATE takes on a card of each version and keeps of it, what an expanded
-- rule opens, what SELECT tells of it, the file made again, and images that are not sound for their version or a rule's form.
use Rattle.std.specs.Prelude.{ℕ, ◌+◌, ◌≡◌, List, [], ◌∷◌, ◌++◌, replicate}
use Rattle.laws.specs.Lists.{splice}
use Rattle.image.specs.Layout.{rec_at}
use Rattle.create_data.specs.Grammar.{object, template}
use Rattle.card.specs.Command.{answer_number, answer_word, reply_of, image_of, response_of}
use Rattle.recreation.specs.Recreation.{create_of}
use Rattle.rows.specs.Calls.{with, word, left, card, create_df, select_file, deactivate_file}
use Rattle.rows.specs.Rows.{sets, empty}
use Rattle.rows.specs.Templates.{ask_file}

-- CREATE FILE of the EF 6F07 of one byte, with these objects for its rule
abbrev pub create_ruled : List ℕ → List ℕ
create_ruled rules =
    create_of (template
    (object 0x82 (0x41 ∷ 0x21 ∷ []) ++ (object 0x83 (0x6F ∷ 0x07 ∷ []) ++
    (object 0x8A (0x05 ∷ []) ++ (rules ++ object 0x80 (0x00 ∷ 0x01 ∷ []))))))

-- an expanded rule with an AM_DO of all rights and these SC_DOs
abbrev pub all_rights : List ℕ → List ℕ
all_rights conditions = object 0x80 (0x7F ∷ []) ++ conditions

-- user 1 and external 2 (SC bytes 11 and 22), in a row, of which one must hold, of which both must
abbrev pub two : List ℕ
two = object 0x9E (0x11 ∷ []) ++ object 0x9E (0x22 ∷ [])

abbrev pub one_of_two : List ℕ
one_of_two = object 0xA0 two

abbrev pub both_of_two : List ℕ
both_of_two = object 0xAF two

-- a template in a template, n times around `two`, one that always holds beside each
abbrev pub around : List ℕ → List ℕ
around inner = object 0xAF (object 0x90 [] ++ inner)

abbrev pub expanded_file : List ℕ → List ℕ
expanded_file conditions = left empty (card 2 3 128) (create_ruled (object 0xAB (all_rights conditions)))

-- three groups of eight bytes, for all rights, and others behind them
abbrev pub groups : List ℕ → List ℕ
groups others = 0x7F ∷ replicate 7 0x00 ++ (0x7F ∷ replicate 7 0x00 ++ (0x7F ∷ replicate 7 0x00 ++ others))

-- CREATE on a card of a version: AB; AB and 8C; neither; a template with one condition; five deep; four deep; 16 bytes of 8C, 26, 28, 29,
-- 30 and 31 bytes

abbrev pub created : ℕ → List ℕ
created v =
    word empty (card v 3 128) (create_ruled (object 0xAB (all_rights two)))
    ∷ word empty (card v 3 128) (create_ruled (object 0x8C (0x01 ∷ 0x00 ∷ []) ++ object 0xAB (all_rights two)))
    ∷ word empty (card v 3 128) (create_ruled [])
    ∷ word empty (card v 3 128) (create_ruled (object 0xAB (all_rights (object 0xAF (object 0x90 [])))))
    ∷ word empty (card v 3 128) (create_ruled (object 0xAB (all_rights (around (around (around (around one_of_two)))))))
    ∷ word empty (card v 3 128) (create_ruled (object 0xAB (all_rights (around (around (around one_of_two))))))
    ∷ word empty (card v 3 128) (create_ruled (object 0x8C (replicate 16 0x00)))
    ∷ word empty (card v 3 128) (create_ruled (object 0x8C (groups (0x01 ∷ replicate 1 0x00))))
    ∷ word empty (card v 3 128) (create_ruled (object 0x8C (groups (0x07 ∷ replicate 3 0x00))))
    ∷ word empty (card v 3 128) (create_ruled (object 0x8C (groups (0x0F ∷ replicate 4 0x00))))
    ∷ word empty (card v 3 128) (create_ruled (object 0x8C (groups (0x1F ∷ replicate 5 0x00))))
    ∷ word empty (card v 3 128) (create_ruled (object 0x8C (groups (0x3F ∷ replicate 6 0x00))))
    ∷ []

-- DEACTIVATE of a file with that rule: with nothing, user 1, external 2, both
abbrev pub opened : List ℕ → List ℕ
opened conditions =
    word empty (expanded_file conditions) deactivate_file
    ∷ word (sets 0 0 0x0002) (expanded_file conditions) deactivate_file
    ∷ word (sets 0 0x0004 0) (expanded_file conditions) deactivate_file
    ∷ word (sets 0 0x0004 0x0002) (expanded_file conditions) deactivate_file
    ∷ []

-- the answer where two bytes of an image are others. A pool of 64 bytes is right where the root's total is 64, and where there are no
-- bodies
abbrev pub answer_with : List ℕ → ℕ → ℕ → ℕ → ℕ
answer_with img at a b = answer_number (reply_of (splice img at (a ∷ b ∷ [])) (replicate 64 0x00) (select_file 0x3F 0x00) (with empty) 0)

-- of the header, the version: 2, 3; 0, 4, 257
abbrev pub versions : List ℕ → List ℕ
versions img =
    answer_with img 3 0x00 0x02 ∷ answer_with img 3 0x00 0x03
    ∷ answer_with img 3 0x00 0x00 ∷ answer_with img 3 0x00 0x04 ∷ answer_with img 3 0x01 0x01
    ∷ []

-- .. version 1; of the file in slot 1, life cycle and form: 0, 2, 1
abbrev pub forms : List ℕ → List ℕ
forms img =
    answer_with img 3 0x00 0x01 ∷ answer_with img (16 + 64 + 2) 0x05 0x00 ∷ answer_with img (16 + 64 + 2) 0x05 0x02
    ∷ answer_with img (16 + 64 + 2) 0x05 0x01
    ∷ []

-- the record of 6F07 with `two`, in a directory and on a level: byte 3 is its rule's form, and the rule stands at 34
abbrev pub record_in : ℕ → ℕ → List ℕ
record_in parent level =
    (0x02 ∷ 0x41 ∷ 0x05 ∷ 0x01 ∷ []) ++ (0x6F ∷ 0x07 ∷ []) ++ (0x00 ∷ parent ∷ []) ++ (0x00 ∷ level ∷ []) ++ (0x00 ∷ 0x00 ∷ [])
    ++ (0x00 ∷ 0x00 ∷ 0x00 ∷ 0x01 ∷ []) ++ replicate 17 0x00
    ++ (0x09 ∷ 0x80 ∷ 0x01 ∷ 0x7F ∷ 0x9E ∷ 0x01 ∷ 0x11 ∷ 0x9E ∷ 0x01 ∷ 0x22 ∷ []) ++ replicate 21 0x00

-- what SELECT tells of it; and the file made again by that in a DF of another card, in slot 2
abbrev pub told : List ℕ
told =
    0x62 ∷ 0x1A ∷ 0x82 ∷ 0x02 ∷ 0x41 ∷ 0x21 ∷ 0x83 ∷ 0x02 ∷ 0x6F ∷ 0x07 ∷ 0x8A ∷ 0x01 ∷ 0x05
    ∷ 0xAB ∷ 0x09 ∷ 0x80 ∷ 0x01 ∷ 0x7F ∷ 0x9E ∷ 0x01 ∷ 0x11 ∷ 0x9E ∷ 0x01 ∷ 0x22 ∷ 0x80 ∷ 0x02 ∷ 0x00 ∷ 0x01 ∷ []

abbrev pub again : List ℕ → List ℕ
again s =
    let elsewhere : List ℕ = left empty (card 2 5 256) (create_df 0x7F 0x20 150) in
    answer_word (reply_of elsewhere [] (create_of s) (with empty) 0) ∷ rec_at (image_of elsewhere [] (create_of s) (with empty) 0) 2

abbrev pub FormsTold : Type 0
FormsTold =
    (created 1
    ≡ 0x6A80 ∷ 0x6A80 ∷ 0x6A80 ∷ 0x6A80 ∷ 0x6A80 ∷ 0x6A80 ∷ 0x9000 ∷ 0x6A80 ∷ 0x6A80 ∷ 0x6A80 ∷ 0x6A80 ∷ 0x6A80 ∷ [])
    × (created 2
    ≡ 0x9000 ∷ 0x6A80 ∷ 0x6A80 ∷ 0x6A80 ∷ 0x6A80 ∷ 0x9000 ∷ 0x9000 ∷ 0x9000 ∷ 0x9000 ∷ 0x9000 ∷ 0x9000 ∷ 0x6A80 ∷ [])
    × (created 3
    ≡ 0x9000 ∷ 0x6A80 ∷ 0x6A80 ∷ 0x6A80 ∷ 0x6A80 ∷ 0x9000 ∷ 0x9000 ∷ 0x9000 ∷ 0x9000 ∷ 0x6A80 ∷ 0x6A80 ∷ 0x6A80 ∷ [])

-- in a row one suffices, as in A0; AF needs both; so do three AF around
abbrev pub FormsOpen : Type 0
FormsOpen =
    (opened two ≡ 0x6982 ∷ 0x9000 ∷ 0x9000 ∷ 0x9000 ∷ [])
    × (opened one_of_two ≡ 0x6982 ∷ 0x9000 ∷ 0x9000 ∷ 0x9000 ∷ [])
    × (opened both_of_two ≡ 0x6982 ∷ 0x6982 ∷ 0x6982 ∷ 0x9000 ∷ [])
    × (opened (around (around (around both_of_two))) ≡ 0x6982 ∷ 0x6982 ∷ 0x6982 ∷ 0x9000 ∷ [])

-- 0 sound, 1 damaged. A card of version 1 without an EF is one of version 2 and of version 3 too; there is no version 0, 4 or 257. With
-- an expanded rule it is not one of version 1; nor is that rule compact, nor of a form 2. A compact rule is no expanded one
abbrev pub FormsJudged : Type 0
FormsJudged =
    (versions (card 1 2 64) ≡ 0 ∷ 0 ∷ 1 ∷ 1 ∷ 1 ∷ [])
    × (forms (expanded_file two) ≡ 1 ∷ 1 ∷ 1 ∷ 0 ∷ [])
    × (answer_with (card 1 2 64) (16 + 2) 0x05 0x01 ≡ 1)
    × (answer_with (card 2 2 64) (16 + 2) 0x05 0x01 ≡ 1)

-- the record, what is told of it, and the record that is made of that: in slot 1's directory, on level 2
abbrev pub FormsKept : Type 0
FormsKept =
    (rec_at (expanded_file two) 1 ≡ record_in 0 1)
    × (response_of (expanded_file two) [] (ask_file 0x6F 0x07) (with empty) (replicate 28 0xAA) ≡ told)

abbrev pub FormsRemade : Type 0
FormsRemade = again told ≡ 0x9000 ∷ record_in 1 2

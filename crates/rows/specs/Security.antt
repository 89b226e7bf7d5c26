-- What a security refusal lacks, through whole calls (02 Ticket 6): DELETE's two rules, what comes before and after step J, and the answers
-- without a word. Each statement is proved in proofs/Computed under the same name in small letters.
use Rattle.std.specs.Prelude.{ℕ, ◌≡◌, List, [], ◌∷◌, replicate}
use Rattle.laws.specs.Lists.{splice}
use Rattle.rules.specs.declared.Sets.{Sets}
use Rattle.image.specs.Layout.{set_life}
use Rattle.access.specs.Access.{compact}
use Rattle.access.specs.Lines.{user1}
use Rattle.sound.specs.Effects.{fresh}
use Rattle.create_data.specs.Grammar.{object}
use Rattle.card.specs.Command.{Reply}
use Rattle.card.specs.Command.{answer_number, answer_word, answer_security, reply_of}
use Rattle.rows.specs.Calls.{with, blank, left, card, select_file, deactivate_file, terminate_ef}
use Rattle.rows.specs.Rows.{empty}
use Rattle.rows.specs.Forms.{create_ruled}
use Rattle.rows.specs.Templates.{ask_file}

-- the answer, the word and the number of a command
abbrev pub said : Reply → List ℕ
said r = answer_number r ∷ answer_word r ∷ answer_security r ∷ []

abbrev pub given : Sets → List ℕ → List ℕ → List ℕ
given x img c = said (reply_of img (blank img) c (with x) 0)

-- a card whose root creates always and lets children be deleted by one SC byte, with the EF 6F07, which may be deleted by another,
-- deactivated by user 1 and terminated never; a READ of it needs user 1
abbrev pub two_rules : ℕ → ℕ → ℕ → List ℕ
two_rules v above own =
    left empty (fresh v 3 128 compact (0x07 ∷ 0x00 ∷ 0x00 ∷ above ∷ []))
    (create_ruled (object 0x8C (0x69 ∷ own ∷ 0xFF ∷ 0x11 ∷ 0x11 ∷ [])))

abbrev pub delete_it : List ℕ
delete_it = 0x00 ∷ 0xE4 ∷ 0x00 ∷ 0x00 ∷ 0x02 ∷ 0x6F ∷ 0x07 ∷ []

-- both closed, by FF and by n = 15; one lacking, the other closed, either way; both lacking; one granted
abbrev pub DeletesTold : Type 0
DeletesTold =
    (given empty (two_rules 1 0xFF 0x1F) delete_it ≡ 0 ∷ 0x6982 ∷ 2 ∷ [])
    × (given empty (two_rules 1 0x11 0xFF) delete_it ≡ 0 ∷ 0x6982 ∷ 1 ∷ [])
    × (given empty (two_rules 1 0xFF 0x11) delete_it ≡ 0 ∷ 0x6982 ∷ 1 ∷ [])
    × (given empty (two_rules 1 0x11 0x22) delete_it ≡ 0 ∷ 0x6982 ∷ 1 ∷ [])
    × (given user1 (two_rules 1 0xFF 0x11) delete_it ≡ 0 ∷ 0x9000 ∷ 0 ∷ [])

-- DEACTIVATE lacks user 1, with the life cycle that it asks for and without it; with user 1 it is done, or the life cycle refuses;
-- TERMINATE EF is closed; a file that is not there, and a SELECT, ask no rule
abbrev pub StepsTold : Type 0
StepsTold =
    (given empty (two_rules 1 0xFF 0xFF) deactivate_file ≡ 0 ∷ 0x6982 ∷ 1 ∷ [])
    × (given empty (set_life (two_rules 1 0xFF 0xFF) 1 0x04) deactivate_file ≡ 0 ∷ 0x6982 ∷ 1 ∷ [])
    × (given user1 (two_rules 1 0xFF 0xFF) deactivate_file ≡ 0 ∷ 0x9000 ∷ 0 ∷ [])
    × (given user1 (set_life (two_rules 1 0xFF 0xFF) 1 0x04) deactivate_file ≡ 0 ∷ 0x6985 ∷ 0 ∷ [])
    × (given user1 (two_rules 1 0xFF 0xFF) terminate_ef ≡ 0 ∷ 0x6982 ∷ 2 ∷ [])
    × (given empty (card 1 2 64) delete_it ≡ 0 ∷ 0x6A82 ∷ 0 ∷ [])
    × (given empty (two_rules 1 0xFF 0xFF) (select_file 0x6F 0x07) ≡ 0 ∷ 0x9000 ∷ 0 ∷ [])

-- READ BINARY and UPDATE BINARY of one byte on version 3, the second in no group; a damaged image, a short response, a wrong pool
abbrev pub AnswersTold : Type 0
AnswersTold =
    (given empty (two_rules 3 0xFF 0xFF) (0x00 ∷ 0xB0 ∷ 0x00 ∷ 0x00 ∷ 0x01 ∷ []) ≡ 0 ∷ 0x6982 ∷ 1 ∷ [])
    × (given user1 (two_rules 3 0xFF 0xFF) (0x00 ∷ 0xD6 ∷ 0x00 ∷ 0x00 ∷ 0x01 ∷ 0xAA ∷ []) ≡ 0 ∷ 0x6982 ∷ 2 ∷ [])
    × (given empty (splice (two_rules 1 0xFF 0xFF) 3 (0x00 ∷ 0x04 ∷ [])) deactivate_file ≡ 1 ∷ 0x0000 ∷ 0 ∷ [])
    × (given empty (two_rules 1 0xFF 0xFF) (ask_file 0x6F 0x07) ≡ 5 ∷ 0x0000 ∷ 0 ∷ [])
    × (said (reply_of (two_rules 3 0xFF 0xFF) (replicate 127 0x00) deactivate_file (with empty) 0) ≡ 6 ∷ 0x0000 ∷ 0 ∷ [])

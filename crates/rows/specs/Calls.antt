-- Whole calls on cards that can exist, for the tables of this crate that are about commands: what is sent, the word that comes,
-- and what the image holds afterwards.
use Rattle.std.specs.Prelude.{ℕ, cond, List, [], ◌∷◌, replicate}
use Rattle.rules.specs.declared.Sets.{Sets}
use Rattle.image.specs.Layout.{has_bodies, version_of, rec_at, life_cycle_of, count_of, current_df_of, set_life}
use Rattle.access.specs.Access.{compact}
use Rattle.sound.specs.Table.{view_at}
use Rattle.sound.specs.Kinship.{room_for}
use Rattle.sound.specs.Effects.{fresh}
use Rattle.sound.specs.Sound.{pool_length}
use Rattle.verdict.specs.declared.State.{State}
use Rattle.card.specs.Command.{answer_word, reply_of, image_of}

-- no other channel is open
abbrev pub with : Sets → State
with x = record { sets = x; channels = 0 }

-- the pool that is lent with an image: all 00 where there are bodies, else of no bytes
abbrev pub blank : List ℕ → List ℕ
blank img = cond (has_bodies (version_of img)) (replicate (pool_length img) 0x00) []

-- the word that a command gets that is lent such a pool and no response, and the image that it leaves
abbrev pub word : Sets → List ℕ → List ℕ → ℕ
word x img c = answer_word (reply_of img (blank img) c (with x) 0)

abbrev pub left : Sets → List ℕ → List ℕ → List ℕ
left x img c = image_of img (blank img) c (with x) 0

-- the room of the current directory, and the life cycle of the file in slot s
abbrev pub room : List ℕ → ℕ
room img = room_for (count_of img) (view_at img) (current_df_of img)

abbrev pub life : List ℕ → ℕ → ℕ
life img s = life_cycle_of (rec_at img s)

-- a fresh card of a version and n slots whose root allows everything
abbrev pub card : ℕ → ℕ → ℕ → List ℕ
card v n total = fresh v n total compact (0x7F ∷ 0 ∷ 0 ∷ 0 ∷ 0 ∷ 0 ∷ 0 ∷ 0 ∷ [])

-- CREATE FILE of a transparent EF that allows everything: its identifier, its life cycle, a size under 256
abbrev pub create_file : ℕ → ℕ → ℕ → ℕ → List ℕ
create_file high low l size =
    0x00 ∷ 0xE0 ∷ 0x00 ∷ 0x00 ∷ 0x1B ∷ 0x62 ∷ 0x19 ∷ 0x82 ∷ 0x02 ∷ 0x41 ∷ 0x21 ∷ 0x83 ∷ 0x02 ∷ high ∷ low ∷ 0x8A ∷ 0x01 ∷ l
    ∷ 0x8C ∷ 0x08 ∷ 0x7F ∷ 0 ∷ 0 ∷ 0 ∷ 0 ∷ 0 ∷ 0 ∷ 0 ∷ 0x80 ∷ 0x02 ∷ 0x00 ∷ size ∷ []

-- .. of 6F07, activated
abbrev pub create_ef : ℕ → List ℕ
create_ef size = create_file 0x6F 0x07 0x05 size

-- .. of a DF that allows everything, activated: its identifier, a total under 256
abbrev pub create_df : ℕ → ℕ → ℕ → List ℕ
create_df high low total =
    0x00 ∷ 0xE0 ∷ 0x00 ∷ 0x00 ∷ 0x1E ∷ 0x62 ∷ 0x1C ∷ 0x82 ∷ 0x02 ∷ 0x78 ∷ 0x21 ∷ 0x83 ∷ 0x02 ∷ high ∷ low ∷ 0x8A ∷ 0x01 ∷ 0x05
    ∷ 0x8C ∷ 0x08 ∷ 0x7F ∷ 0 ∷ 0 ∷ 0 ∷ 0 ∷ 0 ∷ 0 ∷ 0 ∷ 0x81 ∷ 0x02 ∷ 0x00 ∷ total ∷ 0xC6 ∷ 0x01 ∷ 0x00 ∷ []

abbrev pub select_file : ℕ → ℕ → List ℕ
select_file high low = 0x00 ∷ 0xA4 ∷ 0x00 ∷ 0x0C ∷ 0x02 ∷ high ∷ low ∷ []

abbrev pub activate_file : List ℕ
activate_file = 0x00 ∷ 0x44 ∷ 0x00 ∷ 0x00 ∷ []

abbrev pub deactivate_file : List ℕ
deactivate_file = 0x00 ∷ 0x04 ∷ 0x00 ∷ 0x00 ∷ []

abbrev pub terminate_ef : List ℕ
terminate_ef = 0x00 ∷ 0xE8 ∷ 0x00 ∷ 0x00 ∷ []

abbrev pub terminate_df : List ℕ
terminate_df = 0x00 ∷ 0xE6 ∷ 0x00 ∷ 0x00 ∷ []

abbrev pub terminate_card : List ℕ
terminate_card = 0x00 ∷ 0xFE ∷ 0x00 ∷ 0x00 ∷ []

-- a card of two slots whose one file, the root, has a life cycle; one of three whose current EF, in slot 1, has it; one of four whose
-- current DF, in slot 1, has it, with room for a file of one byte
abbrev pub root_in : ℕ → ℕ → List ℕ
root_in v l = set_life (card v 2 64) 0 l

abbrev pub ef_in : ℕ → Sets → ℕ → List ℕ
ef_in v x l = set_life (left x (card v 3 128) (create_ef 64)) 1 l

abbrev pub df_in : ℕ → Sets → ℕ → List ℕ
df_in v x l = set_life (left x (card v 4 192) (create_df 0x7F 0x10 65)) 1 l

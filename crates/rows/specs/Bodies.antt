-- File bodies through whole calls (02 Ticket 4), on small cards of version 3, both sides of each line: what CREATE puts into the pool, what
-- READ tells and UPDATE leaves, every refusal, pools of a wrong length, DELETE, and bodies that are moved down. Each statement is proved
-- in proofs/Computed under the same name in small letters. A card is always an argument, so that it is computed once for its rows.
use Rattle.std.specs.Prelude.{ℕ, ◌≡◌, List, [], ◌∷◌, ◌++◌, length, replicate}
use Rattle.laws.specs.Lists.{part, splice}
use Rattle.rules.specs.declared.Sets.{Sets}
use Rattle.image.specs.Layout.{set_life, set_start}
use Rattle.pool.specs.Bodies.{start_at}
use Rattle.create_data.specs.Grammar.{object}
use Rattle.card.specs.Command.{answer_number, answer_word, reply_of, image_of, pool_of, response_of}
use Rattle.rows.specs.Calls.{with, card, create_file, create_ef, select_file, deactivate_file}
use Rattle.rows.specs.Forms.{create_ruled}

-- an image with its pool
pub record Card : Type 0 where
  pub image : List ℕ
  pub pool : List ℕ

-- a fresh one of a version, n slots and a total, its pool 00
abbrev pub fresh_card : ℕ → ℕ → ℕ → Card
fresh_card v n total = record { image = card v n total; pool = replicate total 0x00 }

-- .. after a command that is lent no response
abbrev pub after : Sets → Card → List ℕ → Card
after x k c = record { image = image_of k.image k.pool c (with x) 0; pool = pool_of k.image k.pool c (with x) 0 }

-- answer, word, and the response, of which n bytes of AA were lent
abbrev pub said : Sets → Card → ℕ → List ℕ → List ℕ
said x k n c =
    answer_number (reply_of k.image k.pool c (with x) n) ∷ answer_word (reply_of k.image k.pool c (with x) n)
    ∷ response_of k.image k.pool c (with x) (replicate n 0xAA)

-- the word, and the first five bytes of the pool afterwards
abbrev pub wrote : Sets → Card → List ℕ → List ℕ
wrote x k c = answer_word (reply_of k.image k.pool c (with x) 0) ∷ part (pool_of k.image k.pool c (with x) 0) 0 5

-- a refusal: a body of four FF stays
abbrev pub stayed : ℕ → List ℕ
stayed w = w ∷ 0xFF ∷ 0xFF ∷ 0xFF ∷ 0xFF ∷ 0x00 ∷ []

-- READ and UPDATE BINARY, from a place under 256; READ and UPDATE RECORD; DELETE
abbrev pub read_binary : ℕ → ℕ → List ℕ
read_binary at n = 0x00 ∷ 0xB0 ∷ 0x00 ∷ at ∷ n ∷ []

abbrev pub update_binary : ℕ → List ℕ → List ℕ
update_binary at s = 0x00 ∷ 0xD6 ∷ 0x00 ∷ at ∷ length s ∷ s

abbrev pub read_record : ℕ → ℕ → List ℕ
read_record i n = 0x00 ∷ 0xB2 ∷ i ∷ 0x04 ∷ n ∷ []

abbrev pub update_record : ℕ → List ℕ → List ℕ
update_record i s = 0x00 ∷ 0xDC ∷ i ∷ 0x04 ∷ length s ∷ s

abbrev pub delete_file : ℕ → ℕ → List ℕ
delete_file high low = 0x00 ∷ 0xE4 ∷ 0x00 ∷ 0x00 ∷ 0x02 ∷ high ∷ low ∷ []

-- CREATE FILE of 6F08, linear fixed, two records of two bytes
abbrev pub create_records : List ℕ
create_records =
    0x00 ∷ 0xE0 ∷ 0x00 ∷ 0x00 ∷ 0x1D ∷ 0x62 ∷ 0x1B ∷ 0x82 ∷ 0x04 ∷ 0x42 ∷ 0x21 ∷ 0x00 ∷ 0x02 ∷ 0x83 ∷ 0x02 ∷ 0x6F ∷ 0x08 ∷ 0x8A ∷ 0x01
    ∷ 0x05 ∷ 0x8C ∷ 0x08 ∷ 0x7F ∷ 0 ∷ 0 ∷ 0 ∷ 0 ∷ 0 ∷ 0 ∷ 0 ∷ 0x80 ∷ 0x02 ∷ 0x00 ∷ 0x04 ∷ []

-- a card of a version whose current EF is 6F07, transparent, of four bytes; one of version 3 with 6F08; with 6F07 of one byte and a rule of
-- seven SC bytes, from b7 on
abbrev pub bytes_in : Sets → ℕ → Card
bytes_in x v = after x (fresh_card v 3 128) (create_ef 4)

abbrev pub records_in : Sets → Card
records_in x = after x (fresh_card 3 3 128) create_records

abbrev pub ruled_in : Sets → List ℕ → Card
ruled_in x rule = after x (fresh_card 3 3 128) (create_ruled (object 0x8C (0x7F ∷ rule)))

-- READ BINARY of 6F07
abbrev pub reads : Sets → Card → List (List ℕ)
reads x k =
    -- a new body is all FF; the last byte; one past it; from the end on; Le 00 is 256
    said x k 5 (read_binary 0 4) ∷ said x k 1 (read_binary 3 1) ∷ said x k 2 (read_binary 3 2) ∷ said x k 1 (read_binary 4 1)
    ∷ said x k 4 (read_binary 0 0)
    -- a response that is a byte short; P1 80; a record
    ∷ said x k 3 (read_binary 0 4) ∷ said x k 1 (0x00 ∷ 0xB0 ∷ 0x80 ∷ 0x00 ∷ 0x01 ∷ []) ∷ said x k 4 (read_record 1 4)
    ∷ []

abbrev pub BinaryRead : Type 0
BinaryRead =
    (x : Sets) → reads x (bytes_in x 3)
    ≡ (0 ∷ 0x9000 ∷ 0xFF ∷ 0xFF ∷ 0xFF ∷ 0xFF ∷ 0xAA ∷ []) ∷ (0 ∷ 0x9000 ∷ 0xFF ∷ []) ∷ (0 ∷ 0x6700 ∷ 0xAA ∷ 0xAA ∷ [])
    ∷ (0 ∷ 0x6B00 ∷ 0xAA ∷ []) ∷ (0 ∷ 0x6700 ∷ replicate 4 0xAA)
    ∷ (5 ∷ 0x0000 ∷ replicate 3 0xAA) ∷ (0 ∷ 0x6B00 ∷ 0xAA ∷ []) ∷ (0 ∷ 0x6981 ∷ replicate 4 0xAA)
    ∷ []

-- Le 00 of a body of 256 bytes: from its start on, from its second byte on; and 255 bytes from there on
abbrev pub create_long : List ℕ
create_long = splice (create_ef 0x00) 30 (0x01 ∷ [])

abbrev pub long_reads : Sets → Card → List (List ℕ)
long_reads x k = said x k 256 (read_binary 0 0) ∷ said x k 1 (read_binary 1 0) ∷ said x k 256 (read_binary 1 255) ∷ []

abbrev pub LongRead : Type 0
LongRead =
    (x : Sets) → long_reads x (after x (fresh_card 3 6 320) create_long)
    ≡ (0 ∷ 0x9000 ∷ replicate 256 0xFF) ∷ (0 ∷ 0x6700 ∷ 0xAA ∷ []) ∷ (0 ∷ 0x9000 ∷ (replicate 255 0xFF ++ (0xAA ∷ []))) ∷ []

-- UPDATE BINARY of 6F07, and DELETE
abbrev pub writes : Sets → Card → List (List ℕ)
writes x k =
    -- three bytes; the last byte; one past it; from the end on; a record; the file deleted
    wrote x k (update_binary 1 (0x11 ∷ 0x22 ∷ 0x33 ∷ [])) ∷ wrote x k (update_binary 3 (0x44 ∷ []))
    ∷ wrote x k (update_binary 3 (0x44 ∷ 0x55 ∷ [])) ∷ wrote x k (update_binary 4 (0x44 ∷ []))
    ∷ wrote x k (update_record 1 (replicate 4 0x11))
    ∷ wrote x k (delete_file 0x6F 0x07)
    -- what was written is read
    ∷ said x (after x k (update_binary 1 (0x11 ∷ 0x22 ∷ 0x33 ∷ []))) 4 (read_binary 0 4)
    ∷ []

abbrev pub BinaryWritten : Type 0
BinaryWritten =
    (x : Sets) → writes x (bytes_in x 3)
    ≡ (0x9000 ∷ 0xFF ∷ 0x11 ∷ 0x22 ∷ 0x33 ∷ 0x00 ∷ []) ∷ (0x9000 ∷ 0xFF ∷ 0xFF ∷ 0xFF ∷ 0x44 ∷ 0x00 ∷ [])
    ∷ stayed 0x6700 ∷ stayed 0x6B00 ∷ stayed 0x6981
    ∷ (0x9000 ∷ replicate 5 0x00)
    ∷ (0 ∷ 0x9000 ∷ 0xFF ∷ 0x11 ∷ 0x22 ∷ 0x33 ∷ [])
    ∷ []

-- READ and UPDATE of 6F08
abbrev pub records : Sets → Card → List (List ℕ)
records x k =
    -- record 2 is updated; then 1 and 2 are read
    wrote x k (update_record 2 (0x11 ∷ 0x22 ∷ [])) ∷ said x (after x k (update_record 2 (0x11 ∷ 0x22 ∷ []))) 2 (read_record 1 2)
    ∷ said x (after x k (update_record 2 (0x11 ∷ 0x22 ∷ []))) 2 (read_record 2 2)
    -- no record 0 or 3; a record has neither one byte nor three; no bytes of it all
    ∷ wrote x k (read_record 0 2) ∷ wrote x k (read_record 3 2) ∷ wrote x k (update_record 3 (0x11 ∷ 0x22 ∷ []))
    ∷ wrote x k (read_record 1 1) ∷ wrote x k (read_record 1 3) ∷ wrote x k (update_record 1 (0x11 ∷ []))
    ∷ wrote x k (read_binary 0 2) ∷ wrote x k (update_binary 0 (0x11 ∷ 0x22 ∷ []))
    ∷ []

abbrev pub RecordsTold : Type 0
RecordsTold =
    (x : Sets) → records x (records_in x)
    ≡ (0x9000 ∷ 0xFF ∷ 0xFF ∷ 0x11 ∷ 0x22 ∷ 0x00 ∷ []) ∷ (0 ∷ 0x9000 ∷ 0xFF ∷ 0xFF ∷ []) ∷ (0 ∷ 0x9000 ∷ 0x11 ∷ 0x22 ∷ [])
    ∷ stayed 0x6A83 ∷ stayed 0x6A83 ∷ stayed 0x6A83
    ∷ stayed 0x6700 ∷ stayed 0x6700 ∷ stayed 0x6700
    ∷ stayed 0x6981 ∷ stayed 0x6981
    ∷ []

-- a READ and an UPDATE of four bytes
abbrev pub tried : Sets → Card → List (List ℕ)
tried x k = said x k 4 (read_binary 0 4) ∷ wrote x k (update_binary 0 (replicate 4 0x11)) ∷ []

abbrev pub refused : ℕ → List (List ℕ)
refused w = (0 ∷ w ∷ replicate 4 0xAA) ∷ stayed w ∷ []

-- the same card with another life cycle in slot s
abbrev pub life_in : Card → ℕ → ℕ → Card
life_in k s l = record { image = set_life k.image s l; pool = k.pool }

-- the EF is deactivated, is activated by 07, is initialized only; the DF above is terminated; no EF is current; a card of version 2 does
-- not know the commands, and its pool stays
abbrev pub StatesTried : Type 0
StatesTried =
    (x : Sets)
    → (tried x (after x (bytes_in x 3) deactivate_file) ≡ refused 0x6985)
    × (tried x (life_in (bytes_in x 3) 1 0x07) ≡ (0 ∷ 0x9000 ∷ replicate 4 0xFF) ∷ (0x9000 ∷ (replicate 4 0x11 ++ (0x00 ∷ []))) ∷ [])
    × (tried x (life_in (bytes_in x 3) 1 0x03) ≡ refused 0x6985)
    × (tried x (life_in (bytes_in x 3) 0 0x0C) ≡ refused 0x6985)
    × (tried x (after x (bytes_in x 3) (select_file 0x3F 0x00)) ≡ refused 0x6986)
    × (tried x (bytes_in x 2) ≡ (0 ∷ 0x6D00 ∷ replicate 4 0xAA) ∷ (0x6D00 ∷ replicate 5 0x00) ∷ [])

-- READ and UPDATE of the one byte of 6F07, where the rule never opens b1, and where it never opens b2
abbrev pub by_right : Sets → Card → List (List ℕ)
by_right x k = said x k 1 (read_binary 0 1) ∷ wrote x k (update_binary 0 (0x11 ∷ [])) ∷ []

abbrev pub RightsAsked : Type 0
RightsAsked =
    (x : Sets)
    → (by_right x (ruled_in x (0 ∷ 0 ∷ 0 ∷ 0 ∷ 0 ∷ 0 ∷ 0xFF ∷ [])) ≡ (0 ∷ 0x6982 ∷ 0xAA ∷ []) ∷ (0x9000 ∷ 0x11 ∷ replicate 4 0x00) ∷ [])
    × (by_right x (ruled_in x (0 ∷ 0 ∷ 0 ∷ 0 ∷ 0 ∷ 0xFF ∷ 0 ∷ [])) ≡ (0 ∷ 0x9000 ∷ 0xFF ∷ []) ∷ (0x6982 ∷ 0xFF ∷ replicate 4 0x00) ∷ [])

-- a SELECT that is lent another pool
abbrev pub lent : Sets → Card → List ℕ → List ℕ
lent x k pool = said x (record { image = k.image; pool = pool }) 0 (select_file 0x6F 0x07)

-- of the right length, a byte less, a byte more; damage comes first; a card of version 2 takes any
abbrev pub PoolsLent : Type 0
PoolsLent =
    (x : Sets)
    → (lent x (bytes_in x 3) (replicate 128 0x00) ≡ 0 ∷ 0x9000 ∷ [])
    × (lent x (bytes_in x 3) (replicate 127 0x00) ≡ 6 ∷ 0x0000 ∷ [])
    × (lent x (bytes_in x 3) (replicate 129 0x00) ≡ 6 ∷ 0x0000 ∷ [])
    × (lent x (life_in (bytes_in x 3) 0 0x0D) (replicate 127 0x00) ≡ 1 ∷ 0x0000 ∷ [])
    × (lent x (bytes_in x 2) (replicate 127 0x00) ≡ 0 ∷ 0x9000 ∷ [])

-- CREATE FILE of 6F03, of so many bytes
abbrev pub create_third : ℕ → List ℕ
create_third size = create_file 0x6F 0x03 0x05 size

-- a pool of 261 bytes: 6F01 of 130 bytes was created, then 6F02 of two, and 6F01 deleted. 41 42 lie between gaps of 130 and 129 bytes,
-- and there is room for 131 bytes
abbrev pub gapped : Sets → Card
gapped x =
    after x (after x (after x (after x (fresh_card 3 6 261) (create_file 0x6F 0x01 0x05 130)) (create_file 0x6F 0x02 0x05 2))
    (update_binary 0 (0x41 ∷ 0x42 ∷ []))) (delete_file 0x6F 0x01)

-- where 6F03, in slot 1, and 6F02, in slot 2, start; bytes 0 to 2 and 129 to 133 of the pool
abbrev pub in_two : Card → List ℕ
in_two k = start_at k.image 1 ∷ start_at k.image 2 ∷ (part k.pool 0 3 ++ part k.pool 129 5)

-- the word of CREATE, and that afterwards
abbrev pub moved : Sets → Card → ℕ → List ℕ
moved x k size = answer_word (reply_of k.image k.pool (create_third size) (with x) 0) ∷ in_two (after x k (create_third size))

-- the lowest gap fits; none fits, and 6F02 is moved down; there is no room; what is moved reads the same
abbrev pub moves : Sets → Card → List (List ℕ)
moves x k =
    moved x k 130 ∷ moved x k 131 ∷ moved x k 132
    ∷ said x (after x (after x k (create_third 131)) (select_file 0x6F 0x02)) 2 (read_binary 0 2)
    ∷ []

abbrev pub BodiesMoved : Type 0
BodiesMoved =
    (x : Sets) → moves x (gapped x)
    ≡ (0x9000 ∷ 0 ∷ 130 ∷ 0xFF ∷ 0xFF ∷ 0xFF ∷ 0xFF ∷ 0x41 ∷ 0x42 ∷ 0x00 ∷ 0x00 ∷ [])
    ∷ (0x9000 ∷ 2 ∷ 0 ∷ 0x41 ∷ 0x42 ∷ 0xFF ∷ 0xFF ∷ 0xFF ∷ 0xFF ∷ 0xFF ∷ 0x00 ∷ [])
    ∷ (0x6A84 ∷ 0 ∷ 130 ∷ 0x00 ∷ 0x00 ∷ 0x00 ∷ 0x00 ∷ 0x41 ∷ 0x42 ∷ 0x00 ∷ 0x00 ∷ [])
    ∷ (0 ∷ 0x9000 ∷ 0x41 ∷ 0x42 ∷ [])
    ∷ []

-- a pool of 303 bytes: 6F02, in slot 2, lies below 6F01, in slot 1, with gaps of 100 bytes below, between and above; byte 250 holds 99
abbrev pub spread : Sets → Card
spread x = record {
  image =
      set_start
      (set_start (after x (after x (fresh_card 3 6 303) (create_file 0x6F 0x01 0x05 2)) (create_file 0x6F 0x02 0x05 1)).image 1 201) 2
      100;
  pool = splice (splice (splice (replicate 303 0x00) 100 (0x31 ∷ [])) 201 (0x41 ∷ 0x42 ∷ [])) 250 (0x99 ∷ []);
}

-- where the three start; bytes 0 to 3, 100 to 104, 201, 202 and 250 of the pool
abbrev pub in_three : Card → List ℕ
in_three k =
    start_at k.image 1 ∷ start_at k.image 2 ∷ start_at k.image 3
    ∷ (part k.pool 0 4 ++ (part k.pool 100 5 ++ (part k.pool 201 2 ++ part k.pool 250 1)))

abbrev pub packed : Sets → Card → ℕ → List ℕ
packed x k size = answer_word (reply_of k.image k.pool (create_third size) (with x) 0) ∷ in_three (after x k (create_third size))

abbrev pub packs : Sets → Card → List (List ℕ)
packs x k = packed x k 100 ∷ packed x k 101 ∷ []

-- the lowest gap fits; none fits: in order of start, 6F02 before 6F01; vacated bytes are 00, and those that were in no body stay
abbrev pub BodiesPacked : Type 0
BodiesPacked =
    (x : Sets) → packs x (spread x)
    ≡ (0x9000 ∷ 201 ∷ 100 ∷ 0 ∷ 0xFF ∷ 0xFF ∷ 0xFF ∷ 0xFF ∷ 0x31 ∷ 0x00 ∷ 0x00 ∷ 0x00 ∷ 0x00 ∷ 0x41 ∷ 0x42 ∷ 0x99 ∷ [])
    ∷ (0x9000 ∷ 1 ∷ 0 ∷ 3 ∷ 0x31 ∷ 0x41 ∷ 0x42 ∷ 0xFF ∷ 0xFF ∷ 0xFF ∷ 0xFF ∷ 0xFF ∷ 0x00 ∷ 0x00 ∷ 0x00 ∷ 0x99 ∷ [])
    ∷ []

-- The image, 01 "Image": 16 bytes of header, then N records of 64 bytes. Numbers are big-endian. The image
-- is its list of bytes, a record the part of 64 of them, a field a function of those 64; a write is a splice.
use Rattle.std.specs.Prelude.{◌≡◌, Bool, cond, List, [], ◌∷◌, ◌++◌, ℕ, ◌+◌, ◌*◌, ◌-◌, ◌<◌, ◌≤◌, eqb, ltb, length, get_or, replicate}
use Rattle.laws.specs.Lists.{part, splice}
use Rattle.numbers.specs.Numbers.{u16_at, u32_at, be16, be32}
use Rattle.image.specs.declared.Head.{Head}

-- The header: 0..2 the mark `UFT`; 3 version; 5 slot count N; 7 current DF slot; 9 current EF slot, FFFF for
-- none; 11..15 zero

abbrev pub mark_at : List ℕ → ℕ → ℕ
mark_at img k = get_or img k 0

unfoldable pub version_of : List ℕ → ℕ
version_of img = u16_at img 3

unfoldable pub count_of : List ℕ → ℕ
count_of img = u16_at img 5

unfoldable pub current_df_of : List ℕ → ℕ
current_df_of img = u16_at img 7

unfoldable pub current_ef_of : List ℕ → ℕ
current_ef_of img = u16_at img 9

abbrev pub none : ℕ
none = 0xFFFF

-- The versions (02 Tickets 3, 4 and 7), a line for each: how many of the 30 bytes from 34 of a record on a rule may have, and what follows
-- it to the record's end: as many zeros as are left, or the start of a body; and how many forms of rules there are

unfoldable pub longest_rule : ℕ → ℕ
longest_rule v =
    cond (eqb v 1) 16
    (cond (eqb v 2) 30
    (cond (eqb v 3) 28 0))

abbrev pub zeros_after : ℕ → ℕ
zeros_after v = 30 - longest_rule v

unfoldable pub forms_of : ℕ → ℕ
forms_of v =
    cond (eqb v 1) 1
    (cond (eqb v 2) 2
    (cond (eqb v 3) 3 0))

-- a version is known where it has a form
unfoldable pub known_version : ℕ → Bool
known_version v = ltb 0 (forms_of v)

-- files have bodies (02 Ticket 4)
unfoldable pub has_bodies : ℕ → Bool
has_bodies v = eqb v 3

-- the image has room for exactly n records, 2 to 1,023
pub record Sized (img : List ℕ) (n : ℕ) : Type 0 where
  pub long : length img ≡ 16 + 64 * n
  pub least : 2 ≤ n
  pub most : n ≤ 1023

-- where record s starts
abbrev pub base : ℕ → ℕ
base s = 16 + 64 * s

-- record s is within the image
abbrev pub Within : List ℕ → ℕ → Type 0
Within img s = (base s + 64 ≤ length img) × (s < 1023)

-- the 64 bytes of record s
unfoldable pub rec_at : List ℕ → ℕ → List ℕ
rec_at img s = part img (base s) 64

-- A record: 0 kind (0 free, 1 DF, 2 EF); 1 file descriptor byte; 2 life-cycle byte; 3 the rule's form; 4 identifier;
-- 6 parent slot; 8 level; 10 record length; 12 size; 16 name length, 17..32 name; 33 rule length, from 34 on the rule; zero
-- after it, but for 62, where a version has bodies: the start of an EF's

unfoldable pub kind_of : List ℕ → ℕ
kind_of r = get_or r 0 0

unfoldable pub descriptor_of : List ℕ → ℕ
descriptor_of r = get_or r 1 0

unfoldable pub life_cycle_of : List ℕ → ℕ
life_cycle_of r = get_or r 2 0

unfoldable pub form_of : List ℕ → ℕ
form_of r = get_or r 3 0

unfoldable pub identifier_of : List ℕ → ℕ
identifier_of r = u16_at r 4

unfoldable pub parent_of : List ℕ → ℕ
parent_of r = u16_at r 6

unfoldable pub level_of : List ℕ → ℕ
level_of r = u16_at r 8

unfoldable pub record_length_of : List ℕ → ℕ
record_length_of r = u16_at r 10

unfoldable pub size_of : List ℕ → ℕ
size_of r = u32_at r 12

unfoldable pub start_of : List ℕ → ℕ
start_of r = u16_at r 62

-- a length at n, and so many bytes after it
unfoldable pub field_at : List ℕ → ℕ → List ℕ
field_at r n = part r (n + 1) (get_or r n 0)

unfoldable pub name_of : List ℕ → List ℕ
name_of r = field_at r 16

unfoldable pub rule_of : List ℕ → List ℕ
rule_of r = field_at r 33

-- A whole record, written

-- the first 16 bytes
unfoldable pub head_bytes : Head → List ℕ
head_bytes h =
    (h.kind ∷ h.descriptor ∷ h.life ∷ h.form ∷ [])
    ++ be16 h.identifier ++ be16 h.parent ++ be16 h.level ++ be16 h.record_length ++ be32 h.size

-- a length and so many bytes, zero-padded to `most`
unfoldable pub field : ℕ → List ℕ → List ℕ
field most v = (length v ∷ v) ++ replicate (most - length v) 0

unfoldable pub record_bytes : ℕ → Head → List ℕ → List ℕ → List ℕ
record_bytes v h name rule = head_bytes h ++ field 16 name ++ field (longest_rule v) rule ++ replicate (zeros_after v) 0

-- a free record is all zero
abbrev pub free_bytes : List ℕ
free_bytes = replicate 64 0

-- The writes

-- other bytes for record s
unfoldable pub put_record : List ℕ → ℕ → List ℕ → List ℕ
put_record img s r = splice img (base s) r

-- record s becomes a free one
abbrev pub clear_record : List ℕ → ℕ → List ℕ
clear_record img s = put_record img s free_bytes

-- a record with another life-cycle byte
unfoldable pub with_life : List ℕ → ℕ → List ℕ
with_life r life = splice r 2 (life ∷ [])

-- another life-cycle byte for record s
unfoldable pub set_life : List ℕ → ℕ → ℕ → List ℕ
set_life img s life = splice img (base s + 2) (life ∷ [])

-- a record with another start
unfoldable pub with_start : List ℕ → ℕ → List ℕ
with_start r x = splice r 62 (be16 x)

-- another start for record s
unfoldable pub set_start : List ℕ → ℕ → ℕ → List ℕ
set_start img s x = splice img (base s + 62) (be16 x)

-- another current DF and current EF
unfoldable pub set_current : List ℕ → ℕ → ℕ → List ℕ
set_current img df ef = splice img 7 (be16 df ++ be16 ef)

-- The bytes of a command, and what the steps A to G ask of them (01 "The order in which a command is judged").
use Rattle.std.specs.Prelude.{ℕ, ◌+◌, ◌/◌, ◌%◌, Bool, cond, not, ◌&&◌, ◌||◌, List, length, get_or, eqb, ltb, leb}
use Rattle.numbers.specs.Numbers.{u16_at}
use Rattle.image.specs.Layout.{has_bodies}
use Rattle.verdict.specs.declared.State.{State}

abbrev pub class_byte : List ℕ → ℕ
class_byte c = get_or c 0 0

abbrev pub instruction : List ℕ → ℕ
instruction c = get_or c 1 0

-- P1 P2 as one number
abbrev pub parameters : List ℕ → ℕ
parameters c = u16_at c 2

abbrev pub lc : List ℕ → ℕ
lc c = get_or c 4 0

-- the identifier that SELECT and DELETE send
abbrev pub sent_identifier : List ℕ → ℕ
sent_identifier c = u16_at c 5

abbrev pub select_file : ℕ
select_file = 0xA4

abbrev pub create_file : ℕ
create_file = 0xE0

abbrev pub delete_file : ℕ
delete_file = 0xE4

abbrev pub activate_file : ℕ
activate_file = 0x44

abbrev pub deactivate_file : ℕ
deactivate_file = 0x04

abbrev pub terminate_ef : ℕ
terminate_ef = 0xE8

abbrev pub terminate_df : ℕ
terminate_df = 0xE6

abbrev pub terminate_card : ℕ
terminate_card = 0xFE

-- the commands on bodies (02 Ticket 4)
abbrev pub read_binary : ℕ
read_binary = 0xB0

abbrev pub update_binary : ℕ
update_binary = 0xD6

abbrev pub read_record : ℕ
read_record = 0xB2

abbrev pub update_record : ℕ
update_record = 0xDC

unfoldable pub is_binary : ℕ → Bool
is_binary i = eqb i read_binary || eqb i update_binary

unfoldable pub is_record : ℕ → Bool
is_record i = eqb i read_record || eqb i update_record

unfoldable pub is_read : ℕ → Bool
is_read i = eqb i read_binary || eqb i read_record

unfoldable pub is_update : ℕ → Bool
is_update i = eqb i update_binary || eqb i update_record

unfoldable pub is_body : ℕ → Bool
is_body i = is_binary i || is_record i

unfoldable pub is_terminate : ℕ → Bool
is_terminate i = eqb i terminate_ef || (eqb i terminate_df || eqb i terminate_card)

-- an instruction of 01
unfoldable pub is_old : ℕ → Bool
is_old i =
    eqb i select_file
    || (eqb i create_file
    || (eqb i delete_file
    || (eqb i activate_file
    || (eqb i deactivate_file
    || is_terminate i))))

-- an instruction that a card of a version has
unfoldable pub is_known : ℕ → ℕ → Bool
is_known v i = is_old i || (has_bodies v && is_body i)

-- CREATE, DELETE, TERMINATE are refused while another channel is open
unfoldable pub wants_alone : ℕ → Bool
wants_alone i = eqb i create_file || (eqb i delete_file || is_terminate i)

-- of the byte of open channels only bits 1-3 count
unfoldable pub other_channel : State → Bool
other_channel st = not (eqb (st.channels / 2 % 8) 0)

unfoldable pub crowded : ℕ → State → Bool
crowded i st = wants_alone i && other_channel st

-- SELECT's P2: 0C for no data, 04 for the template of the file
unfoldable pub wants_template : List ℕ → Bool
wants_template c = eqb (get_or c 3 0) 0x04

-- P1 P2 are 00 00, of SELECT 00 0C or 00 04, of READ and UPDATE BINARY a start under 8000; READ and UPDATE RECORD have P2 04
unfoldable pub good_parameters : ℕ → ℕ → Bool
good_parameters i p =
    cond (eqb i select_file) (eqb p 0x000C || eqb p 0x0004)
    (cond (is_binary i) (ltb p 0x8000)
    (cond (is_record i) (eqb (p % 256) 0x04)
    (eqb p 0x0000)))

unfoldable pub fit_parameters : List ℕ → Bool
fit_parameters c = good_parameters (instruction c) (parameters c)

-- 5+Lc bytes with Lc at least 1; 7 bytes with Lc 2
unfoldable pub has_data : List ℕ → Bool
has_data c = leb 6 (length c) && eqb (length c) (5 + lc c)

unfoldable pub is_seven : List ℕ → Bool
is_seven c = eqb (length c) 7 && eqb (lc c) 2

-- 8 bytes with Lc 2 and Le 00
unfoldable pub is_eight : List ℕ → Bool
is_eight c = eqb (length c) 8 && (eqb (lc c) 2 && eqb (get_or c 7 0) 0x00)

-- 5 bytes, the last of which is Le
unfoldable pub is_five : List ℕ → Bool
is_five c = eqb (length c) 5

-- CREATE and UPDATE 5+Lc with Lc at least 1; READ 5; SELECT 8 with Lc 2 and Le 00 where P2 is 04, else 7 with Lc 2; DELETE 7 with Lc 2;
-- others 4
unfoldable pub fit_length : List ℕ → Bool
fit_length c =
    cond (eqb (instruction c) create_file) (has_data c)
    (cond (is_update (instruction c)) (has_data c)
    (cond (is_read (instruction c)) (is_five c)
    (cond (eqb (instruction c) select_file) (cond (wants_template c) (is_eight c) (is_seven c))
    (cond (eqb (instruction c) delete_file) (is_seven c)
    (eqb (length c) 4)))))

-- P1: the record that READ and UPDATE RECORD are about
abbrev pub record_number : List ℕ → ℕ
record_number c = get_or c 2 0

-- how many bytes of a body the command is about: a READ's Le, 00 being 256, an UPDATE's Lc
unfoldable pub asked : List ℕ → ℕ
asked c = cond (is_read (instruction c)) (cond (eqb (lc c) 0) 256 (lc c)) (lc c)

-- CLA 01-03
unfoldable pub on_other_channel : ℕ → Bool
on_other_channel class = leb 1 class && leb class 3

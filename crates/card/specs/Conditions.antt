-- What each command asks, in 01's order, each condition beside the word of its failure (01 "The order in which a command is
-- judged" and the commands' paragraphs). The words, instructions and lengths are 01's own numbers, and a condition is a
-- sentence about the bytes of the command and the records of the image: nothing here rests on the tests that judging makes. `lent` is
-- how many bytes the response has.
use Rattle.std.specs.Prelude.{◌≡◌, true, cond, List, [], ◌∷◌, ◌⊎◌, ℕ, ◌+◌, ◌*◌, ◌-◌, ◌/◌, ◌%◌, ◌<◌, ◌≤◌, eqb, length, get_or, is_some}
use Rattle.laws.specs.Lists.{part}
use Rattle.rules.specs.declared.Right.{Right}
use Rattle.rules.specs.declared.Right.TheVariants.{DeleteSelf, Terminate, Activate, Deactivate, DeleteChild}
use Rattle.rules.specs.declared.Right.TheVariants.{Read as ReadBody, Update as UpdateBody}
use Rattle.rules.specs.Descriptor.{structure_of}
use Rattle.rules.specs.Life.{life_of, creation, initialisation, activated, deactivated, terminated}
use Rattle.image.specs.Layout.{version_of, count_of, current_df_of, current_ef_of, none, rec_at, descriptor_of, record_length_of, size_of}
use Rattle.pool.specs.Bodies.{start_at}
use Rattle.create_data.specs.declared.Data.{Data}
use Rattle.std.specs.Prelude.{Option}
use Rattle.sound.specs.Table.{File, view_at, up}
use Rattle.sound.specs.Kinship.{child_named, room_for}
use Rattle.create_data.specs.Data.{data_of}
use Rattle.create_data.specs.Grammar.{DfData, EfData}
use Rattle.verdict.specs.declared.State.{State}
use Rattle.verdict.specs.Applied.{sent_data}
use Rattle.judge_target.specs.Target.{current_file, life_at, allowed_at, slot_in, selected, right_for, new_identifier, new_name}
use Rattle.judge_target.specs.Target.{new_size}
use Rattle.apdu.specs.Apdu.{class_byte, lc, sent_identifier}
use Rattle.fcp.specs.Template.{template_of}

pub record Ask : Type 1 where
  pub condition : Type 0
  pub word : ℕ

abbrev pub ask : Type 0 → ℕ → Ask
ask condition word = record { condition = condition; word = word }

-- every condition holds
abbrev pub Met : List Ask → Type 0
Met [] = Unit {0}
Met (a ∷ rest) = a.condition × Met rest

-- w is the word of the first that fails
abbrev pub Refused : List Ask → ℕ → Type 0
Refused [] w = ⊥
Refused (a ∷ rest) w = ((a.condition → ⊥) × (w ≡ a.word)) ⊎ (a.condition × Refused rest w)

-- neither the file in slot s nor a directory above it is terminated
abbrev pub NoneTerminated : List ℕ → ℕ → Type 0
NoneTerminated img s = (k : ℕ) → k ≤ (view_at img s).level → life_of (life_at img (up (view_at img) k s)) ≡ terminated → ⊥

-- A to D, for an instruction of 01's list; C is for every other
abbrev pub known_asks : List ℕ → List ℕ → List Ask → List Ask
known_asks img c rest =
    ask (4 ≤ length c) 0x6700  -- A
    ∷ ask ((1 ≤ class_byte c) × (class_byte c ≤ 3) → ⊥) 0x6985  -- B
    ∷ ask (class_byte c ≡ 0x00) 0x6E00
    ∷ ask (life_of (life_at img 0) ≡ terminated → ⊥) 0x6985  -- D
    ∷ rest

abbrev pub unknown_asks : List ℕ → List Ask
unknown_asks c =
    ask (4 ≤ length c) 0x6700  -- A
    ∷ ask ((1 ≤ class_byte c) × (class_byte c ≤ 3) → ⊥) 0x6985  -- B
    ∷ ask (class_byte c ≡ 0x00) 0x6E00
    ∷ ask ⊥ 0x6D00  -- C
    ∷ []

-- E: no other channel is open, by bits 1-3; F: P1 P2; G: the length of a command that has no data
abbrev pub alone : State → Ask
alone st = ask (st.channels / 2 % 8 ≡ 0) 0x6985

abbrev pub parameters_are : List ℕ → ℕ → ℕ → Ask
parameters_are c p1 p2 = ask ((get_or c 2 0 ≡ p1) × (get_or c 3 0 ≡ p2)) 0x6B00

abbrev pub four_bytes : List ℕ → Ask
four_bytes c = ask (length c ≡ 4) 0x6700

-- SELECT's P2 asks for the template of the file
abbrev pub AsksTemplate : List ℕ → Type 0
AsksTemplate c = get_or c 3 0 ≡ 0x04

-- with it SELECT has 8 bytes, Lc 2 and Le 00; without it 7, Lc 2
abbrev pub SelectLong : List ℕ → Type 0
SelectLong c =
    (AsksTemplate c × ((length c ≡ 8) × ((lc c ≡ 2) × (get_or c 7 0 ≡ 0x00))))
    ⊎ ((AsksTemplate c → ⊥) × ((length c ≡ 7) × (lc c ≡ 2)))

-- the file that SELECT finds
abbrev pub found : List ℕ → List ℕ → ℕ
found img c = slot_in (selected img (count_of img) (current_df_of img) (sent_identifier c))

abbrev pub select_asks : List ℕ → List ℕ → ℕ → List Ask
select_asks img c lent =
    known_asks img c
    (ask ((get_or c 2 0 ≡ 0x00) × ((get_or c 3 0 ≡ 0x0C) ⊎ AsksTemplate c)) 0x6B00  -- F
    ∷ ask (SelectLong c) 0x6700  -- G
    ∷ ask (is_some (selected img (count_of img) (current_df_of img) (sent_identifier c)) ≡ true) 0x6A82  -- I
    ∷ ask (AsksTemplate c → length (template_of (rec_at img (found img c))) ≤ lent) 0x0000  -- answer 5
    ∷ [])

-- no file of directory d has identifier i, nor has d, nor a directory above it
abbrev pub FreeIdentifier : List ℕ → ℕ → ℕ → Type 0
FreeIdentifier img d i =
    ((s : ℕ) → s < count_of img → File (view_at img) s → (view_at img s).parent ≡ d → (view_at img s).identifier ≡ i → ⊥)
    × ((k : ℕ) → k ≤ (view_at img d).level → (view_at img (up (view_at img) k d)).identifier ≡ i → ⊥)

-- no file of the card has that name, if it is one
abbrev pub FreeName : List ℕ → List ℕ → Type 0
FreeName img name = (name ≡ [] → ⊥) → (s : ℕ) → s < count_of img → (view_at img s).name ≡ name → ⊥

-- the new file that CREATE's data describe, as a card of this version reads them
abbrev pub new_of : List ℕ → List ℕ → Option Data
new_of img c = data_of (version_of img) (sent_data c)

abbrev pub create_asks : List ℕ → List ℕ → List ℕ → State → List Ask
create_asks img pool c st =
    known_asks img c
    (alone st  -- E
    ∷ parameters_are c 0x00 0x00  -- F
    ∷ ask ((1 ≤ lc c) × (length c ≡ 5 + lc c)) 0x6700  -- G
    ∷ ask (DfData (version_of img) (sent_data c) ⊎ EfData (version_of img) (sent_data c)) 0x6A80  -- H
    ∷ ask (allowed_at img pool (current_df_of img) (right_for (new_of img c)) st.sets ≡ true) 0x6982  -- J
    ∷ ask ((life_of (life_at img (current_df_of img)) ≡ deactivated → ⊥) × NoneTerminated img (current_df_of img)) 0x6985  -- K
    ∷ ask (FreeIdentifier img (current_df_of img) (new_identifier (new_of img c))) 0x6A89  -- L
    ∷ ask (FreeName img (new_name (sent_data c) (new_of img c))) 0x6A8A
    ∷ ask (new_size (new_of img c) + 64 ≤ room_for (count_of img) (view_at img) (current_df_of img)) 0x6A84
    ∷ [])

-- the child of the current DF that DELETE names
abbrev pub named_child : List ℕ → List ℕ → ℕ
named_child img c = slot_in (child_named (count_of img) (view_at img) (current_df_of img) (sent_identifier c))

abbrev pub delete_asks : List ℕ → List ℕ → List ℕ → State → List Ask
delete_asks img pool c st =
    known_asks img c
    (alone st  -- E
    ∷ parameters_are c 0x00 0x00  -- F
    ∷ ask ((length c ≡ 7) × (lc c ≡ 2)) 0x6700  -- G
    ∷ ask (is_some (child_named (count_of img) (view_at img) (current_df_of img) (sent_identifier c)) ≡ true) 0x6A82  -- I
    ∷ ask ((allowed_at img pool (named_child img c) DeleteSelf st.sets ≡ true)
    ⊎ (allowed_at img pool (current_df_of img) DeleteChild st.sets ≡ true)) 0x6982  -- J
    ∷ [])

abbrev pub activate_asks : List ℕ → List ℕ → List ℕ → State → List Ask
activate_asks img pool c st =
    known_asks img c
    (parameters_are c 0x00 0x00  -- F
    ∷ four_bytes c  -- G
    ∷ ask (allowed_at img pool (current_file img) Activate st.sets ≡ true) 0x6982  -- J
    ∷ ask (NoneTerminated img (current_file img)) 0x6985  -- K
    ∷ ask ((life_of (life_at img (current_file img)) ≡ creation)
    ⊎ ((life_of (life_at img (current_file img)) ≡ initialisation) ⊎ (life_of (life_at img (current_file img)) ≡ deactivated))) 0x6985
    ∷ [])

abbrev pub deactivate_asks : List ℕ → List ℕ → List ℕ → State → List Ask
deactivate_asks img pool c st =
    known_asks img c
    (parameters_are c 0x00 0x00  -- F
    ∷ four_bytes c  -- G
    ∷ ask (allowed_at img pool (current_file img) Deactivate st.sets ≡ true) 0x6982  -- J
    ∷ ask (NoneTerminated img (current_file img)) 0x6985  -- K
    ∷ ask (life_of (life_at img (current_file img)) ≡ activated) 0x6985
    ∷ [])

abbrev pub terminate_ef_asks : List ℕ → List ℕ → List ℕ → State → List Ask
terminate_ef_asks img pool c st =
    known_asks img c
    (alone st  -- E
    ∷ parameters_are c 0x00 0x00  -- F
    ∷ four_bytes c  -- G
    ∷ ask (current_ef_of img ≡ none → ⊥) 0x6986  -- I
    ∷ ask (allowed_at img pool (current_ef_of img) Terminate st.sets ≡ true) 0x6982  -- J
    ∷ ask (NoneTerminated img (current_ef_of img)) 0x6985  -- K
    ∷ [])

abbrev pub terminate_df_asks : List ℕ → List ℕ → List ℕ → State → List Ask
terminate_df_asks img pool c st =
    known_asks img c
    (alone st  -- E
    ∷ parameters_are c 0x00 0x00  -- F
    ∷ four_bytes c  -- G
    ∷ ask (allowed_at img pool (current_df_of img) Terminate st.sets ≡ true) 0x6982  -- J
    ∷ ask (current_df_of img ≡ 0 → ⊥) 0x6985  -- K
    ∷ ask (NoneTerminated img (current_df_of img)) 0x6985
    ∷ [])

abbrev pub terminate_card_asks : List ℕ → List ℕ → List ℕ → State → List Ask
terminate_card_asks img pool c st =
    known_asks img c
    (alone st  -- E
    ∷ parameters_are c 0x00 0x00  -- F
    ∷ four_bytes c  -- G
    ∷ ask (allowed_at img pool 0 Terminate st.sets ≡ true) 0x6982  -- J
    ∷ [])

-- READ and UPDATE (02 Ticket 4) are about the current EF: its record
abbrev pub current_ef : List ℕ → List ℕ
current_ef img = rec_at img (current_ef_of img)

-- I, J and K of all four: there is one, its rule's b1 or b2 grants it, it is activated and nothing above it is terminated
abbrev pub body_asks : List ℕ → List ℕ → State → Right → List Ask → List Ask
body_asks img pool st right rest =
    ask (current_ef_of img ≡ none → ⊥) 0x6986  -- I
    ∷ ask (allowed_at img pool (current_ef_of img) right st.sets ≡ true) 0x6982  -- J
    ∷ ask (life_of (life_at img (current_ef_of img)) ≡ activated) 0x6985  -- K
    ∷ ask (NoneTerminated img (current_ef_of img)) 0x6985
    ∷ rest

-- the start that P1 P2 give; P2, the lower half of the two; the number that Le gives, 00 being 256
abbrev pub start_in : List ℕ → ℕ
start_in c = get_or c 2 0 * 256 + get_or c 3 0

abbrev pub second_in : List ℕ → ℕ
second_in c = start_in c % 256

abbrev pub le : List ℕ → ℕ
le c = cond (eqb (get_or c 4 0) 0x00) 256 (get_or c 4 0)

-- n bytes of a transparent EF from its byte k on
abbrev pub binary_asks : List ℕ → ℕ → ℕ → List Ask → List Ask
binary_asks img k n rest =
    ask (structure_of (descriptor_of (current_ef img)) ≡ 1) 0x6981
    ∷ ask (k < size_of (current_ef img)) 0x6B00
    ∷ ask (k + n ≤ size_of (current_ef img)) 0x6700
    ∷ rest

-- record number i, of n bytes, of a linear fixed or a cyclic EF
abbrev pub record_asks : List ℕ → ℕ → ℕ → List Ask → List Ask
record_asks img i n rest =
    ask ((structure_of (descriptor_of (current_ef img)) ≡ 2) ⊎ (structure_of (descriptor_of (current_ef img)) ≡ 6)) 0x6981
    ∷ ask ((1 ≤ i) × (i * record_length_of (current_ef img) ≤ size_of (current_ef img))) 0x6A83
    ∷ ask (n ≡ record_length_of (current_ef img)) 0x6700
    ∷ rest

-- so many bytes of the body of the current EF, from its byte k on
abbrev pub reading : List ℕ → List ℕ → ℕ → ℕ → List ℕ
reading img pool k n = part pool (start_at img (current_ef_of img) + k) n

-- where record number i begins
abbrev pub record_at : List ℕ → ℕ → ℕ
record_at img i = (i - 1) * record_length_of (current_ef img)

-- what stands at the end of a READ: the response holds the data
abbrev pub fits_response : List ℕ → ℕ → List Ask
fits_response answer lent = ask (length answer ≤ lent) 0x0000 ∷ []  -- answer 5

abbrev pub read_binary_asks : List ℕ → List ℕ → List ℕ → State → ℕ → List Ask
read_binary_asks img pool c st lent =
    known_asks img c
    (ask (start_in c < 0x8000) 0x6B00  -- F
    ∷ ask (length c ≡ 5) 0x6700  -- G
    ∷ body_asks img pool st ReadBody (binary_asks img (start_in c) (le c) (fits_response (reading img pool (start_in c) (le c)) lent)))

abbrev pub update_binary_asks : List ℕ → List ℕ → List ℕ → State → List Ask
update_binary_asks img pool c st =
    known_asks img c
    (ask (start_in c < 0x8000) 0x6B00  -- F
    ∷ ask ((1 ≤ lc c) × (length c ≡ 5 + lc c)) 0x6700  -- G
    ∷ body_asks img pool st UpdateBody (binary_asks img (start_in c) (lc c) []))

abbrev pub read_record_asks : List ℕ → List ℕ → List ℕ → State → ℕ → List Ask
read_record_asks img pool c st lent =
    known_asks img c
    (ask (second_in c ≡ 0x04) 0x6B00  -- F
    ∷ ask (length c ≡ 5) 0x6700  -- G
    ∷ body_asks img pool st ReadBody
    (record_asks img (get_or c 2 0) (le c) (fits_response (reading img pool (record_at img (get_or c 2 0)) (le c)) lent)))

abbrev pub update_record_asks : List ℕ → List ℕ → List ℕ → State → List Ask
update_record_asks img pool c st =
    known_asks img c
    (ask (second_in c ≡ 0x04) 0x6B00  -- F
    ∷ ask ((1 ≤ lc c) × (length c ≡ 5 + lc c)) 0x6700  -- G
    ∷ body_asks img pool st UpdateBody (record_asks img (get_or c 2 0) (lc c) []))

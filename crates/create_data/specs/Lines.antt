-- Both sides of a line, on whole templates: row W9 of 01 (record length 10: size 20 good, 25 bad; length 1: 254
-- good, 255 bad), the two templates of 01's replay, and an 82 whose second byte isn't 21, which 01 has seen
-- others refuse; then rules of every form (02 Tickets 3 and 7), the same data on cards of each version.
use Rattle.std.specs.Prelude.{ℕ, zero, suc, ◌≡◌, refl, List, [], ◌∷◌, ◌++◌, Option, Some, None}
use Rattle.laws.specs.Lists.{part}
use Rattle.numbers.specs.Numbers.{u16_at, u32_at}
use Rattle.rules.specs.Descriptor.{class_of, has_records}
use Rattle.rules.specs.Life.{life_of, known_life, new_life}
use Rattle.rules.specs.Group.{next_of, some_group}
use Rattle.rules.specs.Rule.{malformed_at, compact_formed}
use Rattle.rules.specs.Value.{good_identifier, whole_records, good_length}
use Rattle.laws.specs.Tests.{either}
use Rattle.expanded.specs.Object.{objects_from, objects_of as expanded_objects, every, several}
use Rattle.expanded.specs.Condition.{formed_plain, is_template as is_nesting, formed}
use Rattle.expanded.specs.Expanded.{is_am, in_place, goes_on, expanded_formed}
use Rattle.image.specs.Layout.{longest_rule, forms_of}
use Rattle.access.specs.Access.{compact, expanded, referred, well_formed, fits_record}
use Rattle.create_data.specs.declared.NewFile.{NewFile}
use Rattle.create_data.specs.declared.Data.{Data}
use Rattle.create_data.specs.declared.Data.TheVariants.{Df, Ef}
use Rattle.template.specs.Objects.{object_at, taken_at, taken_below, objects_of}
use Rattle.create_data.specs.Form.{lacks, has, one_private, one_rule, rule_in, form_in, df_form, first_form, ef_form}
use Rattle.template.specs.Values.{pair_of, record_length_of, number_of, fits_name}
use Rattle.create_data.specs.Data.{is_template, name_good, rule_good, both_good, new_file, df_of, sized_ef, ef_of, file_of, data_of}
use Rattle.create_data.specs.Grammar.{object, template}

-- a linear fixed EF, with this second byte of 82, record length and size
abbrev pub linear : ℕ → ℕ → ℕ → List ℕ
linear second length size =
    0x62 ∷ 0x15 ∷ 0x82 ∷ 0x04 ∷ 0x42 ∷ second ∷ 0x00 ∷ length ∷ 0x83 ∷ 0x02 ∷ 0x6F ∷ 0x07 ∷ 0x8A ∷ 0x01 ∷ 0x05
    ∷ 0x8C ∷ 0x02 ∷ 0x01 ∷ 0x00 ∷ 0x80 ∷ 0x02 ∷ 0x00 ∷ size ∷ []

-- the replay's DF: 7F10, total 0100
abbrev pub replay_df : List ℕ
replay_df =
    0x62 ∷ 0x17 ∷ 0x82 ∷ 0x02 ∷ 0x78 ∷ 0x21 ∷ 0x83 ∷ 0x02 ∷ 0x7F ∷ 0x10 ∷ 0x8A ∷ 0x01 ∷ 0x05 ∷ 0x8C ∷ 0x03
    ∷ 0x06 ∷ 0x00 ∷ 0x00 ∷ 0x81 ∷ 0x02 ∷ 0x01 ∷ 0x00 ∷ 0xC6 ∷ 0x01 ∷ 0x00 ∷ []

-- the replay's EF: 6F07, size 9
abbrev pub replay_ef : List ℕ
replay_ef =
    0x62 ∷ 0x13 ∷ 0x82 ∷ 0x02 ∷ 0x41 ∷ 0x21 ∷ 0x83 ∷ 0x02 ∷ 0x6F ∷ 0x07 ∷ 0x8A ∷ 0x01 ∷ 0x05 ∷ 0x8C ∷ 0x02
    ∷ 0x01 ∷ 0x00 ∷ 0x80 ∷ 0x02 ∷ 0x00 ∷ 0x09 ∷ []

-- what a card of a version reads
abbrev pub answers : ℕ → List (List ℕ) → List (Option Data)
answers v [] = []
answers v (t ∷ ts) = data_of v t ∷ answers v ts

-- what is sent
abbrev pub sent : List (List ℕ)
sent =
    -- W9
    linear 0x21 10 20 ∷ linear 0x21 10 25 ∷ linear 0x21 1 254 ∷ linear 0x21 1 255
    -- a second byte of 82 that isn't 21; size 0
    ∷ linear 0x00 10 20 ∷ linear 0x21 10 0
    -- the replay's templates; a byte after one of them
    ∷ replay_df ∷ replay_ef ∷ (replay_ef ++ (0x00 ∷ []))
    ∷ []

-- what is read: a file with no name
abbrev pub file : ℕ → ℕ → ℕ → ℕ → ℕ → ℕ → ℕ → NewFile
file descriptor identifier form length from to size = record {
  descriptor = descriptor;
  identifier = identifier;
  life = 0x05;
  form = form;
  record_length = length;
  size = size;
  name = record { start = 0; end = 0 };
  rule = record { start = from; end = to };
}

abbrev pub readings : List (Option Data)
readings =
    Some (Ef (file 0x42 0x6F07 compact 10 17 19 20)) ∷ None ∷ Some (Ef (file 0x42 0x6F07 compact 1 17 19 254)) ∷ None
    ∷ Some (Ef (file 0x42 0x6F07 compact 10 17 19 20)) ∷ None
    ∷ Some (Df (file 0x78 0x7F10 compact 0 15 18 0x0100)) ∷ Some (Ef (file 0x41 0x6F07 compact 0 15 17 9)) ∷ None
    ∷ []

pub lines : answers 1 sent ≡ readings
unfolding data_of is_template file_of df_of ef_of sized_ef new_file rule_good both_good name_good lacks has one_private one_rule rule_in
    form_in df_form first_form ef_form pair_of record_length_of number_of fits_name object_at taken_at taken_below objects_of part u16_at
    u32_at class_of has_records life_of known_life new_life next_of some_group malformed_at compact_formed longest_rule forms_of
    well_formed fits_record good_identifier whole_records good_length either
lines = refl

-- the replay's EF with these objects in the place of its rule
abbrev pub ruled_by : List ℕ → List ℕ
ruled_by objects =
    template
    (object 0x82 (0x41 ∷ 0x21 ∷ []) ++ (object 0x83 (0x6F ∷ 0x07 ∷ []) ++ (object 0x8A (0x05 ∷ []) ++ (objects
    ++ object 0x80 (0x00 ∷ 0x09 ∷ [])))))

-- an expanded rule of 5 bytes; compact ones of 16 and 17, each condition always
abbrev pub always : List ℕ
always = 0x80 ∷ 0x01 ∷ 0x01 ∷ 0x90 ∷ 0x00 ∷ []

abbrev pub groups : ℕ → List ℕ → List ℕ
groups zero rest = rest
groups (suc n) rest = 0x01 ∷ 0x00 ∷ groups n rest

-- so many SC_DOs with user authentication 1
abbrev pub users : ℕ → List ℕ → List ℕ
users zero rest = rest
users (suc n) rest = 0x9E ∷ 0x01 ∷ 0x11 ∷ users n rest

-- what is sent to a card of each version
abbrev pub ruled_sent : List (List ℕ)
ruled_sent =
    -- AB; AB with a malformed rule
    ruled_by (object 0xAB always) ∷ ruled_by (object 0xAB (0x80 ∷ 0x01 ∷ 0x01 ∷ []))
    -- 8C and AB; neither
    ∷ ruled_by (object 0x8C (0x01 ∷ 0x00 ∷ []) ++ object 0xAB always) ∷ ruled_by []
    -- 8C of 16 bytes and of 17
    ∷ ruled_by (object 0x8C (groups 8 [])) ∷ ruled_by (object 0x8C (groups 7 (0x03 ∷ 0x00 ∷ 0x00 ∷ [])))
    -- 8C of 30 bytes and of 31; AB of 30 bytes and of 31
    ∷ ruled_by (object 0x8C (groups 15 [])) ∷ ruled_by (object 0x8C (groups 14 (0x03 ∷ 0x00 ∷ 0x00 ∷ [])))
    ∷ ruled_by (object 0xAB (0x80 ∷ 0x01 ∷ 0x01 ∷ users 9 []))
    ∷ ruled_by (object 0xAB (0x80 ∷ 0x01 ∷ 0x01 ∷ users 8 (0x90 ∷ 0 ∷ 0x90 ∷ 0 ∷ [])))
    ∷ []

-- the rule's form and its end
abbrev pub ruled_file : ℕ → ℕ → Option Data
ruled_file form end = Some (Ef (file 0x41 0x6F07 form 0 15 end 9))

pub rule-lines :
    (answers 1 ruled_sent ≡ None ∷ None ∷ None ∷ None ∷ ruled_file compact 31 ∷ None ∷ None ∷ None ∷ None ∷ None ∷ [])
    × (answers 2 ruled_sent
    ≡ ruled_file expanded 20 ∷ None ∷ None ∷ None ∷ ruled_file compact 31 ∷ ruled_file compact 32 ∷ ruled_file compact 45 ∷ None
    ∷ ruled_file expanded 45
    ∷ None ∷ [])
unfolding data_of is_template file_of ef_of sized_ef new_file rule_good both_good lacks has one_private one_rule rule_in form_in
    first_form ef_form pair_of record_length_of number_of object_at taken_at taken_below objects_of part u16_at u32_at class_of
    has_records life_of known_life new_life next_of some_group malformed_at compact_formed longest_rule forms_of well_formed fits_record
    good_identifier whole_records good_length either objects_from expanded_objects every several formed_plain is_nesting formed is_am
    in_place goes_on expanded_formed
rule-lines = (refl, refl)

-- a reference: record 1 of 6F06
abbrev pub reference : List ℕ
reference = 0x6F ∷ 0x06 ∷ 0x01 ∷ []

abbrev pub referred_sent : List (List ℕ)
referred_sent =
    -- 8B of three bytes, of two, of four; of three that no file can have
    ruled_by (object 0x8B reference) ∷ ruled_by (object 0x8B (0x6F ∷ 0x06 ∷ [])) ∷ ruled_by (object 0x8B (0x6F ∷ 0x06 ∷ 0x01 ∷ 0x01 ∷ []))
    ∷ ruled_by (object 0x8B (0xFF ∷ 0xFF ∷ 0x00 ∷ []))
    -- 8C and 8B; AB and 8B; all three; 8B before AB; 8B twice
    ∷ ruled_by (object 0x8C (0x01 ∷ 0x00 ∷ []) ++ object 0x8B reference) ∷ ruled_by (object 0xAB always ++ object 0x8B reference)
    ∷ ruled_by (object 0x8C (0x01 ∷ 0x00 ∷ []) ++ (object 0xAB always ++ object 0x8B reference))
    ∷ ruled_by (object 0x8B reference ++ object 0xAB always) ∷ ruled_by (object 0x8B reference ++ object 0x8B reference)
    -- AB alone
    ∷ ruled_by (object 0xAB always)
    ∷ []

pub referred-lines :
    (answers 1 referred_sent ≡ None ∷ None ∷ None ∷ None ∷ None ∷ None ∷ None ∷ None ∷ None ∷ None ∷ [])
    × (answers 2 referred_sent ≡ None ∷ None ∷ None ∷ None ∷ None ∷ None ∷ None ∷ None ∷ None ∷ ruled_file expanded 20 ∷ [])
    × (answers 3 referred_sent
    ≡ ruled_file referred 18 ∷ None ∷ None ∷ ruled_file referred 18 ∷ None ∷ None ∷ None ∷ None ∷ None ∷ ruled_file expanded 20 ∷ [])
unfolding data_of is_template file_of ef_of sized_ef new_file rule_good both_good lacks has one_private one_rule rule_in form_in
    first_form ef_form pair_of record_length_of number_of object_at taken_at taken_below objects_of part u16_at u32_at class_of
    has_records life_of known_life new_life next_of some_group malformed_at compact_formed longest_rule forms_of well_formed fits_record
    good_identifier whole_records good_length either objects_from expanded_objects every several formed_plain is_nesting formed is_am
    in_place goes_on expanded_formed
referred-lines = (refl, refl, refl)

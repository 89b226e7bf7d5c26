-- CREATE's data as 01 writes them ("CREATE", data): which bytes are good, and what they say. A grammar, with no word
-- of how it is read. The statements at the end hold the reader, `data_of`, to it: it takes exactly these data, and reads
-- their values, on every card that takes them the same.
use Rattle.std.specs.Prelude.{ℕ, ◌+◌, ◌*◌, ◌<◌, ◌≤◌, ◌≡◌, true, List, [], ◌∷◌, ◌++◌, ◌↔◌, ◌⊎◌, length, drop}
use Rattle.std.specs.Prelude.{Option, Some, None}
use Rattle.rules.specs.Descriptor.{class_of, df, ef, structure_of}
use Rattle.rules.specs.Life.{new_life}
use Rattle.image.specs.Layout.{longest_rule, forms_of}
use Rattle.access.specs.Access.{compact, expanded, referred, well_formed}
use Rattle.template.specs.Objects.{bytes_at}
use Rattle.create_data.specs.declared.Data.{Data}
use Rattle.create_data.specs.declared.Data.TheVariants.{Df, Ef}
use Rattle.create_data.specs.Data.{data_of}

-- an object: its tag, its length, its value
abbrev pub object : ℕ → List ℕ → List ℕ
object tag v = tag ∷ length v ∷ v

-- 62 LL, then objects that fill LL and end the data
abbrev pub template : List ℕ → List ℕ
template objects = 0x62 ∷ length objects ∷ objects

-- an optional object, by its value; one that is sent with no byte is there all the same
abbrev pub optional : ℕ → Option (List ℕ) → List ℕ
optional tag None = []
optional tag (Some v) = object tag v

abbrev pub value_of : Option (List ℕ) → List ℕ
value_of None = []
value_of (Some v) = v

-- 85 or A5 optional: not both
pub data Private : Type 0 where
  neither : Private
  in85 : List ℕ → Private
  in_a5 : List ℕ → Private

abbrev pub privately : Private → List ℕ
privately neither = []
privately (in85 v) = object 0x85 v
privately (in_a5 v) = object 0xA5 v

-- the rule: compact in 8C, or in its place expanded in AB (02 Ticket 3) or referred in 8B (02 Ticket 7)
pub data Ruled : Type 0 where
  in_8c : List ℕ → Ruled
  in_ab : List ℕ → Ruled
  in_8b : List ℕ → Ruled

abbrev pub ruled : Ruled → List ℕ
ruled (in_8c v) = object 0x8C v
ruled (in_ab v) = object 0xAB v
ruled (in_8b v) = object 0x8B v

abbrev pub rule_of : Ruled → List ℕ
rule_of (in_8c v) = v
rule_of (in_ab v) = v
rule_of (in_8b v) = v

abbrev pub rule_form : Ruled → ℕ
rule_form (in_8c v) = compact
rule_form (in_ab v) = expanded
rule_form (in_8b v) = referred

-- the first byte; the number in all of them, high byte first
abbrev pub first : List ℕ → ℕ
first [] = 0
first (x ∷ v) = x

abbrev pub number_from : ℕ → List ℕ → ℕ
number_from n [] = n
number_from n (x ∷ v) = number_from (n * 256 + x) v

abbrev pub number : List ℕ → ℕ
number v = number_from 0 v

-- low to high bytes
abbrev pub Long : ℕ → ℕ → List ℕ → Type 0
Long low high v = (low ≤ length v) × (length v ≤ high)

abbrev pub NameLong : Option (List ℕ) → Type 0
NameLong None = Unit
NameLong (Some v) = Long 1 16 v

-- 83 (2 bytes), not 3FFF, 7FFF or FFFF; 8A (1), a life cycle that CREATE takes (rules/specs/Bytes lists them); 8C, AB or 8B,
-- a well formed rule, as long as the card's version v allows and of a form that it has
pub record FileData (v : ℕ) (identifier life : List ℕ) (rule : Ruled) : Type 0 where
  pub identifier-long : length identifier ≡ 2
  pub not_3fff : number identifier ≡ 0x3FFF → ⊥
  pub not_7fff : number identifier ≡ 0x7FFF → ⊥
  pub not-FFFF : number identifier ≡ 0xFFFF → ⊥
  pub life-long : length life ≡ 1
  pub life_cycle : new_life (first life) ≡ true
  pub rule-long : Long 1 (longest_rule v) (rule_of rule)
  pub rule-form : rule_form rule < forms_of v
  pub rule-formed : well_formed (rule_form rule) (rule_of rule) ≡ true

-- a DF's data: 82 (2 bytes), 83 (2), 84 optional (1-16), 8A (1), 8C, AB or 8B, 81 (2-4), C6 (at least 1), 85 or A5
-- optional, in this order, each once. LL, and so each length, is 00-7F; the total is never 0
pub record DfData (v : ℕ) (s : List ℕ) : Type 0 where
  pub descriptor : List ℕ
  pub identifier : List ℕ
  pub name : Option (List ℕ)
  pub life : List ℕ
  pub rule : Ruled
  pub total : List ℕ
  pub security : List ℕ
  pub private : Private
  pub written :
      s
      ≡ template
      (object 0x82 descriptor ++ (object 0x83 identifier ++ (optional 0x84 name ++ (object 0x8A life
      ++ (ruled rule ++ (object 0x81 total ++ (object 0xC6 security ++ privately private)))))))
  pub short : length s ≤ 2 + 0x7F
  pub descriptor-long : length descriptor ≡ 2
  pub class : class_of (first descriptor) ≡ df
  pub file : FileData v identifier life rule
  pub name-long : NameLong name
  pub total-long : Long 2 4 total
  pub total-some : number total ≡ 0 → ⊥
  pub security-long : 1 ≤ length security

-- structures 010 and 110
abbrev pub Structured : List ℕ → Type 0
Structured descriptor = (structure_of (first descriptor) ≡ 0b010) ⊎ (structure_of (first descriptor) ≡ 0b110)

-- 1-254 records of 1-255 bytes each, which make up the size
pub record Records (each size : ℕ) : Type 0 where
  pub each_low : 1 ≤ each
  pub each_high : each ≤ 255
  pub count : ℕ
  pub count_low : 1 ≤ count
  pub count-high : count ≤ 254
  pub whole : size ≡ count * each

-- four-byte 82 exactly for these structures, its last two bytes the record length; else it has two
pub data Layout (descriptor : List ℕ) (size : ℕ) : Type 0 where
  plain : (Structured descriptor → ⊥) → length descriptor ≡ 2 → Layout descriptor size
  records : Structured descriptor → length descriptor ≡ 4 → Records (number (drop 2 descriptor)) size → Layout descriptor size

-- an EF's: 82 (2, or 4 with record length), 83, 8A, 8C, AB or 8B, 80 (2-4), 85 or A5 optional, in this order, each once. The
-- size is never 0
pub record EfData (v : ℕ) (s : List ℕ) : Type 0 where
  pub descriptor : List ℕ
  pub identifier : List ℕ
  pub life : List ℕ
  pub rule : Ruled
  pub size : List ℕ
  pub private : Private
  pub written :
      s
      ≡ template
      (object 0x82 descriptor ++ (object 0x83 identifier ++ (object 0x8A life ++ (ruled rule
      ++ (object 0x80 size ++ privately private)))))
  pub short : length s ≤ 2 + 0x7F
  pub class : class_of (first descriptor) ≡ ef
  pub layout : Layout descriptor (number size)
  pub file : FileData v identifier life rule
  pub size-long : Long 2 4 size
  pub size-some : number size ≡ 0 → ⊥

-- on a card of any version, data are good exactly if they are a DF's or an EF's; all others are bad
abbrev pub DataExactly : Type 0
DataExactly = (v : ℕ) (s : List ℕ) → (data_of v s ≡ None → ⊥) ↔ (DfData v s ⊎ EfData v s)

-- what is read of a DF's data and of an EF's: numbers, the rule's form, and where the name (empty for none) and the rule stand. The second
-- byte of 82 isn't interpreted; C6, 85 and A5 contents aren't kept
abbrev pub DfRead : (v : ℕ) (s : List ℕ) → DfData v s → Option Data → Type 0
DfRead v s t None = ⊥
DfRead v s t (Some (Ef x)) = ⊥
DfRead v s t (Some (Df x)) =
    (x.descriptor ≡ first t.descriptor) × (x.identifier ≡ number t.identifier) × (x.life ≡ first t.life)
    × (bytes_at s x.name ≡ value_of t.name) × (x.form ≡ rule_form t.rule) × (bytes_at s x.rule ≡ rule_of t.rule)
    × (x.size ≡ number t.total)

abbrev pub EfRead : (v : ℕ) (s : List ℕ) → EfData v s → Option Data → Type 0
EfRead v s t None = ⊥
EfRead v s t (Some (Df x)) = ⊥
EfRead v s t (Some (Ef x)) =
    (x.descriptor ≡ first t.descriptor) × (x.identifier ≡ number t.identifier) × (x.life ≡ first t.life)
    × (x.record_length ≡ number (drop 2 t.descriptor)) × (x.form ≡ rule_form t.rule)
    × (bytes_at s x.rule ≡ rule_of t.rule) × (x.size ≡ number t.size)

-- good data are read so
abbrev pub DataRead : Type 0
DataRead =
    (v : ℕ) (s : List ℕ) → ((t : DfData v s) → DfRead v s t (data_of v s)) × ((t : EfData v s) → EfRead v s t (data_of v s))

-- what a card takes is read alike on any whose version has room for as long rules, and as many forms
abbrev pub DataAlike : Type 0
DataAlike =
    (v w : ℕ) → longest_rule v ≤ longest_rule w → forms_of v ≤ forms_of w
    → (s : List ℕ) → (data_of v s ≡ None → ⊥) → data_of w s ≡ data_of v s

-- What SELECT tells of a file, CREATE takes: read as CREATE's data it is the same file again, and the record that is made of it has the
-- same 64 bytes but for parent, level and start (02 Tickets 2 and 4). Each statement is proved in proofs/ under the same name in small
-- letters.
use Rattle.std.specs.Prelude.{◌≡◌, true, cond, List, ◌++◌, ◌⊎◌, ℕ, ◌+◌, ◌<◌, ◌≤◌, length}
use Rattle.laws.specs.Lists.{Bytes, splice}
use Rattle.numbers.specs.Numbers.{be16}
use Rattle.rules.specs.Descriptor.{df, ef}
use Rattle.rules.specs.Life.{new_life}
use Rattle.image.specs.declared.Head.{Head}
use Rattle.image.specs.Layout.{longest_rule, count_of, rec_at, record_bytes, with_start}
use Rattle.image.specs.Layout.{kind_of, descriptor_of, life_cycle_of, form_of, identifier_of, record_length_of, size_of, name_of, rule_of}
use Rattle.sound.specs.Own.{Used, has_start}
use Rattle.sound.specs.Sound.{Sound}
use Rattle.template.specs.Objects.{bytes_at}
use Rattle.create_data.specs.declared.NewFile.{NewFile}
use Rattle.create_data.specs.declared.Data.{Data}
use Rattle.std.specs.Prelude.{Option, Some, None}
use Rattle.create_data.specs.declared.Data.TheVariants.{Df, Ef}
use Rattle.create_data.specs.Data.{data_of}
use Rattle.create_data.specs.Grammar.{DfData, EfData}
use Rattle.fcp.specs.Template.{template_of, with_c6}

-- what is sent to make the file with record r again, of which t was told: for an EF just that ..
pub record SendsEf (r t s : List ℕ) : Type 0 where
  pub kind : kind_of r ≡ ef
  pub sent : s ≡ t

-- .. for a DF with a C6 of any value of at least one byte after 81. LL is 00-7F, as of all data
pub record SendsDf (r t s : List ℕ) : Type 0 where
  pub kind : kind_of r ≡ df
  pub value : List ℕ
  pub some : 1 ≤ length value
  pub sent : s ≡ with_c6 value t
  pub short : length s ≤ 2 + 0x7F

abbrev pub Sends : List ℕ → List ℕ → List ℕ → Type 0
Sends r t s = SendsEf r t s ⊎ SendsDf r t s

-- the new file x that the data s describe is the one with record r
pub record SameFile (s r : List ℕ) (kind : ℕ) (x : NewFile) : Type 0 where
  pub kind_is : kind_of r ≡ kind
  pub descriptor : x.descriptor ≡ descriptor_of r
  pub identifier : x.identifier ≡ identifier_of r
  pub life : x.life ≡ life_cycle_of r
  pub form : x.form ≡ form_of r
  pub record_length : x.record_length ≡ record_length_of r
  pub size : x.size ≡ size_of r
  pub name : bytes_at s x.name ≡ name_of r
  pub rule : bytes_at s x.rule ≡ rule_of r

abbrev pub Tells : List ℕ → List ℕ → Option Data → Type 0
Tells s r None = ⊥
Tells s r (Some (Df x)) = SameFile s r df x
Tells s r (Some (Ef x)) = SameFile s r ef x

-- the round trip: what a template says is good data on a card of the same version, and is read as the file that it was written of
abbrev pub ReadBack : Type 0
ReadBack = (v : ℕ) (r s : List ℕ) → Used v r → new_life (life_cycle_of r) ≡ true → Sends r (template_of r) s
    → (DfData v s ⊎ EfData v s) × Tells s r (data_of v s)

-- the fields of record r, under another parent and level
abbrev pub head_again : List ℕ → ℕ → ℕ → Head
head_again r parent level = record {
  kind = kind_of r;
  descriptor = descriptor_of r;
  life = life_cycle_of r;
  form = form_of r;
  identifier = identifier_of r;
  parent = parent;
  level = level;
  record_length = record_length_of r;
  size = size_of r;
}

-- a record with another start, if it has one
unfoldable pub started_at : ℕ → List ℕ → ℕ → List ℕ
started_at v r x = cond (has_start v r) (with_start r x) r

-- a used record is what its fields say and nothing else: written again it is the same but for parent, level and start
abbrev pub RecordAgain : Type 0
RecordAgain = (v : ℕ) (r : List ℕ) (parent level : ℕ) → length r ≡ 64 → Bytes r → Used v r
    → record_bytes v (head_again r parent level) (name_of r) (rule_of r) ≡ splice (started_at v r 0) 6 (be16 parent ++ be16 level)

-- two bytes hold every size of a sound image: a file charges no more than its directory's total, and the root's total is at most 64
-- for each slot but its own, 65,408
abbrev pub SizesFit : Type 0
SizesFit = (img : List ℕ) → Sound img → (s : ℕ) → s < count_of img → (kind_of (rec_at img s) ≡ 0 → ⊥) → size_of (rec_at img s) ≤ 65408

-- a template has at most 37 bytes and the longest rule of its version, and so 67 bytes hold every one: a DF has no record length, an EF
-- no name (and `Used` alone doesn't say that r is one of them)
abbrev pub Longest : Type 0
Longest = (v : ℕ) (r : List ℕ) → Used v r → (kind_of r ≡ 0 → ⊥) → length (template_of r) ≤ 37 + longest_rule v

-- What a record must satisfy by itself, over its 64 bytes (01 "Image": the table of a record, the sentences
-- on kind, descriptor, rule, size, record length and padding; 02 Tickets 3 and 4): as a test, and as a record with a field for
-- each sentence.
use Rattle.std.specs.Prelude.{◌≡◌, List, Bool, true, not, ◌&&◌, ℕ, ◌+◌, ◌-◌, ◌<◌, ◌≤◌, eqb, leb, get_or}
use Rattle.laws.specs.Walks.{all_below}
use Rattle.laws.specs.Tests.{implies, either}
use Rattle.rules.specs.Descriptor.{class_of, ef}
use Rattle.rules.specs.Life.{known_life}
use Rattle.rules.specs.Value.{good_identifier, good_length}
use Rattle.image.specs.Layout.{longest_rule, zeros_after, kind_of, descriptor_of, life_cycle_of, form_of, identifier_of, record_length_of}
use Rattle.image.specs.Layout.{size_of}
use Rattle.image.specs.Layout.{rule_of, has_bodies}
use Rattle.access.specs.Access.{fits_record}

-- the n bytes from `at` on are zero
unfoldable pub zerosb : List ℕ → ℕ → ℕ → Bool
zerosb r at n = all_below n (λ k. eqb (get_or r (at + k) 0) 0)

-- a length at n, at most `most`, and zeros after so many bytes
pub record Padded (most : ℕ) (r : List ℕ) (n : ℕ) : Type 0 where
  pub short : get_or r n 0 ≤ most
  pub zeros : (k : ℕ) → k < most - get_or r n 0 → get_or r (n + 1 + get_or r n 0 + k) 0 ≡ 0

unfoldable pub paddedb : ℕ → List ℕ → ℕ → Bool
paddedb most r n = leb (get_or r n 0) most && zerosb r (n + 1 + get_or r n 0) (most - get_or r n 0)

-- behind the rule stands the start of a body: in EFs of a version that has bodies
unfoldable pub has_start : ℕ → List ℕ → Bool
has_start v r = has_bodies v && eqb (kind_of r) ef

-- a used record of a version
pub record Used (v : ℕ) (r : List ℕ) : Type 0 where
  -- kind agrees with descriptor
  pub class : class_of (descriptor_of r) ≡ kind_of r
  -- the life cycle is known (rules/specs/Bytes lists them)
  pub life : known_life (life_cycle_of r) ≡ true
  -- the identifier isn't 3FFF, 7FFF or FFFF
  pub identifier : good_identifier (identifier_of r) ≡ true
  -- size is never 0
  pub size : 1 ≤ size_of r
  -- record length: whole records, or 0 where the structure isn't 010 or 110
  pub length : good_length (descriptor_of r) (record_length_of r) (size_of r) ≡ true
  -- name length 0..16, name, zero-padded
  pub name : Padded 16 r 16
  -- EFs have none
  pub nameless : kind_of r ≡ ef → get_or r 16 0 ≡ 0
  -- rule length 1 to what the version has for it, rule, zero-padded; its form is one of the version's, and it is well formed
  pub rule : Padded (longest_rule v) r 33
  pub formed : fits_record v (form_of r) (rule_of r) ≡ true
  -- the bytes after the longest rule are 0, but for the start of a body
  pub spare : (has_start v r ≡ true → ⊥) → (k : ℕ) → k < zeros_after v → get_or r (34 + longest_rule v + k) 0 ≡ 0

unfoldable pub classedb : List ℕ → Bool
classedb r =
    eqb (class_of (descriptor_of r)) (kind_of r)
    && (known_life (life_cycle_of r)
    && good_identifier (identifier_of r))

unfoldable pub measuredb : List ℕ → Bool
measuredb r = leb 1 (size_of r) && good_length (descriptor_of r) (record_length_of r) (size_of r)

unfoldable pub nameb : List ℕ → Bool
nameb r = paddedb 16 r 16 && implies (eqb (kind_of r) ef) (eqb (get_or r 16 0) 0)

unfoldable pub ruledb : ℕ → List ℕ → Bool
ruledb v r =
    paddedb (longest_rule v) r 33
    && (fits_record v (form_of r) (rule_of r)
    && implies (not (has_start v r)) (zerosb r (34 + longest_rule v) (zeros_after v)))

unfoldable pub usedb : ℕ → List ℕ → Bool
usedb v r = classedb r && (measuredb r && (nameb r && ruledb v r))

-- a free record is all zero; any other is a used one
pub record Own (v : ℕ) (r : List ℕ) : Type 0 where
  pub free : kind_of r ≡ 0 → (k : ℕ) → k < 64 → get_or r (0 + k) 0 ≡ 0
  pub used : (kind_of r ≡ 0 → ⊥) → Used v r

unfoldable pub ownb : ℕ → List ℕ → Bool
ownb v r = either (eqb (kind_of r) 0) (zerosb r 0 64) (usedb v r)

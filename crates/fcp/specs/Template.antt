-- The template 62 that SELECT answers with (02 Ticket 2): what a record says of its file, in the order in which CREATE takes it and in
-- the words of CREATE's grammar. 82 has 21 as second byte, a size has two bytes; there is no C6, 85 or A5.
use Rattle.std.specs.Prelude.{ℕ, cond, List, [], ◌∷◌, ◌++◌, eqb, drop, Option, Some, None}
use Rattle.numbers.specs.Numbers.{be16}
use Rattle.rules.specs.Descriptor.{df, has_records}
use Rattle.image.specs.Layout.{kind_of, descriptor_of, life_cycle_of, form_of, identifier_of, record_length_of, size_of, name_of, rule_of}
use Rattle.access.specs.Access.{tag_of}
use Rattle.create_data.specs.Grammar.{object, template, optional}

-- the record length, where the structure has records
unfoldable pub record_bytes_of : List ℕ → List ℕ
record_bytes_of r = cond (has_records (descriptor_of r)) (be16 (record_length_of r)) []

-- a name, where there is one
abbrev pub named : List ℕ → Option (List ℕ)
named [] = None
named (x ∷ v) = Some (x ∷ v)

-- 8C for a compact rule, AB for an expanded one (02 Ticket 3), 8B for a referred one (02 Ticket 7)
unfoldable pub rule_tag : List ℕ → ℕ
rule_tag r = tag_of (form_of r)

-- 81 for a DF, 80 for an EF
unfoldable pub size_tag : List ℕ → ℕ
size_tag r = cond (eqb (kind_of r) df) 0x81 0x80

-- the objects, each by its name
abbrev pub descriptor_object : List ℕ → List ℕ
descriptor_object r = object 0x82 (descriptor_of r ∷ 0x21 ∷ record_bytes_of r)

abbrev pub identifier_object : List ℕ → List ℕ
identifier_object r = object 0x83 (be16 (identifier_of r))

abbrev pub name_object : List ℕ → List ℕ
name_object r = optional 0x84 (named (name_of r))

abbrev pub life_object : List ℕ → List ℕ
life_object r = object 0x8A (life_cycle_of r ∷ [])

abbrev pub rule_object : List ℕ → List ℕ
rule_object r = object (rule_tag r) (rule_of r)

abbrev pub size_object : List ℕ → List ℕ
size_object r = object (size_tag r) (be16 (size_of r))

unfoldable pub body_of : List ℕ → List ℕ
body_of r =
    descriptor_object r ++ (identifier_object r ++ (name_object r ++ (life_object r ++ (rule_object r ++ size_object r))))

-- THE TEMPLATE of the file with record r
unfoldable pub template_of : List ℕ → List ℕ
template_of r = template (body_of r)

-- .. with a C6 of value v at its end, behind 81, as CREATE asks of a DF
unfoldable pub with_c6 : List ℕ → List ℕ → List ℕ
with_c6 v t = template (drop 2 t ++ object 0xC6 v)

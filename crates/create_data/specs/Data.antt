-- CREATE's data: what a new file is to be, or bad (01 "CREATE", data). A breach of any of its rules is bad. Which rules fit, the
-- card's version v says (02 Tickets 3 and 7).
use Rattle.std.specs.Prelude.{ℕ, ◌-◌, Bool, cond, ◌&&◌, ◌||◌, List, length, get_or, eqb, leb, Option, Some, None}
use Rattle.rules.specs.Descriptor.{class_of, df, ef}
use Rattle.rules.specs.Life.{new_life}
use Rattle.rules.specs.Value.{good_identifier, good_length}
use Rattle.access.specs.Access.{fits_record}
use Rattle.template.specs.declared.Objects.{Objects}
use Rattle.create_data.specs.declared.NewFile.{NewFile}
use Rattle.create_data.specs.declared.Data.{Data}
use Rattle.create_data.specs.declared.Data.TheVariants.{Df, Ef}
use Rattle.template.specs.Objects.{place_in, value_in, objects_of}
use Rattle.create_data.specs.Form.{t82, t83, t84, t8a, t80, t81, lacks, one_rule, rule_in, form_in, df_form, ef_form}
use Rattle.template.specs.Values.{first_of, pair_of, record_length_of, number_of, fits_name}

-- 62 LL and LL bytes, LL being 00-7F
unfoldable pub is_template : List ℕ → Bool
is_template s =
    leb 2 (length s) && (eqb (get_or s 0 0) 0x62 && (leb (get_or s 1 0) 0x7F && eqb (length s - 2) (get_or s 1 0)))

-- what the test lets pass, or none: bad
abbrev pub need : Bool → Option Data → Option Data
need test file = cond test file None

-- the rule is there once, and a record of the version may hold it: its length, its form, well formed
unfoldable pub rule_good : ℕ → List ℕ → Objects → Bool
rule_good v s o = one_rule o && fits_record v (form_in o) (value_in s o (rule_in o))

-- the identifier isn't 3FFF, 7FFF or FFFF; the life cycle is one that CREATE takes; the rule is good
unfoldable pub both_good : ℕ → List ℕ → Objects → Bool
both_good v s o = good_identifier (pair_of (value_in s o t83)) && (new_life (first_of (value_in s o t8a)) && rule_good v s o)

-- 84 is not there, or is a name of 1-16 bytes
unfoldable pub name_good : List ℕ → Objects → Bool
name_good s o = lacks o t84 || fits_name (value_in s o t84)

-- a new file of a record length and a size: its numbers, and where its name and its rule stand
unfoldable pub new_file : List ℕ → Objects → ℕ → ℕ → NewFile
new_file s o length size = record {
  descriptor = first_of (value_in s o t82);
  identifier = pair_of (value_in s o t83);
  life = first_of (value_in s o t8a);
  form = form_in o;
  record_length = length;
  size = size;
  name = place_in o t84;
  rule = place_in o (rule_in o);
}

-- a DF: its list, its values, and a total that is never 0
unfoldable pub df_of : ℕ → List ℕ → Objects → Option Data
df_of v s o =
    need (df_form o)
    (need (name_good s o)
    (need (both_good v s o)
    (cond (eqb (number_of (value_in s o t81)) 0) None
    (Some (Df (new_file s o 0 (number_of (value_in s o t81))))))))

-- an EF's size is never 0, and its record length suits descriptor and size
unfoldable pub sized_ef : List ℕ → Objects → ℕ → Option Data
sized_ef s o descriptor =
    cond (eqb (number_of (value_in s o t80)) 0) None
    (need (good_length descriptor (record_length_of (value_in s o t82)) (number_of (value_in s o t80)))
    (Some (Ef (new_file s o (record_length_of (value_in s o t82)) (number_of (value_in s o t80))))))

-- an EF: its list and its values
unfoldable pub ef_of : ℕ → List ℕ → Objects → ℕ → Option Data
ef_of v s o descriptor = need (ef_form o descriptor) (need (both_good v s o) (sized_ef s o descriptor))

-- the objects end the data; the descriptor, the first byte of 82, tells a DF from an EF. The second isn't interpreted
unfoldable pub file_of : ℕ → List ℕ → Objects → Option Data
file_of v s o =
    let descriptor : ℕ = first_of (value_in s o t82) in
    need (eqb o.next (length s))
    (cond (eqb (class_of descriptor) df) (df_of v s o)
    (cond (eqb (class_of descriptor) ef) (ef_of v s o descriptor)
    None))

unfoldable pub data_of : ℕ → List ℕ → Option Data
data_of v s = need (is_template s) (file_of v s (objects_of s))

-- What a command is about: the current files, the file that SELECT finds, the new file of CREATE's data.
use Rattle.std.specs.Prelude.{ℕ, ◌+◌, ◌≤◌, ◌≡◌, get_or, Bool, true, false, cond, List, [], eqb, Option, Some, None, unwrap_or, Ok, Err}
use Rattle.std.specs.Option.{option_or}
use Rattle.rules.specs.declared.Right.{Right}
use Rattle.rules.specs.declared.Right.TheVariants.{CreateDf, CreateEf}
use Rattle.rules.specs.declared.Sets.{Sets}
use Rattle.rules.specs.Descriptor.{df, ef}
use Rattle.image.specs.declared.Head.{Head}
use Rattle.image.specs.Layout.{Within, rec_at, count_of, current_df_of, current_ef_of, none, life_cycle_of, form_of, rule_of}
use Rattle.access.specs.declared.Decision.{Decision}
use Rattle.access.specs.Access.{referred, asked_as, granted_of}
use Rattle.access.specs.Decision.{decision_of}
use Rattle.sound.specs.Table.{View, view_at}
use Rattle.sound.specs.Kinship.{child_named}
use Rattle.kinship.specs.Search.{df_named}
use Rattle.referred.specs.Deciding.{deciding_rule}
use Rattle.template.specs.Objects.{bytes_at}
use Rattle.create_data.specs.declared.NewFile.{NewFile}
use Rattle.create_data.specs.declared.Data.{Data}
use Rattle.create_data.specs.declared.Data.TheVariants.{Df, Ef}
use Rattle.verdict.specs.declared.NewRecord.{NewRecord}
use Rattle.verdict.specs.Applied.{Verdict}
use Rattle.verdict.specs.declared.Effect.TheVariants.{Create}
use Rattle.verdict.specs.Words.{wrong_data}

-- the current EF, else the current DF
unfoldable pub current_file : List ℕ → ℕ
current_file img = cond (eqb (current_ef_of img) none) (current_df_of img) (current_ef_of img)

abbrev pub life_at : List ℕ → ℕ → ℕ
life_at img s = life_cycle_of (rec_at img s)

-- the form in which the rule of the file in slot s is asked, and the rule that decides on it: its own, or the one that it names, as the
-- pool has it at this moment (02 Ticket 7)
abbrev pub form_at : List ℕ → ℕ → ℕ
form_at img s = asked_as (form_of (rec_at img s))

abbrev pub rule_at : List ℕ → List ℕ → ℕ → List ℕ
rule_at img pool s = deciding_rule (count_of img) img pool s

-- that rule grants a right
unfoldable pub allowed_at : List ℕ → List ℕ → ℕ → Right → Sets → Bool
allowed_at img pool s right x = granted_of (form_at img s) (rule_at img pool s) right x

-- .. and what it decides, of three (02 Ticket 6)
unfoldable pub decision_at : List ℕ → List ℕ → ℕ → Right → Sets → Decision
decision_at img pool s right x = decision_of (form_at img s) (rule_at img pool s) right x

-- a rule in the file's own record is asked as it stands there, in the form that the record tells
abbrev pub OwnRuleAsked : Type 0
OwnRuleAsked = (img pool : List ℕ) (s : ℕ) → Within img s → get_or (rec_at img s) 33 0 ≤ 30 → (form_of (rec_at img s) ≡ referred → ⊥)
    → (right : Right) (x : Sets)
    → (allowed_at img pool s right x ≡ granted_of (form_of (rec_at img s)) (rule_of (rec_at img s)) right x)
    × (decision_at img pool s right x ≡ decision_of (form_of (rec_at img s)) (rule_of (rec_at img s)) right x)

-- the slot that a search found, 0 where it found none
abbrev pub slot_in : Option ℕ → ℕ
slot_in f = unwrap_or f 0

-- slot s, if its file has identifier x
unfoldable pub itself : (ℕ → View) → ℕ → ℕ → Option ℕ
itself v x s = cond (eqb (v s).identifier x) (Some s) None

-- SELECT tries, with d the current DF: root, current DF, the current DF's parent, the current DF's children, DFs
-- that are children of the current DF's parent; first match wins
unfoldable pub selected : List ℕ → ℕ → ℕ → ℕ → Option ℕ
selected img n d x =
    let v : ℕ → View = view_at img in
    option_or (itself v x 0)
    (option_or (itself v x d)
    (option_or (itself v x (v d).parent)
    (option_or (child_named n v d x)
    (df_named n v (v d).parent x))))

-- the new file that CREATE's data s describe: whether they do, the right to create it, its identifier, size and name
abbrev pub describes : Option Data → Bool
describes None = false
describes (Some (Df x)) = true
describes (Some (Ef x)) = true

abbrev pub right_for : Option Data → Right
right_for None = CreateEf
right_for (Some (Df x)) = CreateDf
right_for (Some (Ef x)) = CreateEf

abbrev pub new_identifier : Option Data → ℕ
new_identifier None = 0
new_identifier (Some (Df x)) = x.identifier
new_identifier (Some (Ef x)) = x.identifier

abbrev pub new_size : Option Data → ℕ
new_size None = 0
new_size (Some (Df x)) = x.size
new_size (Some (Ef x)) = x.size

abbrev pub new_name : List ℕ → Option Data → List ℕ
new_name s None = []
new_name s (Some (Df x)) = bytes_at s x.name
new_name s (Some (Ef x)) = bytes_at s x.name

-- the new record's numbers: in directory d, one level down
abbrev pub new_head : List ℕ → ℕ → ℕ → NewFile → Head
new_head img d kind x = record {
  kind = kind;
  descriptor = x.descriptor;
  life = x.life;
  form = x.form;
  identifier = x.identifier;
  parent = d;
  level = (view_at img d).level + 1;
  record_length = x.record_length;
  size = x.size;
}

-- the new record of that kind in slot s of directory d
abbrev pub new_record : List ℕ → ℕ → ℕ → ℕ → NewFile → NewRecord
new_record img d s kind x = record { slot = s; head = new_head img d kind x; name = x.name; rule = x.rule }

abbrev pub creating : List ℕ → ℕ → ℕ → Option Data → Verdict
creating img d s None = Err wrong_data
creating img d s (Some (Df x)) = Ok (Create (new_record img d s df x))
creating img d s (Some (Ef x)) = Ok (Create (new_record img d s ef x))

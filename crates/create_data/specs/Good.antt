-- What good data says of the new file: beside the equation of Data, each rule of 01 "CREATE" (data) as a
-- statement by itself, for those who make the file and keep the card sound.
use Rattle.std.specs.Prelude.{◌≡◌, true, List, ℕ, ◌-◌, ◌≤◌, length, Option, Some, None}
use Rattle.rules.specs.Descriptor.{class_of, df, ef}
use Rattle.rules.specs.Life.{new_life}
use Rattle.rules.specs.Value.{good_identifier, good_length}
use Rattle.access.specs.Access.{fits_record}
use Rattle.template.specs.Objects.{bytes_at}
use Rattle.create_data.specs.declared.NewFile.{NewFile}
use Rattle.create_data.specs.declared.Data.{Data}
use Rattle.create_data.specs.declared.Data.TheVariants.{Df, Ef}

-- every new file: its identifier, its life cycle, where its name stands, and its rule, which a record of the version may hold
pub record GoodFile (v : ℕ) (s : List ℕ) (x : NewFile) : Type 0 where
  pub identifier : good_identifier x.identifier ≡ true
  pub life : new_life x.life ≡ true
  pub name-low : x.name.start ≤ x.name.end
  pub name-high : x.name.end ≤ length s
  pub rule-low : x.rule.start ≤ x.rule.end
  pub rule-high : x.rule.end ≤ length s
  pub rule : fits_record v x.form (bytes_at s x.rule) ≡ true

-- a DF, whose name, empty for none, has at most 16 bytes
pub record GoodDf (v : ℕ) (s : List ℕ) (x : NewFile) : Type 0 where
  pub class : class_of x.descriptor ≡ df
  pub file : GoodFile v s x
  pub name-short : x.name.end - x.name.start ≤ 16
  pub total : x.size ≡ 0 → ⊥
  pub plain : x.record_length ≡ 0

-- an EF, which has no name
pub record GoodEf (v : ℕ) (s : List ℕ) (x : NewFile) : Type 0 where
  pub class : class_of x.descriptor ≡ ef
  pub file : GoodFile v s x
  pub nameless : x.name.end ≡ x.name.start
  pub size : x.size ≡ 0 → ⊥
  pub records : good_length x.descriptor x.record_length x.size ≡ true

abbrev pub Good : ℕ → List ℕ → Option Data → Type 0
Good v s None = Unit
Good v s (Some (Df x)) = GoodDf v s x
Good v s (Some (Ef x)) = GoodEf v s x

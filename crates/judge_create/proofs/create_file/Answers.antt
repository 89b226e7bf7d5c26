-- `judge_create::create_file`: by what the data are.
use Rattle.judge_create.proofs.Creating.{create-bad, create-df, create-ef, df-name, ef-name}
use Rattle.judge_create.proofs.create_file.Goals as goal

pub new_file-requires : goal.new_file-requires
new_file-requires c = record { start_le_end = df-name _ _ c.read.ensures.1 c.in-Some-Df.is c.in-Some-Df.field-0-is }

pub new_file-requires-in-Some-Ef : goal.new_file-requires-in-Some-Ef
new_file-requires-in-Some-Ef c =
    record { start_le_end = ef-name _ _ c.read.ensures.1 c.in-Some-Ef.is c.in-Some-Ef.field-0-is }

pub returns-in-Some-Df : goal.returns-in-Some-Df
returns-in-Some-Df c = search create-df

pub returns-in-Some-Ef : goal.returns-in-Some-Ef
returns-in-Some-Ef c = search create-ef

pub returns-in-None : goal.returns-in-None
returns-in-None c = search create-bad

-- `own::name_fits`: no name; or a DF has one, with zeros after it.
use Rattle.sound_records.proofs.Bytes.{named_none, named-long, named-ef, named-df}
use Rattle.sound_records.proofs.own.name_fits.Goals as goal

pub returns-then-name : goal.returns-then-name
returns-then-name c = search named_none

pub returns-then-n-gt16 : goal.returns-then-n-gt16
returns-then-n-gt16 c = search named-long

pub returns-then-r-eq2 : goal.returns-then-r-eq2
returns-then-r-eq2 c = search named-ef

pub returns : goal.returns
returns c = search named-df

-- `fields::record` gives the 64 bytes of record s.
use Rattle.image.proofs.Places.{record-in}
use Rattle.image.proofs.fields.record.Goals as goal

pub returns : goal.returns
returns c = record-in _ _

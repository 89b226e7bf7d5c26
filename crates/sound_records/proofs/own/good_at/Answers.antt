-- `own::good_at`: the record as a part of the image.
use Rattle.sound_records.proofs.Bytes.{own-part}
use Rattle.sound_records.proofs.own.good_at.Goals as goal

pub returns : goal.returns
returns c = search own-part

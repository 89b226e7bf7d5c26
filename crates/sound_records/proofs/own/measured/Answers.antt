-- `own::measured`: a file with records, or both numbers against zero.
use Rattle.sound_records.proofs.Bytes.{measured_records, measured_length, measured_size}
use Rattle.sound_records.proofs.own.measured.Goals as goal

pub returns-then-has_records : goal.returns-then-has_records
returns-then-has_records c = search measured_records

pub returns-then-u16_at-ne0 : goal.returns-then-u16_at-ne0
returns-then-u16_at-ne0 c = search measured_length

pub returns : goal.returns
returns c = search measured_size

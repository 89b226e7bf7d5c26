-- `kin::word_at`: the four bytes that stand there, the first least.
use Rattle.image.proofs.Words.{kin_read}
use Rattle.image.proofs.kin.word_at.Goals as goal

pub returns : goal.returns
returns c = kin_read _ _ _ c.type_inv.image c.from_le_bytes.ensures

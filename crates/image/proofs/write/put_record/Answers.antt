-- `write::put_record` writes the head, the name, the rule and the last zeros.
use Rattle.image.proofs.Made.{record_put}
use Rattle.image.proofs.write.put_record.Goals as goal

pub returns : goal.returns
returns c = search record_put

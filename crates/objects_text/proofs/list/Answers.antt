-- `list`: what `write` writes, in an array.
use Rattle.text.proofs.Written.{counted, taken}
use Rattle.objects_text.proofs.list.Goals as goal

pub returns : goal.returns
returns c = record { wrote = c.write.ensures; counted = counted _ c.write.ensures; taken = taken _ c.write.ensures }

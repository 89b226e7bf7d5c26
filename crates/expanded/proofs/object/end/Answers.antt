-- `object::end`: a law for each way out.
use Rattle.expanded.proofs.Objects.{ends}
use Rattle.expanded.proofs.object.end.Goals as goal

pub returns-then-s-at-lt2 : goal.returns-then-s-at-lt2
returns-then-s-at-lt2 c = search ends

pub returns-then-n-gt127 : goal.returns-then-n-gt127
returns-then-n-gt127 c = search ends

pub returns-then-s-from : goal.returns-then-s-from
returns-then-s-from c = search ends

pub returns : goal.returns
returns c = search ends

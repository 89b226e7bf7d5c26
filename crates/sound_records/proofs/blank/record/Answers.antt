use borrow.Author.Rules.{rules}
use Rattle.sound_records.proofs.Zeros.{gather_start, gather_more, gather_end}
use Rattle.sound_records.proofs.blank.record.Goals as goal

pub loop-k-init : goal.loop-k-init
loop-k-init c = (search rules, gather_start _)

pub loop-k-preserved : goal.loop-k-preserved
loop-k-preserved c = (search rules, search gather_more)

pub returns : goal.returns
returns c = search gather_end

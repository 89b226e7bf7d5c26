-- `put_head`: a line only where the data is no template.
use Rattle.objects_text.proofs.Marks.{head-right}
use Rattle.objects_text.proofs.put_head.Goals as goal

pub returns-then-is_template : goal.returns-then-is_template
returns-then-is_template c = head-right _ _ c.is_template.ensures c.if-is_template.true

-- `names::identifier_free`: no child has it, and no directory on the way up.
use Rattle.kinship.proofs.Sameness.{identifier_taken, identifier-above}
use Rattle.kinship.proofs.names.identifier_free.Goals as goal

pub returns-then-is_none : goal.returns-then-is_none
returns-then-is_none c = identifier-above _ _ _ _ _ c.child_named.ensures c.is_none.ensures c.if-is_none.true c.named_up.ensures

pub returns-else-is_none : goal.returns-else-is_none
returns-else-is_none c = identifier_taken _ _ _ _ _ c.child_named.ensures c.is_none.ensures c.if-is_none.false

-- `names::same`: the last bytes, then all of them.
use Rattle.kinship.proofs.Sameness.{same-eq, same-last}
use Rattle.kinship.proofs.names.same.Goals as goal

pub returns-then-eq : goal.returns-then-eq
returns-then-eq c = same-eq _ _ c.eq-then-eq.ensures

pub returns-else-eq : goal.returns-else-eq
returns-else-eq c = same-last _ _ _ _ c.last.ensures.value c.last-2.ensures.value c.eq.ensures c.if-eq.false

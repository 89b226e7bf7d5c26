-- `objects::put_name` writes 84, where there is a name.
use mathlib.Core.Path.{sym}
use borrow.Author.Tests.{eqb-true, eqb-false}
use native.Mathlib.Omega.{arith}
use Rattle.fcp.proofs.Pieces.{name-fits, no-name-told, name-told, name-long}
use Rattle.fcp.proofs.objects.put_name.Goals as goal

pub returns-then-is_empty : goal.returns-then-is_empty
returns-then-is_empty c = no-name-told _ c.name-v.ensures c.requires.1 (eqb-true _ 0 (sym c.if-is_empty.ensures))

pub put-requires : goal.put-requires
put-requires c = (
  omega (arith, c.requires.1, name-long _ c.name-v.ensures (eqb-false _ 0 (sym c.if-is_empty.ensures))),
  omega (arith, name-fits _ c.name-v.ensures c.requires.0.name),
)

pub returns : goal.returns
returns c = name-told _ c.name-v.ensures (eqb-false _ 0 (sym c.if-is_empty.ensures)) c.put.ensures

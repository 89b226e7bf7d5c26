-- `answer::length_of` adds up the lengths of the objects.
use Rattle.fcp.proofs.Filled.{long-from}
use Rattle.fcp.proofs.Pieces.{name-fits, rule_fits}
use lib.ListN.{length}
use native.Mathlib.Omega.{arith}
use Prim.Native.Nat.{◌≤◌}
use Rattle.fcp.proofs.answer.length_of.Goals as goal

pub name_length-named-requires : goal.name_length-named-requires
name_length-named-requires c = search name-fits

pub returns : goal.returns
returns c =
    let a = c.args in
    let e : length c.rule-rule.result.now ≤ 30 = search rule_fits in
    (search long-from, omega arith)

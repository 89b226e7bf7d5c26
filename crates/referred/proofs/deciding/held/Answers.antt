-- `deciding::held`: a law for each way out.
use mathlib.Core.Path.{ap}
use mathlib.Core.Bool.{not}
use Rattle.pool.proofs.Numbered.{from_one}
use native.Mathlib.Omega.{arith}
use Rattle.referred.proofs.Places.{rule-small, helds}
use borrow.Author.Rules.{rules}
use Rattle.referred.proofs.deciding.held.Goals as goal

pub returns-then-not-is_linear : goal.returns-then-not-is_linear
returns-then-not-is_linear c = (search helds, record { order = omega arith; short = omega arith })

pub returns-then-not-has_record : goal.returns-then-not-has_record
returns-then-not-has_record c = (search helds, record { order = omega arith; short = omega arith })

pub record_start-from-requires : goal.record_start-from-requires
record_start-from-requires c = (
  search rules,
  (from_one _ _ _ c.has_record.ensures (ap not c.if-not-has_record.false), search rules),
)

pub returns-then-end-eq0 : goal.returns-then-end-eq0
returns-then-end-eq0 c = (search helds, record { order = omega arith; short = omega arith })

pub returns : goal.returns
returns c = (search helds, record { order = search rules; short = search rule-small })

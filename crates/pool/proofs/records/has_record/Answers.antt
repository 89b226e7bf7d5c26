-- `records::has_record`: from 1 to the last.
use Rattle.pool.proofs.Numbered.{times-small, no-zeroth, reached}
use borrow.Author.Rules.{rules}
use native.Mathlib.Omega.{arith}
use Rattle.pool.proofs.records.has_record.Goals as goal

pub returns-then-i-eq0 : goal.returns-then-i-eq0
returns-then-i-eq0 c = search no-zeroth

pub overflow_mul-result : goal.overflow_mul-result
overflow_mul-result c = omega (arith, times-small c.args.i c.record_length-length.result (search rules) (search rules))

pub returns : goal.returns
returns c = search reached

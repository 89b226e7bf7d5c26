-- `deciding::record_start`: a product that is small.
use Rattle.pool.proofs.Numbered.{times-small}
use native.Mathlib.Omega.{arith}
use Prim.Native.Nat.{◌-◌}
use Rattle.referred.proofs.Places.{start-at}
use borrow.Author.Rules.{rules}
use Rattle.referred.proofs.deciding.record_start.Goals as goal

pub overflow_mul-result : goal.overflow_mul-result
overflow_mul-result c =
    omega (arith, times-small (c.args.k - 1) c.record_length-length.result (omega arith) (search rules))

pub overflow_add-result : goal.overflow_add-result
overflow_add-result c =
    omega (arith, times-small (c.args.k - 1) c.record_length-length.result (omega arith) (search rules))

pub returns : goal.returns
returns c = (
  search start-at,
  omega (arith, times-small (c.args.k - 1) c.record_length-length.result (omega arith) (search rules)),
)

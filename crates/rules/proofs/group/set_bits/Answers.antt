-- `group::set_bits`: the count, by one test of all bytes that is computed.
use Prim.Native.Nat.{◌*◌, ◌/◌, ◌%◌}
use native.Mathlib.Omega.{arith}
use lib.Bits.{and_le_r}
use Rattle.rules.proofs.Bits.{count_bits}
use borrow.Author.Rules.{rules}
use Rattle.rules.proofs.group.set_bits.Goals as goal

pub overflow_mul-result : goal.overflow_mul-result
overflow_mul-result c = omega (arith, and_le_r (c.args.am % 128 * 0x08040201 / 8) 0x11111111)

pub returns : goal.returns
returns c = (search (count_bits, rules), search rules)

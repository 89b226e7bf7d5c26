-- `put`: the bit_in of the key goes on in its word.
use Prim.Native.Nat.{◌%◌}
use native.Mathlib.Omega.{arith}
use Rattle.keys.specs.Marks.{marking}
use Rattle.keys.proofs.Bits.{one_shl}
use Rattle.keys.proofs.Keys.put.Goals as goal

pub returns : goal.returns
unfolding marking
returns c = rw (one_shl (c.args.key % 64) (omega arith), ← c.self.view_is)

-- `stretch::low_zero`: the rest by a power of two.
use Rattle.pool.proofs.Bits.{word-whole, word_low, power_some}
use Rattle.pool.proofs.stretch.low_zero.Goals as goal

pub returns-then-n-eq64 : goal.returns-then-n-eq64
returns-then-n-eq64 c = search word-whole

pub nonzero_rem-result : goal.nonzero_rem-result
nonzero_rem-result c = search power_some

pub returns : goal.returns
returns c = search word_low

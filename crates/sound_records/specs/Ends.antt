-- Where the zeros after a rule end: at 62 where the start of a body stands there, else at the end of the record.
use Rattle.std.specs.Prelude.{cond, List, ℕ}
use Rattle.sound.specs.Own.{has_start}

unfoldable pub zeros_end : ℕ → List ℕ → ℕ
zeros_end v r = cond (has_start v r) 62 64

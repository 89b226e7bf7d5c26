-- Capital hex digits (01 "Replay").
use Rattle.std.specs.Prelude.{ℕ, ◌+◌, cond, ltb}

-- `0` to `9`, then `A` to `F`
unfoldable pub digit_of : ℕ → ℕ
digit_of d = cond (ltb d 10) (48 + d) (55 + d)

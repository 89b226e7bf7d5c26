-- Two pairs of identifier and parent slot with one word are the same.
use mathlib.Core.Path.{◌≡◌}
use Prim.Native.Nat.{ℕ, ◌<◌}
use Rattle.image.specs.Kin.{turned, kin_word}
use Rattle.image.proofs.Words.{halves, turned-low, turned_back}

pub same-kin : (x p y q : ℕ) → x < 65536 → p < 65536 → y < 65536 → q < 65536 → kin_word x p ≡ kin_word y q → (x ≡ y) × (p ≡ q)
unfolding kin_word
same-kin x p y q a b c d h =
    let both = halves (turned p) (turned x) (turned q) (turned y) (turned-low x a) (turned-low y c) h in
    (turned_back x y a c both.1, turned_back p q b d both.0)

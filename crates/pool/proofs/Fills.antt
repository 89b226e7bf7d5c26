-- A part of a list that is written over with one value: what the library says of it, as a splice.
use mathlib.Core.Path.{◌≡◌}
use mathlib.Core.List.{List}
use Prim.Native.Nat.{ℕ, ◌-◌, ◌≤◌}
use native.Mathlib.Omega.{arith}
use lib.ListN.{length, replicate, length-replicate, take, drop}
use lib.Seq.{paste, take_all}
use Rattle.laws.specs.Lists.{part, splice}
use Rattle.laws.proofs.Splices.{length_part}

-- the part from a to b has as many elements
pub filled_part : (l : List ℕ) (a b v : ℕ) (y : List ℕ) → a ≤ b → b ≤ length l → y ≡ replicate (length (take (b - a) (drop a l))) v
    → y ≡ replicate (b - a) v
unfolding part
filled_part l a b v y h k e =
    let n : length (take (b - a) (drop a l)) ≡ b - a = length_part l a (b - a) (omega arith) in
    rw n at e

pub pasted : (l : List ℕ) (a m v : ℕ) → paste l a (replicate m v) m ≡ splice l a (replicate m v)
unfolding splice
pasted l a m v =
    let n : length (replicate {A = ℕ} m v) ≡ m = length-replicate m v in
    rw (n, take_all m (replicate {A = ℕ} m v) (omega (arith, n)))

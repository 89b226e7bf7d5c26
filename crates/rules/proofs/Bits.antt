-- The bits of an AM byte: what a product tells of them is what the statement says, by one test of all 256 bytes that is computed; so are
-- the two tables right.
use mathlib.Core.Path.{◌≡◌, refl}
use mathlib.Core.Bool.{true}
use mathlib.Core.List.{List}
use Prim.Native.Nat.{ℕ, ◌+◌, ◌*◌, ◌/◌, ◌%◌, ◌<◌}
use lib.Bits.{bit_and}
use lib.ListN.{length}
use lib.Dec.{T, eqb}
use borrow.Author.Tests.{eqb-true}
use Rattle.laws.specs.Walks.{all_below}
use Rattle.laws.specs.Tests.{every_entry}
use Rattle.laws.proofs.Tables.{entry_of, entry_is}
use Rattle.laws.proofs.Walks.{all_each}
use Rattle.rules.specs.Descriptor.{class_of, Classes}
use Rattle.rules.specs.Group.{b7, b6, b5, b4, b3, b2, b1, group_length, Lengths}

-- the set bits of an AM byte, each alone in four bits, then summed in the highest four
abbrev spread : ℕ → ℕ
spread am = bit_and (am % 128 * 0x08040201 / 8) 0x11111111

every-count :
    all_below 256 (λ am. eqb (spread am * 0x11111111 / 0x10000000 % 16) (b7 am + b6 am + b5 am + b4 am + b3 am + b2 am + b1 am)) ≡ true
unfolding all_below
every-count = refl

pub count_bits : (am : ℕ) → am < 256 → spread am * 0x11111111 / 0x10000000 % 16 ≡ b7 am + b6 am + b5 am + b4 am + b3 am + b2 am + b1 am
count_bits am h =
    eqb-true _ _
    (all_each (λ am. eqb (spread am * 0x11111111 / 0x10000000 % 16) (b7 am + b6 am + b5 am + b4 am + b3 am + b2 am + b1 am)) 256 am h
    every-count)

-- the two tables
pub classes_by : (xs : List ℕ) → length xs ≡ 256 → T (every_entry (entry_of class_of) 0 xs) → Classes xs
classes_by xs e t = record { right = λ d l. entry_is class_of 256 d xs e t l }

pub lengths_by : (xs : List ℕ) → length xs ≡ 256 → T (every_entry (entry_of group_length) 0 xs) → Lengths xs
lengths_by xs e t = record { right = λ am l. entry_is group_length 256 am xs e t l }

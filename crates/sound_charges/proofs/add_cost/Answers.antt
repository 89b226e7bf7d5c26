-- `add_cost`: no file, a file in a directory that no image has, or one more cost in its sum.
use native.Mathlib.Omega.{arith}
use Rattle.sound_charges.proofs.Sums.{summed_free, summed_on, summed_off, sum-small}
use borrow.Author.Rules.{rules}
use Rattle.sound_charges.proofs.add_cost.Goals as goal

pub returns-then-not-is_file : goal.returns-then-not-is_file
returns-then-not-is_file c = search summed_free

pub overflow_add-sums : goal.overflow_add-sums
overflow_add-sums c =
    omega (
      arith,
      sum-small _ _ _ c.parent-d.result
          c.requires.summed (search rules),
    )

pub returns-then-d-lt1023 : goal.returns-then-d-lt1023
returns-then-d-lt1023 c = search summed_on

pub returns-else-d-lt1023 : goal.returns-else-d-lt1023
returns-else-d-lt1023 c = search summed_off

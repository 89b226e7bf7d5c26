-- `write`: `BIG`, or the three pieces of the text one behind the other.
use native.Mathlib.Omega.{arith}
use Rattle.text.proofs.Written.{same-room}
use Rattle.objects_text.proofs.Marks.{head_little}
use Rattle.objects_text.proofs.Listed.{too_big, all_told}
use borrow.Author.Rules.{rules}
use Rattle.objects_text.proofs.write.Goals as goal

pub returns-then-s-gt255 : goal.returns-then-s-gt255
returns-then-s-gt255 c = too_big _ c.if-s-gt255.true c.put.ensures

pub walk-lines-requires : goal.walk-lines-requires
walk-lines-requires c = (
  search rules,
  head_little _ c.put_head-head.ensures,
  omega (
    arith,
    c.requires,
    same-room _
        c.put_head-head.ensures,
  ),
)

pub put_reading-requires : goal.put_reading-requires
put_reading-requires c = (
  search rules,
  omega (
    arith,
    c.walk-lines.ensures.1,
    c.requires,
    same-room _
        c.put_head-head.ensures,
    same-room _
        c.walk-lines.ensures.0,
  ),
)

pub returns : goal.returns
returns c =
    all_told _ c.if-s-gt255.false
    c.put_head-head.ensures
    c.walk-lines.ensures.0 c.put_reading.ensures

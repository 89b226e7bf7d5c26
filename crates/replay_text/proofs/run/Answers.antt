use native.Mathlib.Omega.{arith}
use borrow.Author.Rules.{rules}
use mathlib.Core.Path.{sym, ◌∙◌}
use Rattle.replay_text.proofs.Lines.{two-left, whole}
use Rattle.replay_text.proofs.Turns.{start, out_sized, room_cut, cut-sized, room-line, ended, cut_off, goes_on}
use Rattle.replay_text.proofs.run.Goals as goal

pub loop-at-init : goal.loop-at-init
loop-at-init c = start _ _ _ c.requires.0 c.requires.1

pub put_cut-requires : goal.put_cut-requires
put_cut-requires c = room_cut c.loop-at.invariant

pub overflow_add-result : goal.overflow_add-result
overflow_add-result c = omega (arith, room_cut c.loop-at.invariant)

pub shape_of-image-then-cut_short : goal.shape_of-image-then-cut_short
shape_of-image-then-cut_short c = c.loop-at.invariant.sized

pub shape_of-out-then-cut_short : goal.shape_of-out-then-cut_short
shape_of-out-then-cut_short c = cut-sized c.loop-at.invariant _ c.put_cut.ensures

pub returns-then-cut_short : goal.returns-then-cut_short
returns-then-cut_short c =
    cut_off c.loop-at.invariant _
    c.loop-at-test.true
    (sym c.cut_short.ensures ∙ c.if-cut_short.true)
    c.put_cut.ensures

pub turn-requires : goal.turn-requires
turn-requires c = (
  (sym c.cut_short.ensures ∙ c.if-cut_short.false),
  room-line
      c.loop-at.invariant
      (sym c.cut_short.ensures ∙ c.if-cut_short.false),
)

pub overflow_add-put : goal.overflow_add-put
overflow_add-put c =
    omega (
      arith,
      room-line c.loop-at.invariant
          (sym c.cut_short.ensures
          ∙ c.if-cut_short.false),
    )

pub end_of-at-requires : goal.end_of-at-requires
end_of-at-requires c =
    two-left _ _
    (sym c.cut_short.ensures
    ∙ c.if-cut_short.false)

pub loop-at-smaller : goal.loop-at-smaller
loop-at-smaller c =
    omega (
      arith,
      c.end_of-at.ensures,
      c.loop-at-test.true,
      whole _ _
          (sym c.cut_short.ensures
          ∙ c.if-cut_short.false),
    )

pub loop-at-preserved : goal.loop-at-preserved
loop-at-preserved c =
    goes_on c.loop-at.invariant _ _ _
    c.loop-at-test.true
    (sym c.cut_short.ensures
    ∙ c.if-cut_short.false)
    c.end_of-at.ensures c.turn.ensures.0 (search rules)
    c.turn.ensures.1

pub shape_of-image : goal.shape_of-image
shape_of-image c = c.loop-at.invariant.sized

pub shape_of-out : goal.shape_of-out
shape_of-out c = out_sized c.loop-at.invariant

pub returns : goal.returns
returns c = ended c.loop-at.invariant c.loop-at-test.false

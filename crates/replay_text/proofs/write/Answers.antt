-- `write`: too big, a bad header, too many slots, or the card made and the stream run on it.
use mathlib.Core.Path.{ap, sym, ◌∙◌}
use mathlib.Core.Bool.{not}
use native.Mathlib.Omega.{arith}
use borrow.Author.Tests.{not-true, not-false}
use Rattle.text.proofs.Written.{same_text}
use Rattle.replay_text.proofs.Made.{header-long, too_big, bad-header, many_slots, played, cut_to}
use Rattle.replay_text.proofs.write.Goals as goal

pub returns-then-s-gt32768 : goal.returns-then-s-gt32768
returns-then-s-gt32768 c =
    too_big _ _ _ c.if-s-gt32768.true
    (omega (arith, c.requires)) c.copy_in.ensures

pub returns-then-not-good_header : goal.returns-then-not-good_header
returns-then-not-good_header c =
    same_text _ _ c.put_bad.ensures
    (bad-header _ c.if-s-gt32768.false
    (sym c.good_header.ensures
    ∙ not-true _ (ap not c.if-not-good_header.true)))

pub u16_at-n-requires : goal.u16_at-n-requires
u16_at-n-requires c = omega (arith, header-long _ (sym c.good_header.ensures ∙ not-false _ (ap not c.if-not-good_header.false)))

pub returns-then-n-gt1023 : goal.returns-then-n-gt1023
returns-then-n-gt1023 c =
    same_text _ _ c.put_bad-then-n-gt1023.ensures
    (many_slots _ _ c.if-s-gt32768.false
    (sym c.good_header.ensures
    ∙ not-false _ (ap not c.if-not-good_header.false))
    c.u16_at-n.ensures c.if-n-gt1023.true)

pub slice_bounds-perform-end : goal.slice_bounds-perform-end
slice_bounds-perform-end c = cut_to _ _ c.if-n-gt1023.false c.space-image.ensures

pub perform-requires : goal.perform-requires
perform-requires c = (
  header-long _
      (sym c.good_header.ensures
      ∙ not-false _ (ap not c.if-not-good_header.false)),
  omega (
    arith,
    c.requires,
    c.if-s-gt32768.false,
  ),
)

pub returns : goal.returns
returns c =
    same_text _ _ c.perform.ensures
    (played _ _ _ c.if-s-gt32768.false
    (sym c.good_header.ensures
    ∙ not-false _ (ap not c.if-not-good_header.false))
    c.u16_at-n.ensures
    (sym
    (cut_to _ _ c.if-n-gt1023.false
    c.space-image.ensures)))

-- `padding::unpadded_end`: the only place where the rule can end, tested.
use mathlib.Core.Path.{ap}
use mathlib.Core.Bool.{not}
use borrow.Author.Rules.{rules}
use Rattle.referred.proofs.Unpadded.{end-there, part-long}
use Rattle.referred.proofs.OneRule.{placed}
use Rattle.referred.proofs.padding.unpadded_end.Goals as goal

pub slice_bounds-well_formed-end : goal.slice_bounds-well_formed-end
slice_bounds-well_formed-end c = search part-long

pub returns-then-not-well_formed : goal.returns-then-not-well_formed
returns-then-not-well_formed c = (search placed, search rules)

pub returns-then-not-is_padding : goal.returns-then-not-is_padding
returns-then-not-is_padding c = (search placed, search rules)

pub returns : goal.returns
returns c = (
  end-there
      c.last_place-at.ensures
      c.well_formed-2.ensures
      c.is_padding.ensures
      (ap not c.if-not-well_formed.false)
      (ap not c.if-not-is_padding.false),
  search rules,
)

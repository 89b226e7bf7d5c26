-- `sent`: the part of the stream that the length announces.
use native.Mathlib.Omega.{arith}
use Rattle.replay_text.proofs.Lines.{two-left, whole, sent-part}
use Rattle.replay_text.proofs.sent.Goals as goal

pub end_of-to-requires : goal.end_of-to-requires
end_of-to-requires c = two-left _ _ c.requires

pub slice_bounds-result-end : goal.slice_bounds-result-end
slice_bounds-result-end c = omega (arith, c.end_of-to.ensures, whole _ _ c.requires)

pub returns : goal.returns
returns c = sent-part _ _ _ c.end_of-to.ensures

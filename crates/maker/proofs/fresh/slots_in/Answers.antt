-- `fresh::slots_in`: no slot in less than a header.
use mathlib.Core.Path.{ap}
use Prim.Native.Nat.{◌/◌}
use Rattle.maker.specs.Making.{slots_in}
use Rattle.maker.proofs.fresh.slots_in.Goals as goal

pub returns : goal.returns
unfolding slots_in
returns c = ap (λ k. k / 64) c.saturating_sub.ensures

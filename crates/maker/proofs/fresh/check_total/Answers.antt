-- `fresh::check_total`: at least 1, at most what the slots hold.
use mathlib.Core.Path.{refl}
use native.Mathlib.Omega.{arith}
use Rattle.laws.proofs.Says.{untrue}
use Rattle.maker.proofs.Buffers.{total-says}
use Rattle.maker.proofs.fresh.check_total.Goals.{then-total-lt1-via-then-total-lt1, then-total-lt1-via-else-total-lt1+then-n-total}
use Rattle.maker.proofs.fresh.check_total.Goals as goal

pub returns-then-total-lt1 : goal.returns-then-total-lt1
returns-then-total-lt1 c = (
  untrue _ (λ t.
      let h = (total-says _ _).0 t in
      elim c.then-total-lt1.branch [
        | then-total-lt1-via-then-total-lt1 w ↦ omega (arith, h.0, w.if-total-lt1.true)
        | then-total-lt1-via-else-total-lt1+then-n-total w ↦ omega (arith, h.1, w.if-n-total.true)
      ]),
  refl,
)

pub returns : goal.returns
returns c = (total-says _ _).1 (c.if-total-lt1.false, c.if-n-total.false)

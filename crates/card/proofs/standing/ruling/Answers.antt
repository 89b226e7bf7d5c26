-- `standing::ruling`: no card; or a law for each way out.
use Rattle.std.proofs.lemmas.Result.{err_from_is_err_and}
use Rattle.card.proofs.Ruled.{ruling_refused, ruling_past, ruling_within, ruling_free, ruling_stands, ruling_at}
use native.Mathlib.Omega.{arith}
use Rattle.card.proofs.standing.ruling.Goals as goal

pub returns-in_err-n : goal.returns-in_err-n
returns-in_err-n c =
    let p = err_from_is_err_and c.from_residual.result c.from_residual.ensures.1 in
    rw (p.1, p.2) (ruling_refused _ _ _ _ c.in_err-n.ensures, tt)

pub returns-then-n-s : goal.returns-then-n-s
returns-then-n-s c = (ruling_past _ _ _ c.in_ok-n.ensures c.if-n-s.true, record { order = omega arith; short = omega arith })

pub kind-requires : goal.kind-requires
kind-requires c = ruling_within _ _ _ c.in_ok-n.ensures c.if-n-s.false

pub returns-then-kind-eq-FREE : goal.returns-then-kind-eq-FREE
returns-then-kind-eq-FREE c = (
  ruling_free _ _ _ c.in_ok-n.ensures c.if-n-s.false c.kind.ensures c.if-kind-eq-FREE.true,
  record { order = omega arith; short = omega arith },
)

pub place-requires : goal.place-requires
place-requires c =
    let q = ruling_stands _ _ _ c.in_ok-n.ensures c.if-n-s.false c.kind.ensures c.if-kind-eq-FREE.false in
    record { rooted = q.0; stands = q.1 }

pub returns : goal.returns
returns c = (
  ruling_at _ _ _ c.in_ok-n.ensures c.if-n-s.false c.kind.ensures c.if-kind-eq-FREE.false c.place.ensures.0,
  c.place.ensures.1,
)

-- `fresh::make`: length and version, total, form and rule, in that order; only then is the buffer written.
use Rattle.std.proofs.lemmas.Result.{err_from_is_err_and}
use Rattle.maker.proofs.Buffers.{length_sized, version_low, rule_fits, made-length, made-total, made-rule, made-done}
use Rattle.maker.proofs.fresh.make.Goals as goal

pub returns-in_err-n : goal.returns-in_err-n
returns-in_err-n c =
    let p = err_from_is_err_and c.from_residual.result c.from_residual.ensures.1 in
    made-length _ _ _ _ _ c.in_err-n.ensures.0 (rw (p.1, p.2, c.in_err-n.ensures.1))

pub check_total-requires : goal.check_total-requires
check_total-requires c = let s = length_sized _ _ c.in_ok-n.ensures.0 c.in_ok-n.ensures.1 in (s.least, s.most)

pub returns-in_err-check_total : goal.returns-in_err-check_total
returns-in_err-check_total c =
    let p = err_from_is_err_and c.from_residual-in_err-check_total.result c.from_residual-in_err-check_total.ensures.1 in
    let d = c.in_err-check_total.ensures in
    made-total _ _ _ _ _ c.in_ok-n.ensures.0 c.in_ok-n.ensures.1 d.0 (rw (p.1, p.2, d.1))

pub returns-in_err-form : goal.returns-in_err-form
returns-in_err-form c =
    let p = err_from_is_err_and c.from_residual-in_err-form.result c.from_residual-in_err-form.ensures.1 in
    let d = c.in_err-form.ensures in
    made-rule _ _ _ _ _ c.in_ok-n.ensures.0 c.in_ok-n.ensures.1 c.in_ok-check_total.ensures d.0 (rw (p.1, p.2, d.1))

pub put_fresh-requires : goal.put_fresh-requires
put_fresh-requires c = (
  length_sized _ _ c.in_ok-n.ensures.0 c.in_ok-n.ensures.1,
  ((rule_fits _ _ _ c.in_ok-form.ensures.0).0, version_low _ _ c.in_ok-n.ensures.0 c.in_ok-n.ensures.1),
)

pub returns : goal.returns
returns c =
    made-done _ _ _ _ _ c.in_ok-n.ensures.0 c.in_ok-n.ensures.1 c.in_ok-check_total.ensures c.in_ok-form.ensures.0 c.in_ok-form.ensures.1
    c.put_fresh.ensures

-- `card::command`: no card; or judged, and too much to tell; or told and applied.
use Rattle.std.proofs.lemmas.Result.{err_from_is_err_and}
use Rattle.card.proofs.Called.{call_refused, checked_sound, call_tells, call_applies, call_short, call_done}
use Rattle.card.proofs.command.Goals as goal

pub returns-in_err-n : goal.returns-in_err-n
returns-in_err-n c =
    let p = err_from_is_err_and c.from_residual.result c.from_residual.ensures.1 in
    rw (p.1, p.2) (call_refused _ _ _ _ _ _ c.in_err-n.ensures)

pub judge-due-requires : goal.judge-due-requires
judge-due-requires c = checked_sound _ _ c.in_ok-n.ensures

pub tell-requires : goal.tell-requires
tell-requires c = call_tells _ _ _ _ c.in_ok-n.ensures c.judge-due.ensures

pub returns-in_err-told : goal.returns-in_err-told
returns-in_err-told c =
    let p = err_from_is_err_and c.from_residual-in_err-told.result c.from_residual-in_err-told.ensures.1 in
    rw (p.1, p.2) (call_short _ _ _ _ c.in_ok-n.ensures c.judge-due.ensures c.tell.ensures c.in_err-told.was)

pub denial-security-requires-clause-sound : goal.denial-security-requires-clause-sound
denial-security-requires-clause-sound c = checked_sound _ _ c.in_ok-n.ensures

pub apply-word-requires : goal.apply-word-requires
apply-word-requires c = call_applies _ _ _ _ c.in_ok-n.ensures c.judge-due.ensures

pub returns : goal.returns
returns c =
    call_done _ _ _ _ c.in_ok-n.ensures c.judge-due.ensures c.tell.ensures c.in_ok-told.was c.denial-security.ensures c.apply-word.ensures

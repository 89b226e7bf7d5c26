use mathlib.Core.Path.{sym, ◌∙◌}
use Rattle.text.proofs.Written.{same_text}
use Rattle.objects_text.proofs.Found.{is-whole, not-whole, its-line}
use Rattle.objects_text.proofs.Walking.{start, object-fits, stop_fits, goes_on, less, ended, stop_room}
use Rattle.objects_text.proofs.walk.Goals as goal

pub loop-object-init : goal.loop-object-init
loop-object-init c = start _ _ _ c.requires.0 c.requires.1 c.requires.2

pub put_object-put-requires : goal.put_object-put-requires
put_object-put-requires c =
    let e = sym c.in-Some.is ∙ c.object.ensures in
    (e, c.loop-object.invariant.low, object-fits c.loop-object.invariant (is-whole _ _ _ e))

pub loop-object-smaller : goal.loop-object-smaller
loop-object-smaller c =
    let e = sym c.in-Some.is ∙ c.object.ensures in
    less c.loop-object.invariant _ (is-whole _ _ _ e) c.after-at.ensures

pub loop-object-preserved : goal.loop-object-preserved
loop-object-preserved c =
    let e = sym c.in-Some.is ∙ c.object.ensures in
    goes_on c.loop-object.invariant _ _ _ (is-whole _ _ _ e) c.after-at.ensures
    (same_text _ _ c.put_object-put.ensures (its-line _ _ _ e))

pub put_stop-requires : goal.put_stop-requires
put_stop-requires c = (c.loop-object.invariant.low, stop_fits c.loop-object.invariant)

pub shape_of-out : goal.shape_of-out
shape_of-out c = stop_room c.loop-object.invariant _ _ c.put_stop.ensures

pub returns : goal.returns
returns c =
    ended c.loop-object.invariant _ _ (not-whole _ _ (sym c.in_default.is ∙ c.object.ensures))
    c.put_stop.ensures

-- `apply::create`: without a body, or room for it, the record and where its body starts.
use mathlib.Core.Path.{refl}
use Rattle.effect.proofs.Bodies.{made_bodiless, filled_bodiless, make-fits, enter_fits, start-low, made_bodied, filled_bodied}
use borrow.Author.Rules.{rules}
use Rattle.effect.proofs.apply.create.Goals as goal

pub returns-then-m-eq0 : goal.returns-then-m-eq0
returns-then-m-eq0 c = (refl, search made_bodiless, search filled_bodiless)

pub make-room-requires : goal.make-room-requires
make-room-requires c =
    let q =
    make-fits _ _ _ _ _ _ c.requires.within.1 c.version.ensures c.new_body-m.ensures
    c.requires.within.0.1 c.requires.laid.0 c.requires.laid.1 c.if-m-eq0.false in
    record { sized = q.0; laid = q.1.0; m_in_bounds = q.1.1 }

pub enter-requires-2 : goal.enter-requires-2
enter-requires-2 c =
    let q =
    enter_fits _ _ _ _ _ _ c.requires.within.1 c.version.ensures c.new_body-m.ensures
    c.requires.within.0.1 c.requires.laid.0 c.requires.laid.1 c.if-m-eq0.false
    _ _ _ c.make-room.ensures _ _ _ c.requires.within.0.0 c.requires.name_len_bound in
    record { within = q.0; name_len_bound = q.1 }

pub set_start-requires : goal.set_start-requires
set_start-requires c = (search rules, search start-low)

pub returns : goal.returns
returns c = (refl, search made_bodied, search filled_bodied)

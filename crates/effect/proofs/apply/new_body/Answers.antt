-- `apply::new_body`: an EF its size, where the version has bodies.
use Rattle.effect.proofs.Bodies.{body-never, body-other, body-ef}
use Rattle.effect.proofs.apply.new_body.Goals as goal

pub returns-then-not-has_bodies : goal.returns-then-not-has_bodies
returns-then-not-has_bodies c = search body-never

pub returns-then-head-ne-EF : goal.returns-then-head-ne-EF
returns-then-head-ne-EF c = search body-other

pub returns : goal.returns
returns c = search body-ef

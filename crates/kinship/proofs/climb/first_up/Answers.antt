use Rattle.kinship.proofs.Steps.{climb_start, climb_more, ask_start, ask_turn, ask_stop, ask_end}
use Rattle.kinship.proofs.climb.first_up.Goals as goal

pub loop-init : goal.loop-init
loop-init g c = (climb_start _ _ _ c.requires.stands, ask_start _ _ _)

pub asked-requires : goal.asked-requires
asked-requires g c = c.requires.asked _ c.loop.invariant.0.stands

pub returns-in-Some : goal.returns-in-Some
returns-in-Some g c =
    ask_stop _ _ _ _ _ _ c.loop.invariant.0 c.loop.invariant.1 c.level-end.ensures.0 c.loop-test.true c.asked.ensures c.in-Some.is

pub loop-preserved : goal.loop-preserved
loop-preserved g c = (
  climb_more _ _ _ _ _ _ c.requires.rooted c.loop.invariant.0 c.parent-t.ensures.0,
  ask_turn _ _ _ _ _ _ c.loop.invariant.0 c.loop.invariant.1 c.asked.ensures c.in_default.is,
)

pub returns : goal.returns
returns g c =
    ask_end _ _ _ _ _ _ c.loop.invariant.0 c.loop.invariant.1 _ c.level-end.ensures.0 c.loop.auto.counter-end c.loop-test.false

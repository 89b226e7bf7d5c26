-- `bodies`: no version but the third has any; there the test of the pool, which is as long as the root's total.
use Rattle.sound_test.proofs.Laying.{bodies_older, pool-short, bodies-laid}
use borrow.Author.Rules.{rules}
use Rattle.sound_test.proofs.bodies.Goals as goal

pub returns-then-not-has_bodies : goal.returns-then-not-has_bodies
returns-then-not-has_bodies c = search bodies_older

pub laid-requires : goal.laid-requires
laid-requires c = (search rules, search pool-short)

pub returns : goal.returns
returns c = search bodies-laid

-- `climb::terminated_up`: each slot on the way answers if it is terminated.
use mathlib.Core.Path.{◌∙◌}
use borrow.Author.Rules.{rules}
use Rattle.sound.specs.Kinship.{terminated_at, terminated_up}
use Rattle.kinship.proofs.Steps.{some_up}
use Rattle.kinship.proofs.climb.terminated_up.Goals as goal

pub returns : goal.returns
unfolding terminated_up terminated_at
returns c = c.is_some.ensures ∙ some_up _ _ _ c.requires.rooted c.requires.stands (terminated_at c.args.image.now) _ (λ t r h k. search rules) _ c.first_up.ensures

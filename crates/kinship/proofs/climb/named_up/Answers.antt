-- `climb::named_up`: each slot on the way answers if it has the identifier.
use mathlib.Core.Path.{◌∙◌}
use borrow.Author.Rules.{rules}
use Rattle.sound.specs.Table.{view_at, has_identifier}
use Rattle.sound.specs.Kinship.{named_up}
use Rattle.kinship.proofs.Steps.{some_up}
use Rattle.kinship.proofs.climb.named_up.Goals as goal

pub returns : goal.returns
unfolding named_up
returns c =
    c.is_some.ensures
    ∙ some_up _ _ _ c.requires.rooted c.requires.stands (has_identifier (view_at c.args.image.now) c.args.x) _ (λ t r h k. search rules) _ c.first_up.ensures

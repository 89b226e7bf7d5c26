-- `nearest::nearest`: each directory on the way up is asked for its file, if it has a mark.
use borrow.Author.Rules.{rules}
use Rattle.referred.proofs.Climbing.{nearest_up}
use Rattle.referred.proofs.nearest.nearest.Goals as goal

pub returns : goal.returns
returns c = nearest_up _ _ _ _ c.requires.rooted c.requires.stands _ (λ t r h k. search rules) _ c.first_up.ensures

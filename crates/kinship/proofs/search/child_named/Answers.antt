-- `search::child_named`: each slot is asked whether it is such a child.
use borrow.Author.Rules.{rules}
use Rattle.sound.specs.Table.{view_at}
use Rattle.sound.specs.Kinship.{is_child_named, child_named}
use Rattle.kinship.proofs.Foreign.{first_kin}
use Rattle.kinship.proofs.search.child_named.Goals as goal

pub returns : goal.returns
unfolding child_named
returns c =
    first_kin _ _ _ _ _ (is_child_named (view_at c.args.image.now) c.args.d c.args.x) (λ k e. e) (λ k r l a. search rules) _ c.first_kin.ensures

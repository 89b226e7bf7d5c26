-- `search::df_named`: each slot is asked whether it is such a child, and a DF.
use borrow.Author.Rules.{rules}
use Rattle.sound.specs.Table.{view_at}
use Rattle.kinship.specs.Search.{is_df_named, df_named}
use Rattle.kinship.proofs.Foreign.{first_kin, df-kin}
use Rattle.kinship.proofs.search.df_named.Goals as goal

pub returns : goal.returns
unfolding df_named
returns c =
    first_kin _ _ _ _ _ (is_df_named (view_at c.args.image.now) c.args.d c.args.x) (df-kin _ _ _) (λ k r l a. search rules) _ c.first_kin.ensures

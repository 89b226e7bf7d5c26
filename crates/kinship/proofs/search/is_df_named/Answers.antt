-- `search::is_df_named`: a child with identifier x, and a DF.
use Rattle.kinship.proofs.Foreign.{not_named, named-df}
use Rattle.kinship.proofs.search.is_df_named.Goals as goal

pub returns-then-not-is_child_named : goal.returns-then-not-is_child_named
returns-then-not-is_child_named c = search not_named

pub returns : goal.returns
returns c = search named-df

-- `plain::is_df_named`: a DF, and a child with identifier x.
use Rattle.laws.proofs.Chains.{got_and, ungot_and}
use mathlib.Core.Path.{refl}
use Rattle.kinship.specs.Search.{is_df_named}
use Rattle.searches.proofs.plain.is_df_named.Goals as goal

pub returns-then-kind-ne-DF : goal.returns-then-kind-ne-DF
unfolding is_df_named
returns-then-kind-ne-DF c = search (got_and, ungot_and, refl) depth 30

pub returns : goal.returns
unfolding is_df_named
returns c = search (got_and, ungot_and, refl) depth 30

-- `search_df`: the slot of the DF.
use Rattle.searches.proofs.Told.{is_sized, told_none, told-df}
use Rattle.searches.proofs.search_df.Goals as goal

pub returns-in_default : goal.returns-in_default
returns-in_default c = search told_none

pub df_named-requires : goal.df_named-requires
df_named-requires c = search is_sized

pub returns : goal.returns
returns c = search told-df

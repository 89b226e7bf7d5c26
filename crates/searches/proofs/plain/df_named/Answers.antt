-- `plain::df_named`: each slot is asked.
use mathlib.Core.Path.{◌≡◌}
use mathlib.Core.Bool.{true, false}
use borrow.Author.Rules.{rules}
use borrow.Author.Tests.{tests}
use Rattle.std.proofs.lemmas.Iterator.{first_from_Range}
use Rattle.laws.proofs.Firsts.{found_first}
use Rattle.sound.specs.Table.{view_at}
use Rattle.kinship.specs.Search.{is_df_named, df_named}
use Rattle.searches.proofs.plain.df_named.Goals as goal

pub returns : goal.returns
unfolding df_named
returns c =
    found_first (is_df_named (view_at c.args.image.now) c.args.d c.args.x) _ _
    (first_from_Range _ _ _ _ (λ k. is_df_named (view_at c.args.image.now) c.args.d c.args.x k ≡ true)
    (λ k. is_df_named (view_at c.args.image.now) c.args.d c.args.x k ≡ false) c.find.ensures.ran
    (λ x q k. search (rules, tests)) (λ x q k. search (rules, tests)))

-- `judge_commands::delete_file`: what the search found is a file.
use mathlib.Core.Path.{sym, ◌∙◌}
use Rattle.judge_target.proofs.FromSound.{child_stands}
use Rattle.judge_commands.proofs.delete_file.Goals as goal

pub deleting_it-requires : goal.deleting_it-requires
deleting_it-requires c = record { stands = child_stands _ _ _ _ _ (sym c.child_named.ensures ∙ c.in-Some.is) }

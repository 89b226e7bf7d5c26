-- `judge_commands::select_file`: what the search found is a file.
use mathlib.Core.Path.{sym, ◌∙◌}
use Rattle.judge_target.proofs.FromSound.{selected_stands}
use Rattle.judge_commands.proofs.select_file.Goals as goal

pub selecting_it-requires : goal.selecting_it-requires
selecting_it-requires c = record {
  s_lt_n = (selected_stands _ _ _ _ _ c.args.card.now.judgeable (sym c.select.ensures ∙ c.in-Some.is)).low;
}

-- `tell::tell_selected`: by P2.
use Rattle.effect.proofs.Told.{unasked, asked, chosen-told, chosen_tellable}
use Rattle.effect.proofs.tell.tell_selected.Goals as goal

pub returns-then-not-wants_template : goal.returns-then-not-wants_template
returns-then-not-wants_template c = search unasked

pub write-requires : goal.write-requires
write-requires c = search chosen_tellable

pub returns : goal.returns
returns c = search (asked, chosen-told)

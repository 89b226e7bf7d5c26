-- `own::ruled`: its form, how long it is, zeros from its end on, then the rule itself.
use mathlib.Core.Path.{ap}
use mathlib.Core.Bool.{not}
use Rattle.sound_records.proofs.Bytes.{ruling, form-known}
use borrow.Author.Rules.{rules}
use Rattle.sound_records.proofs.own.ruled.Goals as goal

pub returns-then-n-lt1 : goal.returns-then-n-lt1
returns-then-n-lt1 c = search ruling

pub returns-then-not-has_form : goal.returns-then-not-has_form
returns-then-not-has_form c = search ruling

pub ruled_long-requires : goal.ruled_long-requires
ruled_long-requires c = record { r_len = (search rules, (search rules, search rules)); form = form-known _ _ c.has_form.ensures (ap not c.if-not-has_form.false); end_value = search rules }

pub returns-then-not-after_rule : goal.returns-then-not-after_rule
returns-then-not-after_rule c = search ruling

pub returns : goal.returns
returns c = search ruling

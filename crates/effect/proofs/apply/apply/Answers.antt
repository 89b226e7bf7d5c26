-- `apply::apply`: name and rule of a new file are as long as CREATE's data may be.
use mathlib.Core.Path.{ap, ◌∙◌}
use Rattle.std.specs.Prelude.{Ok}
use Rattle.effect.proofs.Cases.{create-fits}
use Rattle.effect.proofs.apply.apply.Goals as goal

pub create-requires-clause-name_len_bound : goal.create-requires-clause-name_len_bound
create-requires-clause-name_len_bound c =
    let is = c.in-Ok-Create.is ∙ ap Ok (rw c.in-Ok-Create.is at c.in-Ok-Create.field-0-is) in
    (create-fits _ _ _ _ _ c.requires _ is _ _ c.sent-name.ensures c.sent-rule.ensures).1.0

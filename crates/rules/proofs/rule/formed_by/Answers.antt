-- `rule::formed_by`: one look for a rule of one group.
use Rattle.rules.proofs.Groups.{one-formed}
use Rattle.rules.proofs.rule.formed_by.Goals as goal

pub returns-then-from-rule : goal.returns-then-from-rule
returns-then-from-rule c = search one-formed

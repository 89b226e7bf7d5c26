-- `Card::decided`: the rule that decides is asked, in the form that it has.
use Rattle.access.specs.Decision.{decision_of}
use Rattle.judge_target.specs.Target.{decision_at}
use Rattle.judge_target.proofs.Ruling.{rule-of}
use borrow.Author.Rules.{rules}
use Rattle.judge_target.proofs.Card.decided.Goals as goal

pub deciding-rule-requires : goal.deciding-rule-requires
deciding-rule-requires c = record { rooted = search rules; stands = (search rules, c.args.self.now.judgeable.ruled _ c.requires.stands.low) }

pub returns : goal.returns
unfolding decision_at
returns c =
    rule-of (λ g l. decision_of g l c.args.right c.args.self.now.state.sets) _ _ _ _
    c.args.self.now.judgeable.count c.form.ensures c.asked_as-form.ensures
    c.deciding-rule.ensures c.decide.ensures.0

-- A rule in the file's own record is asked as it stands there.
use borrow.Author.Tests.{ne_eqb}
use Rattle.image.specs.Layout.{rec_at, count_of, form_of}
use Rattle.access.specs.Access.{referred, asked_as}
use Rattle.referred.proofs.Ticket.{own-rule}
use Rattle.judge_target.specs.Target.{allowed_at, decision_at, OwnRuleAsked}

pub own-rule-asked : OwnRuleAsked
unfolding allowed_at decision_at asked_as
own-rule-asked img pool s w short z right x = (
  rw (ne_eqb (form_of (rec_at img s)) referred z, (own-rule (count_of img) img pool s z).1 w short),
  rw (ne_eqb (form_of (rec_at img s)) referred z, (own-rule (count_of img) img pool s z).1 w short),
)

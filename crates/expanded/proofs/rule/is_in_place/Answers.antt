-- `rule::is_in_place`: its early returns are the lines of `in_place`, and the last of `formed` for what is no template.
use Rattle.laws.proofs.Branches.{tests, answers}
use Rattle.expanded.specs.Expanded.{in_place}
use Rattle.expanded.proofs.Rows.{place-plain}
use Rattle.expanded.proofs.rule.is_in_place.Goals as goal

pub returns-then-is_am : goal.returns-then-is_am
unfolding in_place
returns-then-is_am c = search (answers, tests) depth 30

pub returns-then-not-is_template : goal.returns-then-not-is_template
returns-then-not-is_template c = search place-plain

pub returns : goal.returns
unfolding in_place
returns c = search (answers, tests) depth 30

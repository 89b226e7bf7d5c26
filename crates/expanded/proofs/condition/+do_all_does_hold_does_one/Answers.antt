use mathlib.Core.Path.{refl, sym}
use Rattle.laws.proofs.Branches.{is_eq, not-eq}
use Rattle.expanded.specs.Condition.{holds}
use Rattle.expanded.proofs.Given.{told, each_over, each_fails, each_on, some_over, some_holds, some_on}
use Rattle.expanded.proofs.Nested.{holds-cut, holds-none, holds-deep}
use Rattle.expanded.proofs.condition.+do_all_does_hold_does_one.Goals as goal

pub do_all-returns-in_default : goal.do_all-returns-in_default
do_all-returns-in_default t c =
    each_fails c.loop-o.invariant c.in-Some.ensures.steps
    (told (holds c.args.left c.args.sets) c.in_default.is (sym (holds-cut c.args.left c.args.sets)) refl)

pub do_all-returns-then-not-does_hold : goal.do_all-returns-then-not-does_hold
do_all-returns-then-not-does_hold t c =
    each_fails c.loop-o.invariant c.in-Some.ensures.steps
    (told (holds c.args.left c.args.sets) c.in-Some-o.is c.does_hold.ensures c.if-not-does_hold.true)

pub do_all-loop-o-preserved : goal.do_all-loop-o-preserved
do_all-loop-o-preserved t c =
    each_on c.loop-o.invariant c.in-Some.ensures.steps
    (told (holds c.args.left c.args.sets) c.in-Some-o.is c.does_hold.ensures c.if-not-does_hold.false)

pub do_all-returns : goal.do_all-returns
do_all-returns t c = each_over c.loop-o.invariant c.in-None.ensures.steps.0

pub does_one-loop-o-preserved-in_default : goal.does_one-loop-o-preserved-in_default
does_one-loop-o-preserved-in_default t c =
    some_on c.loop-o.invariant c.in-Some.ensures.steps
    (told (holds c.args.left c.args.sets) c.in_default.is (sym (holds-cut c.args.left c.args.sets)) refl)

pub does_one-returns-then-does_hold : goal.does_one-returns-then-does_hold
does_one-returns-then-does_hold t c =
    some_holds c.loop-o.invariant c.in-Some.ensures.steps
    (told (holds c.args.left c.args.sets) c.in-Some-o.is c.does_hold.ensures c.if-does_hold.true)

pub does_one-loop-o-preserved : goal.does_one-loop-o-preserved
does_one-loop-o-preserved t c =
    some_on c.loop-o.invariant c.in-Some.ensures.steps
    (told (holds c.args.left c.args.sets) c.in-Some-o.is c.does_hold.ensures c.if-does_hold.false)

pub does_one-returns : goal.does_one-returns
does_one-returns t c = some_over c.loop-o.invariant c.in-None.ensures.steps.0

pub does_hold-returns-then-left-eq0 : goal.does_hold-returns-then-left-eq0
does_hold-returns-then-left-eq0 t c = search (holds-none, holds-deep, is_eq, not-eq, refl) depth 30

pub does_hold-returns-then-tag-eq-ONE_OF : goal.does_hold-returns-then-tag-eq-ONE_OF
does_hold-returns-then-tag-eq-ONE_OF t c = search (holds-none, holds-deep, is_eq, not-eq, refl) depth 30

pub does_hold-returns-then-tag-eq-ALL_OF : goal.does_hold-returns-then-tag-eq-ALL_OF
does_hold-returns-then-tag-eq-ALL_OF t c = search (holds-none, holds-deep, is_eq, not-eq, refl) depth 30

pub does_hold-returns : goal.does_hold-returns
does_hold-returns t c = search (holds-none, holds-deep, is_eq, not-eq, refl) depth 30

use mathlib.Core.Path.{ap}
use mathlib.Core.Bool.{not}
use Rattle.expanded.proofs.Rows.{goings, going_next}
use Rattle.expanded.proofs.Standing.{going_plain, going_am}
use Rattle.expanded.proofs.rule.well_formed.Goals as goal

pub returns-then-rule-lt1 : goal.returns-then-rule-lt1
returns-then-rule-lt1 c = search goings

pub returns-then-rule : goal.returns-then-rule
returns-then-rule c = search goings

pub loop-at-init : goal.loop-at-init
loop-at-init c = search goings

pub loop-at-preserved-then-begins_at : goal.loop-at-preserved-then-begins_at
loop-at-preserved-then-begins_at c = search going_am

pub loop-at-preserved-then-is_byte_at : goal.loop-at-preserved-then-is_byte_at
loop-at-preserved-then-is_byte_at c = search going_plain

pub loop-at-preserved-then-is_constant_at : goal.loop-at-preserved-then-is_constant_at
loop-at-preserved-then-is_constant_at c = search going_plain

pub returns-then-to-at-lt2 : goal.returns-then-to-at-lt2
returns-then-to-at-lt2 c = search goings

pub returns-then-not-is_in_place : goal.returns-then-not-is_in_place
returns-then-not-is_in_place c = search goings

pub loop-at-preserved : goal.loop-at-preserved
loop-at-preserved c =
    going_next
    c.loop-at.invariant
    c.end-to.ensures
    c.if-to-at-lt2.false
    c.is_in_place.ensures
    (ap not c.if-not-is_in_place.false)
    c.is_am-due.ensures

pub returns : goal.returns
returns c = search goings

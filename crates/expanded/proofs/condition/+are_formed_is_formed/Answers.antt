use mathlib.Core.Path.{refl}
use Rattle.laws.proofs.Branches.{called_not, refused-not}
use Rattle.laws.proofs.Chains.{calls}
use Rattle.expanded.proofs.Objects.{eachs}
use Rattle.expanded.proofs.Nested.{formed-cut, formed-none, formed-deep}
use Rattle.expanded.proofs.Standing.{each_plain}
use Rattle.expanded.proofs.condition.+are_formed_is_formed.Goals as goal

pub are_formed-loop-at-init : goal.are_formed-loop-at-init
are_formed-loop-at-init t c = search (eachs, formed-cut)

pub are_formed-loop-at-preserved-then-is_byte_at : goal.are_formed-loop-at-preserved-then-is_byte_at
are_formed-loop-at-preserved-then-is_byte_at t c = search each_plain

pub are_formed-loop-at-preserved-then-is_constant_at : goal.are_formed-loop-at-preserved-then-is_constant_at
are_formed-loop-at-preserved-then-is_constant_at t c = search each_plain

pub are_formed-returns-then-to-at-lt2 : goal.are_formed-returns-then-to-at-lt2
are_formed-returns-then-to-at-lt2 t c = search (eachs, formed-cut)

pub are_formed-returns-then-not-is_formed : goal.are_formed-returns-then-not-is_formed
are_formed-returns-then-not-is_formed t c = search (eachs, formed-cut)

pub are_formed-loop-at-preserved : goal.are_formed-loop-at-preserved
are_formed-loop-at-preserved t c = search (eachs, formed-cut)

pub are_formed-returns : goal.are_formed-returns
are_formed-returns t c = search (eachs, formed-cut)

pub is_formed-returns-then-left-eq0 : goal.is_formed-returns-then-left-eq0
is_formed-returns-then-left-eq0 t c = search (formed-none, formed-deep, called_not, refused-not, calls, refl) depth 30

pub is_formed-returns-then-not-is_template : goal.is_formed-returns-then-not-is_template
is_formed-returns-then-not-is_template t c = search (formed-none, formed-deep, called_not, refused-not, calls, refl) depth 30

pub is_formed-returns-then-not-has_several : goal.is_formed-returns-then-not-has_several
is_formed-returns-then-not-has_several t c = search (formed-none, formed-deep, called_not, refused-not, calls, refl) depth 30

pub is_formed-returns : goal.is_formed-returns
is_formed-returns t c = search (formed-none, formed-deep, called_not, refused-not, calls, refl) depth 30

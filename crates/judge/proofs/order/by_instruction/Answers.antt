-- `order::by_instruction`: what a fit length says, by the instruction.
use mathlib.Core.Path.{refl}
use Rattle.judge.proofs.Plans.{select-long, delete-long, create-long, body-long}
use Rattle.judge.proofs.order.by_instruction.Goals as goal

pub sent_identifier-requires : goal.sent_identifier-requires
sent_identifier-requires c = select-long _ c.requires.in_bounds.1 refl c.in-164.is

pub sent_data-requires : goal.sent_data-requires
sent_data-requires c = create-long _ c.requires.in_bounds.1 refl c.in-224.is

pub sent_identifier-requires-in-228 : goal.sent_identifier-requires-in-228
sent_identifier-requires-in-228 c = delete-long _ c.requires.in_bounds.1 refl c.in-228.is

pub on_body-requires : goal.on_body-requires
on_body-requires c = record { in_bounds = body-long _ c.requires.in_bounds.1 refl c.is_body.ensures c.if-is_body.true }

-- `answer::fill` writes 62 LL and object after object, each where the one before ended.
use mathlib.Core.Path.{ap, ◌∙◌}
use native.Mathlib.Omega.{arith}
use lib.ListN.{length}
use Rattle.image.specs.Layout.{rec_at}
use Rattle.access.specs.Access.{tag_of}
use Rattle.fcp.specs.Template.{rule_tag}
use Rattle.fcp.proofs.Pieces.{rule_fits, two-bytes, identifier-told, life-told, rule-told, size-told}
use Rattle.fcp.proofs.Filled.{long-sum, filled}
use Rattle.fcp.proofs.answer.fill.Goals as goal

pub overflow_sub-n : goal.overflow_sub-n
overflow_sub-n c = omega (arith, long-sum (rec_at c.args.image.now c.args.s))

pub put-a-requires : goal.put-a-requires
put-a-requires c = omega (arith, long-sum (rec_at c.args.image.now c.args.s))

pub put_descriptor-b-requires : goal.put_descriptor-b-requires
put_descriptor-b-requires c = (c.requires.tellable, omega (arith, long-sum (rec_at c.args.image.now c.args.s)))

pub put-c-requires : goal.put-c-requires
put-c-requires c = (
  omega (arith, long-sum (rec_at c.args.image.now c.args.s), c.put-a.ensures.long, c.put_descriptor-b.ensures.long, ap length c.to_be_bytes.ensures),
  omega (arith, ap length c.to_be_bytes.ensures),
)

pub put_name-d-requires : goal.put_name-d-requires
put_name-d-requires c = (
  c.requires.tellable,
  omega (arith, long-sum (rec_at c.args.image.now c.args.s), c.put-a.ensures.long, c.put_descriptor-b.ensures.long, c.put-c.ensures.long, ap length c.to_be_bytes.ensures),
)

pub put-e-requires : goal.put-e-requires
put-e-requires c = (
  omega (
    arith,
    long-sum (rec_at c.args.image.now c.args.s),
    c.put-a.ensures.long,
    c.put_descriptor-b.ensures.long,
    c.put-c.ensures.long,
    ap length c.to_be_bytes.ensures,
    c.put_name-d.ensures.long,
  ),
  omega arith,
)

pub put-f-requires : goal.put-f-requires
put-f-requires c = (
  omega (
    arith,
    long-sum (rec_at c.args.image.now c.args.s),
    c.put-a.ensures.long,
    c.put_descriptor-b.ensures.long,
    c.put-c.ensures.long,
    ap length c.to_be_bytes.ensures,
    c.put_name-d.ensures.long,
    c.put-e.ensures.long,
    ap length c.rule.ensures,
  ),
  omega (arith, rule_fits _ c.rule.ensures c.requires.tellable.rule),
)

pub put-requires : goal.put-requires
put-requires c = (
  omega (
    arith,
    long-sum (rec_at c.args.image.now c.args.s),
    c.put-a.ensures.long,
    c.put_descriptor-b.ensures.long,
    c.put-c.ensures.long,
    ap length c.to_be_bytes.ensures,
    c.put_name-d.ensures.long,
    c.put-e.ensures.long,
    c.put-f.ensures.long,
    ap length c.rule.ensures,
    ap length c.to_be_bytes-2.ensures,
  ),
  omega (arith, ap length c.to_be_bytes-2.ensures),
)

pub returns : goal.returns
unfolding rule_tag
returns c =
    let r = rec_at c.args.image.now c.args.s in
    filled r c.requires.n_value.0
    c.put-a.ensures
    c.put_descriptor-b.ensures
    (identifier-told r (two-bytes c.to_be_bytes.ensures c.identifier.type_inv c.identifier.ensures) c.put-c.ensures)
    c.put_name-d.ensures
    (life-told r c.life_cycle.ensures c.put-e.ensures)
    (rule-told r (c.tag_of.ensures ∙ ap tag_of c.form.ensures) c.rule.ensures c.put-f.ensures)
    (size-told r c.size_tag.ensures (two-bytes c.to_be_bytes-2.ensures (omega (arith, c.requires.tellable.size, c.size-size.ensures.0)) c.size-size.ensures.0) c.put.ensures)

use mathlib.Core.Path.{ap}
use mathlib.Core.Bool.{not}
use Rattle.laws.proofs.Walks.{all-zero, all_turn, all_stop, all_end}
use Rattle.image.specs.Layout.{rec_at}
use Rattle.sound.specs.Own.{ownb}
use Rattle.sound_records.proofs.Bytes.{records_by}
use borrow.Author.Rules.{rules}
use Rattle.sound_records.proofs.own.records.Goals as goal

pub loop-s-init : goal.loop-s-init
loop-s-init c = (search rules, all-zero _)

pub returns-then-not-good_at : goal.returns-then-not-good_at
returns-then-not-good_at c =
    records_by _ _ _ c.version.ensures
    (all_stop (λ t. ownb _ (rec_at _ t)) _ _ _ (search rules) c.good_at.ensures (ap not c.if-not-good_at.true))

pub loop-s-preserved : goal.loop-s-preserved
loop-s-preserved c = (
  search rules,
  all_turn (λ t. ownb _ (rec_at _ t)) _ _ c.loop-s.invariant.1
      c.good_at.ensures (ap not c.if-not-good_at.false),
)

pub returns : goal.returns
returns c =
    records_by _ _ _ c.version.ensures
    (all_end (λ t. ownb _ (rec_at _ t)) _ _ c.loop-s.invariant.0 (search rules) c.loop-s.invariant.1)

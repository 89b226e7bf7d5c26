-- `sound`: the header, each record, what holds between them, what is current, where bodies lie; each test makes the next one safe.
use mathlib.Core.Path.{ap, refl}
use mathlib.Core.Bool.{not}
use Rattle.laws.proofs.Chains.{refused-and}
use Rattle.sound.specs.Sound.{soundb}
use Rattle.sound_test.proofs.Passed.{header-some, header-sized, sound-records, sound-kin, sound-current, sound-last, passed}
use Rattle.sound_test.proofs.sound.Goals as goal

pub returns-then-not-agrees : goal.returns-then-not-agrees
unfolding soundb
returns-then-not-agrees c = search (refused-and, refl)

pub count-n-requires : goal.count-n-requires
count-n-requires c = header-some _ _ c.agrees.ensures (ap not c.if-not-agrees.false)

pub records-requires : goal.records-requires
records-requires c = header-sized _ _ c.agrees.ensures (ap not c.if-not-agrees.false) _ c.count-n.ensures.0

pub returns-then-not-records : goal.returns-then-not-records
returns-then-not-records c =
    sound-records _ _ c.agrees.ensures (ap not c.if-not-agrees.false) _
    c.count-n.ensures.0 _ c.records.ensures (ap not c.if-not-records.true)

pub kin-requires : goal.kin-requires
kin-requires c = record {
  sized = header-sized _ _ c.agrees.ensures (ap not c.if-not-agrees.false) _
      c.count-n.ensures.0;
  n_value = passed _ _ c.records.ensures (ap not c.if-not-records.false);
}

pub returns-then-not-kin : goal.returns-then-not-kin
returns-then-not-kin c =
    sound-kin _ _ c.agrees.ensures
    (ap not c.if-not-agrees.false) _ c.count-n.ensures.0 _
    c.records.ensures (ap not c.if-not-records.false) _ c.kin.ensures (ap not c.if-not-kin.true)

pub stands-requires : goal.stands-requires
stands-requires c =
    header-sized _ _ c.agrees.ensures
    (ap not c.if-not-agrees.false) _ c.count-n.ensures.0

pub returns-then-not-stands : goal.returns-then-not-stands
returns-then-not-stands c =
    sound-current _ _ c.agrees.ensures
    (ap not c.if-not-agrees.false) _
    c.count-n.ensures.0 _
    c.records.ensures (ap not c.if-not-records.false) _ c.kin.ensures
    (ap not c.if-not-kin.false) _ c.stands.ensures (ap not c.if-not-stands.true)

pub bodies-requires : goal.bodies-requires
bodies-requires c = (
  header-sized _ _ c.agrees.ensures
      (ap not c.if-not-agrees.false) _
      c.count-n.ensures.0,
  (c.count-n.ensures.0, passed _ _ c.kin.ensures (ap not c.if-not-kin.false)),
)

pub returns : goal.returns
returns c =
    sound-last _ _ c.agrees.ensures
    (ap not c.if-not-agrees.false) _
    c.count-n.ensures.0 _
    c.records.ensures (ap not c.if-not-records.false) _ c.kin.ensures
    (ap not c.if-not-kin.false) _ c.stands.ensures
    (ap not c.if-not-stands.false) _ c.bodies.ensures

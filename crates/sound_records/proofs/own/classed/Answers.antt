-- `own::classed`: kind, descriptor, life cycle, identifier, in that order.
use mathlib.Core.Path.{refl}
use Rattle.laws.proofs.Chains.{calls, ne-and, eq-and}
use Rattle.image.specs.Layout.{descriptor_of, kind_of, life_cycle_of, identifier_of}
use Rattle.sound.specs.Own.{classedb}
use Rattle.sound_records.proofs.Bytes.{class-not, class-and, identifier-last}
use Rattle.sound_records.proofs.own.classed.Goals as goal

pub returns-then-by-d : goal.returns-then-by-d
unfolding classedb descriptor_of kind_of life_cycle_of identifier_of
returns-then-by-d c = search (class-not, class-and, calls, ne-and, eq-and, identifier-last, refl) depth 30

pub returns-then-not-is_known : goal.returns-then-not-is_known
unfolding classedb descriptor_of kind_of life_cycle_of identifier_of
returns-then-not-is_known c = search (class-not, class-and, calls, ne-and, eq-and, identifier-last, refl) depth 30

pub returns : goal.returns
unfolding classedb descriptor_of kind_of life_cycle_of identifier_of
returns c = search (class-not, class-and, calls, ne-and, eq-and, identifier-last, refl) depth 30

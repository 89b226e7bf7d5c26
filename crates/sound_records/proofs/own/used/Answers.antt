-- `own::used`: the parts of a used record, in that order.
use mathlib.Core.Path.{refl}
use Rattle.laws.proofs.Chains.{calls}
use Rattle.sound.specs.Own.{usedb}
use Rattle.sound_records.proofs.own.used.Goals as goal

pub returns-then-not-classed : goal.returns-then-not-classed
unfolding usedb
returns-then-not-classed c = search (calls, refl) depth 30

pub returns-then-not-measured : goal.returns-then-not-measured
unfolding usedb
returns-then-not-measured c = search (calls, refl) depth 30

pub returns-then-not-name_fits : goal.returns-then-not-name_fits
unfolding usedb
returns-then-not-name_fits c = search (calls, refl) depth 30

pub returns : goal.returns
unfolding usedb
returns c = search (calls, refl) depth 30

-- `root::stands`: kind, identifier, parent, level and total of slot 0, in that order.
use mathlib.Core.Path.{refl}
use Rattle.laws.proofs.Chains.{ungot_and, got_and}
use Rattle.sound.specs.Kin.{rootb}
use Rattle.sound_test.proofs.Parts.{le-last}
use Rattle.sound_test.proofs.root.stands.Goals as goal

pub returns-then-kind-ne-DF : goal.returns-then-kind-ne-DF
unfolding rootb
returns-then-kind-ne-DF c = search (ungot_and, got_and, refl, le-last) depth 30

pub returns-then-identifier-ne16128 : goal.returns-then-identifier-ne16128
unfolding rootb
returns-then-identifier-ne16128 c = search (ungot_and, got_and, refl, le-last) depth 30

pub returns-then-parent-ne0 : goal.returns-then-parent-ne0
unfolding rootb
returns-then-parent-ne0 c = search (ungot_and, got_and, refl, le-last) depth 30

pub returns-then-level-ne0 : goal.returns-then-level-ne0
unfolding rootb
returns-then-level-ne0 c = search (ungot_and, got_and, refl, le-last) depth 30

pub returns : goal.returns
unfolding rootb
returns c = search (ungot_and, got_and, refl, le-last) depth 30

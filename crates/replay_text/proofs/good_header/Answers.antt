-- `good_header`: each early return is the test of the header that fails there.
use Rattle.replay_text.specs.Replay.{good_header}
use Rattle.laws.proofs.Chains.{le-and, gt_and, eq-and, ne-and}
use Rattle.laws.proofs.Branches.{tested}
use mathlib.Core.Path.{refl}
use Rattle.replay_text.proofs.good_header.Goals as goal

pub returns-then-s-lt11 : goal.returns-then-s-lt11
unfolding good_header
returns-then-s-lt11 c = search (le-and, gt_and, eq-and, ne-and, refl) depth 30

pub returns-then-s-ne85 : goal.returns-then-s-ne85
unfolding good_header
returns-then-s-ne85 c = search (le-and, gt_and, eq-and, ne-and, refl) depth 30

pub returns-then-s-ne70 : goal.returns-then-s-ne70
unfolding good_header
returns-then-s-ne70 c = search (le-and, gt_and, eq-and, ne-and, refl) depth 30

pub returns-then-s-ne83 : goal.returns-then-s-ne83
unfolding good_header
returns-then-s-ne83 c = search (le-and, gt_and, eq-and, ne-and, refl) depth 30

pub returns : goal.returns
unfolding good_header
returns c = search (le-and, eq-and, tested) depth 30

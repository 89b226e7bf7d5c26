-- `settle`: known already, a free record, told at once, or found and spread.
use Rattle.subtree.proofs.Way.{stands_read}
use Rattle.subtree.proofs.Marks.{settled_known, settled_free, settled_once, settled_new}
use borrow.Author.Rules.{rules}
use Rattle.subtree.proofs.settle.Goals as goal

pub returns-then-marks-s-ne0 : goal.returns-then-marks-s-ne0
returns-then-marks-s-ne0 c = search settled_known

pub returns-then-kind-eq-FREE : goal.returns-then-kind-eq-FREE
returns-then-kind-eq-FREE c = search settled_free

pub at_once-known-requires : goal.at_once-known-requires
at_once-known-requires c = search stands_read

pub returns-then-known-ne0 : goal.returns-then-known-ne0
returns-then-known-ne0 c = search settled_once

pub find-mark-requires : goal.find-mark-requires
find-mark-requires c = search stands_read

pub spread-requires : goal.spread-requires
spread-requires c = record { rooted = search rules; d_lt_n = (search rules, search stands_read); known = search rules; mark_value = search rules }

pub returns : goal.returns
returns c = search settled_new

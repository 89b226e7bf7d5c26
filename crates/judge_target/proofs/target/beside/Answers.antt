-- `target::beside`: the parent, else what lies near.
use Rattle.judge_target.proofs.Finding.{try_yes, try_no}
use mathlib.Core.Path.{refl}
use Rattle.judge_target.proofs.target.beside.Goals as goal

pub returns-then-identifier-x : goal.returns-then-identifier-x
returns-then-identifier-x c = search (try_yes, try_no, refl) depth 30

pub returns : goal.returns
returns c = search (try_yes, try_no, refl) depth 30

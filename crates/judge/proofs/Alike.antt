-- Judging looks at the pool for rules alone: where the same rules decide, the verdict is the same.
use mathlib.Core.Path.{◌≡◌}
use mathlib.Core.List.{List}
use Prim.Native.Nat.{ℕ}
use Rattle.verdict.specs.declared.State.{State}
use Rattle.judge_target.specs.Target.{rule_at}
use Rattle.judge_target.proofs.Ruling.{allowed_alike}
use Rattle.judge_commands.specs.Commands.{may_delete}
use Rattle.judge_bodies.specs.Bodies.{binary, recordwise}
use Rattle.judge.specs.Judge.{life_plan, body_plan, plan_for, judge_for, judge_of}

pub judge_alike : (img pool other c : List ℕ) (st : State) → ((s : ℕ) → rule_at img pool s ≡ rule_at img other s)
    → judge_of img pool c st ≡ judge_of img other c st
unfolding judge_of judge_for plan_for life_plan body_plan binary recordwise may_delete
judge_alike img pool other c st same = rw (allowed_alike img pool other same)

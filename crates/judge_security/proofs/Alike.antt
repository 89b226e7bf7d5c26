-- What a verdict says of security looks at the pool for rules alone.
use mathlib.Core.Path.{◌≡◌}
use mathlib.Core.List.{List}
use Prim.Native.Nat.{ℕ}
use Rattle.rules.specs.declared.Sets.{Sets}
use Rattle.verdict.specs.Applied.{Verdict}
use Rattle.judge_target.specs.Target.{rule_at}
use Rattle.judge_target.proofs.Ruling.{decided_alike}
use Rattle.judge_security.specs.Security.{ef_decision, deletion, life_decision, decision_for, step_j, denial_of}

pub denial_alike : (img pool other c : List ℕ) (x : Sets) (v : Verdict) → ((s : ℕ) → rule_at img pool s ≡ rule_at img other s)
    → denial_of img pool c x v ≡ denial_of img other c x v
unfolding denial_of step_j decision_for ef_decision deletion life_decision
denial_alike img pool other c x v same = rw (decided_alike img pool other same)

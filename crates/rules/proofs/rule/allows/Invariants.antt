-- `rule::allows`: the invariant is what is left of the walk over the groups.
use Prim.Native.Nat.{◌-◌}
use lib.ListN.{length}
use Rattle.rules.proofs.Groups.{Allowing}
use Rattle.rules.proofs.rule.allows.Given as goal

abbrev pub invariant-loop-here : goal.invariant-loop-here
invariant-loop-here l = Allowing l.rule l.k l.sets l.here

abbrev pub decreases-loop-here : goal.decreases-loop-here
decreases-loop-here l = length l.rule - l.here

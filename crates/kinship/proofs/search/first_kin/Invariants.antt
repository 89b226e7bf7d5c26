-- `search::first_kin`: the invariant is that each such child among the slots passed was asked, and not taken.
use Prim.Native.Nat.{◌-◌, ◌≤◌}
use Rattle.sound.specs.Table.{view_at}
use Rattle.kinship.specs.Search.{NoneAsked}
use Rattle.kinship.proofs.search.first_kin.Given as goal

abbrev pub invariant-loop-s : goal.invariant-loop-s
invariant-loop-s g l = (l.s ≤ l.n) × NoneAsked (view_at l.image) l.d l.x (goal.F-post g l.asked) l.s

abbrev pub decreases-loop-s : goal.decreases-loop-s
decreases-loop-s g l = l.n - l.s

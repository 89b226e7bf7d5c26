-- `rule::opens_one`: each object in its turn, with the AM byte that counts there.
use Rattle.std.specs.Prelude.{Option}
use Rattle.std.specs.Borrow.{Bor}
use Prim.Native.Nat.{ℕ}
use mathlib.Core.List.{List}
use mathlib.Core.Path.{refl, sym, ap, ◌∙◌}
use Rattle.expanded.specs.Object.{given}
use Rattle.expanded.specs.Expanded.{am_after, opens}
use Rattle.expanded.proofs.Given.{told}
use Rattle.expanded.proofs.Rows.{open_cut, after_cut, closed-over, closed-yes, closed-on}
use Rattle.expanded.proofs.rule.opens_one.Goals as goal

pub loop-o-preserved-in_default : goal.loop-o-preserved-in_default
loop-o-preserved-in_default c =
    closed-on c.loop-o.invariant c.in-Some.ensures.steps
    (told (opens c.args.bit c.args.sets c.loop-o.am) c.in_default.is (sym (open_cut c.args.bit c.args.sets c.loop-o.am)) refl)
    (after_cut c.loop-o.am ∙ sym (ap (λ (o : Option (ℕ × Bor (List ℕ))). am_after c.loop-o.am (given o)) c.in_default.is))

pub returns-then-does_open : goal.returns-then-does_open
returns-then-does_open c =
    closed-yes c.loop-o.invariant c.in-Some.ensures.steps
    (told (opens c.args.bit c.args.sets c.loop-o.am) c.in-Some-o.is c.does_open.ensures c.if-does_open.true)

pub loop-o-preserved : goal.loop-o-preserved
loop-o-preserved c =
    closed-on c.loop-o.invariant c.in-Some.ensures.steps
    (told (opens c.args.bit c.args.sets c.loop-o.am) c.in-Some-o.is c.does_open.ensures c.if-does_open.false)
    (c.am_after-am.ensures ∙ sym (ap (λ (o : Option (ℕ × Bor (List ℕ))). am_after c.loop-o.am (given o)) c.in-Some-o.is))

pub returns : goal.returns
returns c = closed-over c.loop-o.invariant c.in-None.ensures.steps.0

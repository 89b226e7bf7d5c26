use mathlib.Core.Path.{◌≡◌, sym, ◌∙◌}
use native.Mathlib.Omega.{arith}
use borrow.Author.Tests.{eq-eqb, ne_eqb}
use Rattle.laws.proofs.Firsts.{first-zero, first_more, first-at}
use Rattle.sound.specs.Kinship.{free_slot}
use borrow.Author.Rules.{rules}
use Rattle.kinship.proofs.search.free_slot.Goals as goal

pub loop-s-init : goal.loop-s-init
loop-s-init c = (search rules, first-zero _)

pub loop-s-preserved : goal.loop-s-preserved
loop-s-preserved c = (
  search rules,
  first_more _ _ c.loop-s.invariant.1
      (ne_eqb _ _ (λ e. c.if-kind-eq-FREE.false (c.kind.ensures ∙ e))),
)

pub returns-then-n-s : goal.returns-then-n-s
unfolding free_slot
returns-then-n-s c =
    let e : c.loop-s.s ≡ c.args.n = omega (arith, c.loop-s.invariant.0, c.if-n-s.true) in
    sym (rw e at c.loop-s.invariant.1)

pub returns-then-kind-eq-FREE : goal.returns-then-kind-eq-FREE
unfolding free_slot
returns-then-kind-eq-FREE c =
    sym
    (first-at _ _ _ (search rules) c.loop-s.invariant.1
    (eq-eqb _ _ (sym c.kind.ensures ∙ c.if-kind-eq-FREE.true)))

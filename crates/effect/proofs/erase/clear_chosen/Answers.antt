use mathlib.Core.Path.{◌≡◌, sym}
use native.Mathlib.Omega.{arith}
use borrow.Author.Rules.{rules}
use Rattle.sound.proofs.Cleared.{clear_none, clear_turn}
use Rattle.effect.proofs.erase.clear_chosen.Goals as goal

pub loop-s-init : goal.loop-s-init
loop-s-init c = (search rules, sym (clear_none _ _))

pub loop-s-preserved : goal.loop-s-preserved
loop-s-preserved c = (
  search rules,
  clear_turn _ _ _ _ _ c.loop-s.invariant.1
      c.clear_if.ensures,
)

pub returns : goal.returns
returns c =
    let e : c.loop-s.s ≡ c.args.n = omega arith in
    cc

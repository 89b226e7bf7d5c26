-- `fresh::slots_of`: the slots, the length that they make, and the version.
use mathlib.Core.Path.{refl, sym, ◌∙◌}
use mathlib.Core.Bool.{false≢true}
use native.Mathlib.Omega.{arith}
use Rattle.laws.proofs.Says.{untrue}
use Rattle.maker.proofs.Buffers.{buffer_says}
use Rattle.maker.proofs.fresh.slots_of.Goals.{then-n-lt2-via-then-n-lt2, then-n-lt2-via-else-n-lt2+then-n-gt1023, then-n-lt2-via-else-n-lt2+else-n-gt1023+then-long-n, then-n-lt2-via-else-n-lt2+else-n-gt1023+else-long-n+then-not-is_known}
use Rattle.maker.proofs.fresh.slots_of.Goals as goal

pub returns-then-n-lt2 : goal.returns-then-n-lt2
returns-then-n-lt2 c = (
  untrue _ (λ t.
      let h = (buffer_says _ _ c.slots_in-n.ensures).0 t in
      elim c.then-n-lt2.branch [
        | then-n-lt2-via-then-n-lt2 w ↦ omega (arith, h.0, w.if-n-lt2.true)
        | then-n-lt2-via-else-n-lt2+then-n-gt1023 w ↦ omega (arith, h.1, w.if-n-gt1023.true)
        | then-n-lt2-via-else-n-lt2+else-n-gt1023+then-long-n w ↦ w.if-long-n.true h.2
        | then-n-lt2-via-else-n-lt2+else-n-gt1023+else-long-n+then-not-is_known w ↦ false≢true (sym w.if-not-is_known.true ∙ w.is_known.ensures ∙ h.3)
      ]),
  refl,
)

pub returns : goal.returns
returns c = (
  (buffer_says _ _ c.slots_in-n.ensures).1 (c.if-n-lt2.false, c.if-n-gt1023.false, c.if-long-n.false, sym c.if-not-is_known.ensures),
  c.slots_in-n.ensures,
)

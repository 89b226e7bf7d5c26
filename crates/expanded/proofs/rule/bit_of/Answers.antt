-- `rule::bit_of`: the bit of a right stands where its slot does.
use Prim.Native.Nat.{ℕ, ◌/◌, ◌^◌, ◌<◌}
use mathlib.Core.Path.{◌≡◌, ap, ◌∙◌, refl}
use native.Mathlib.Omega.{arith}
use Rattle.rules.specs.declared.Right.{Right}
use Rattle.rules.specs.declared.Right.TheVariants.{DeleteSelf, Terminate, Activate, Deactivate, CreateDf, CreateEf, DeleteChild, Update, Read}
use Rattle.rules.specs.Rule.{slot_of}
use Rattle.expanded.specs.Expanded.{bit_of}
use Rattle.expanded.proofs.rule.bit_of.Goals as goal

placed : (r : Right) → (64 / 2 ^ slot_of r ≡ bit_of r) × (0 < bit_of r)
placed DeleteSelf = (refl, omega arith)
placed Terminate = (refl, omega arith)
placed Activate = (refl, omega arith)
placed Deactivate = (refl, omega arith)
placed CreateDf = (refl, omega arith)
placed CreateEf = (refl, omega arith)
placed DeleteChild = (refl, omega arith)
placed Update = (refl, omega arith)
placed Read = (refl, omega arith)

pub returns : goal.returns
returns c =
    let p = placed c.args.right in
    let e : 64 / 2 ^ c.slot.result ≡ bit_of c.args.right = ap (λ (k : ℕ). 64 / 2 ^ k) c.slot.ensures.0 ∙ p.0 in
    (e, rw e p.1)

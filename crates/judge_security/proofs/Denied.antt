-- What a verdict that is step J's says of the command: its length was fit.
use mathlib.Core.Path.{◌≡◌, sym, ap, ◌∙◌}
use mathlib.Core.Bool.{Bool, true, false, not}
use mathlib.Core.List.{List}
use Prim.Native.Nat.{ℕ, ◌≤◌}
use lib.ListN.{length}
use borrow.Author.Tests.{not-false}
use Rattle.verdict.specs.declared.State.{State}
use Rattle.verdict.specs.Applied.{Verdict}
use Rattle.apdu.specs.Apdu.{fit_length}
use Rattle.judge.specs.Judge.{judge_of}
use Rattle.judge_security.specs.Security.{is_denied}
use Rattle.judge_security.proofs.Gated.{denied-fits}

pub denied_needs : (img pool c : List ℕ) (st : State) (v : Verdict) {b : Bool} → b ≡ is_denied v → not b ≡ false → v ≡ judge_of img pool c st
    → (4 ≤ length c) × (fit_length c ≡ true)
denied_needs img pool c st v {b} e t f = denied-fits img pool c st (ap is_denied (sym f) ∙ sym e ∙ not-false b t)

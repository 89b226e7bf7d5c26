-- What a verdict tells, case by case: o is the response before, y after.
use mathlib.Core.Path.{◌≡◌, refl, sym, ap, ◌∙◌}
use mathlib.Core.Bool.{Bool, true, false, not, cond}
use mathlib.Core.List.{List, []}
use Prim.Native.Nat.{ℕ, ◌+◌, ◌-◌, ◌<◌, ◌≤◌}
use native.Mathlib.Omega.{arith}
use lib.ListN.{length, take, drop}
use borrow.Author.Tests.{not-true, not-false}
use Rattle.laws.specs.Lists.{part, splice}
use Rattle.laws.proofs.Splices.{splice-nil, length_part}
use Rattle.image.specs.Layout.{rec_at}
use Rattle.std.specs.Prelude.{Result, Ok, Err}
use Rattle.fcp.specs.declared.TooShort.{TooShort}
use Rattle.fcp.specs.Template.{template_of}
use Rattle.fcp.specs.Writing.{Tellable, Answered}
use Rattle.effect.specs.Told.{chosen}

pub nothing : (o : List ℕ) → Answered [] o o (Ok 0)
nothing o = (omega arith, (refl, sym (splice-nil o 0)))

-- b is whether P2 asks for the template, r what was answered to that
module _ (what o : List ℕ) {r : Bool} (b : Bool) (e : r ≡ b) where
  pub unasked : not r ≡ true → Answered (cond b what []) o o (Ok 0)
  unasked t = rw (sym e ∙ not-true r t) (nothing o)

  pub asked : not r ≡ false → (y : List ℕ) (k : Result ℕ TooShort) → Answered what o y k → Answered (cond b what []) o y k
  asked t y k h = rw (sym e ∙ not-false r t) h

-- the file in slot s is the one that is chosen
pub chosen-told : (img : List ℕ) (d e s : ℕ) (o y : List ℕ) (k : Result ℕ TooShort) → s ≡ chosen d e → Answered (template_of (rec_at img s)) o y k
    → Answered (template_of (rec_at img (chosen d e))) o y k
chosen-told img d e s o y k q h = rw (← q) h

pub chosen_tellable : (img : List ℕ) (d e s : ℕ) → s ≡ chosen d e → Tellable img (chosen d e) → Tellable img s
chosen_tellable img d e s q h = rw q h

-- a READ of n bytes from `at` on: too long for the response, or at its start
module _ (pool o : List ℕ) (at n : ℕ) (inside : at + n ≤ length pool) where
  pub read_short : length o < n → {e : TooShort} → Answered (part pool at n) o o (Err e)
  read_short h = (omega (arith, length_part pool at n inside), refl)

  pub read_done : n ≤ length o → (y : List ℕ) → y ≡ splice o 0 (take (at + n - at) (drop at pool)) → Answered (part pool at n) o y (Ok n)
  unfolding part
  read_done h y f =
      let l = length_part pool at n inside in
      let e : at + n - at ≡ n = omega arith in
      (omega (arith, l), (sym l, f ∙ ap (λ (k : ℕ). splice o 0 (take k (drop at pool))) e))

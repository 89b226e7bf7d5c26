-- Texts written one behind the other, and a text that is lent on.
use native.Mathlib.Omega.{arith}
use native.Mathlib.Nat.{add-zero, zero-add}
use mathlib.Core.Path.{◌≡◌, sym, ◌∙◌, ap, subst}
use mathlib.Core.List.{List, [], ◌++◌}
use Prim.Native.Nat.{ℕ, ◌+◌, ◌≤◌}
use lib.ListN.{length, take, drop, length-append}
use lib.Seq.{length-take-le, take_at}
use Rattle.laws.specs.Lists.{splice}
use Rattle.laws.proofs.Splices.{splice-nil, splice-step, length-splice}
use Rattle.laws.proofs.Settling.{settled, both_are}
use Rattle.text.specs.Written.{WroteAt, Wrote, Counted, WroteOnce}

pub nothing_written : (at : ℕ) (o : List ℕ) → at ≤ length o → WroteAt at at o o []
nothing_written at o h = record {
  long = sym (add-zero at);
  fits = h;
  bytes = sym (splice-nil o at);
}

-- a text written from the start on
pub from_start : {r : ℕ} {o y : List ℕ} (t : List ℕ) → r ≡ length t → r ≤ length o → y ≡ splice o 0 t → Wrote r o y t
from_start t l f b = record {
  long = omega (arith, l);
  fits = f;
  bytes = b;
}

pub same_text : {at r : ℕ} {o y : List ℕ} (t u : List ℕ) → WroteAt at r o y t → t ≡ u → WroteAt at r o y u
same_text {at} {r} {o} {y} t u w e = subst (WroteAt at r o y) e w

module _ {at r : ℕ} {o y : List ℕ} (t : List ℕ) (w : WroteAt at r o y t) where
  fits : at + length t ≤ length o
  fits = omega (arith, w.long, w.fits)

  pub same-room : length y ≡ length o
  same-room = ap length w.bytes ∙ length-splice o at t fits

  -- a text behind this one
  pub written_on : {m : ℕ} {z : List ℕ} (u : List ℕ) → WroteAt r m y z u → WroteAt at m o z (t ++ u)
  written_on {m} {z} u x = record {
    long = omega (arith, x.long, w.long, length-append t u);
    fits = omega (arith, x.fits, same-room);
    bytes = splice-step o at t y r u z w.bytes fits w.long x.bytes;
  }

-- what was written from the start on can be lent as a part of the buffer
pub counted : {r : ℕ} {o y : List ℕ} (t : List ℕ) → Wrote r o y t → Counted r y
counted {r} {o} {y} t w =
    let f : r ≤ length y = omega (arith, w.fits, same-room t w) in
    (f, sym (length-take-le r y f))

-- .. and that part is the text
pub taken : {r : ℕ} {o y : List ℕ} (t : List ℕ) → Wrote r o y t → take r y ≡ t
unfolding splice
taken {r} {o} t w = ap (take r) w.bytes ∙ take_at t (drop (0 + length t) o) r (omega (arith, w.long))

pub wrote_once : WroteOnce
wrote_once before text =
    settled (λ p. Wrote p.0 before p.1 text) (length text, splice before 0 text)
    (λ p w. both_are _ _ p (w.long ∙ zero-add _) w.bytes)

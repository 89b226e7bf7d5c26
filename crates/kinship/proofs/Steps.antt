-- The way up, one parent slot after the other: every step stands on a file, and a loop that asks each of them
-- answers the walk.
use mathlib.Core.Path.{◌≡◌, refl, sym, ap, ◌∙◌}
use mathlib.Core.Bool.{Bool}
use mathlib.Core.List.{List}
use mathlib.Core.Logic.{◌⊎◌, inl, inr}
use Prim.Native.Nat.{ℕ, zero, suc, ◌+◌, ◌<◌, ◌≤◌}
use native.Mathlib.Nat.{not-suc-le-zero}
use native.Mathlib.Numerals.{add-one}
use native.Mathlib.Omega.{arith}
use Rattle.std.specs.Prelude.{Option, Some, None, is_some}
use Rattle.laws.proofs.Walks.{split_lt, any_at, none_any}
use Rattle.sound.specs.Table.{view_at, up, upward}
use Rattle.kinship.specs.Climb.{Rooted, Stands, NoneUp, SomeUp, FirstUp}

-- where a walk up from s stands after i steps
pub record Climbed (img : List ℕ) (n s i t : ℕ) : Type 0 where
  pub here : t ≡ up (view_at img) i s
  pub stands : Stands img n t

pub climb_start : (img : List ℕ) (n s : ℕ) → Stands img n s → Climbed img n s 0 s
unfolding up
climb_start img n s h = record { here = refl; stands = h }

pub climb_more : (img : List ℕ) (n s i t p : ℕ) → Rooted img n → Climbed img n s i t → p ≡ (view_at img t).parent → Climbed img n s (i + 1) p
unfolding up
climb_more img n s i t p rooted c e =
    record {
      here = e ∙ ap (λ (x : ℕ). (view_at img x).parent) c.here ∙ ap (λ (k : ℕ). up (view_at img) k s) (sym (add-one i));
      stands = rw e (rooted.parent t c.stands);
    }

-- each slot on the way up holds a file
pub up_stands : (img : List ℕ) (n s : ℕ) → Rooted img n → Stands img n s → (k : ℕ) → Stands img n (up (view_at img) k s)
unfolding up
up_stands img n s rooted h zero = h
up_stands img n s rooted h (suc k) = rooted.parent (up (view_at img) k s) (up_stands img n s rooted h k)

-- a loop that asks each slot on the way up: before it, a turn without an answer, the turn with one, the end
pub ask_start : (img : List ℕ) (s : ℕ) (Asked : ℕ → Option ℕ → Type 0) → NoneUp (view_at img) s Asked 0
ask_start img s Asked = record { none = λ k l. absurd (not-suc-le-zero l) }

module _ (img : List ℕ) (n s i t : ℕ) (Asked : ℕ → Option ℕ → Type 0) (c : Climbed img n s i t) (h : NoneUp (view_at img) s Asked i) where
  pub ask_turn : {r : Option ℕ} → Asked t r → r ≡ None → NoneUp (view_at img) s Asked (i + 1)
  ask_turn a e = record { none = λ k l. go k (split_lt (rw add-one at l)) }
    where
      go : (k : ℕ) → (k ≡ i) ⊎ (k < i) → Asked (up (view_at img) k s) None
      go k (inl q) = rw (q, ← c.here) (rw (← e) a)
      go k (inr l) = h.none k l

  pub ask_stop : {r : Option ℕ} {x l : ℕ} → l ≡ (view_at img s).level → i < l + 1 → Asked t r → r ≡ Some x → SomeUp (view_at img) s Asked x
  ask_stop e l a q = record { steps = i; low = omega (arith, e); here = rw (← c.here) (rw (← q) a); before = h }

  pub ask_end : (l : ℕ) → l ≡ (view_at img s).level → i ≤ l + 1 → l + 1 ≤ i → NoneUp (view_at img) s Asked (suc (view_at img s).level)
  ask_end l e a b = record { none = λ k low. h.none k (omega (arith, e)) }

-- where each slot answers if p holds of it, the walk does if p holds of one
module _ (img : List ℕ) (n s : ℕ) (rooted : Rooted img n) (stands : Stands img n s) (p : ℕ → Bool) (Asked : ℕ → Option ℕ → Type 0)
    (told : (t : ℕ) (r : Option ℕ) → Stands img n t → Asked t r → is_some r ≡ p t) where
  pub some_up : (o : Option ℕ) → FirstUp (view_at img) s Asked o → is_some o ≡ upward (view_at img) p (suc (view_at img s).level) s
  unfolding upward
  some_up None h = sym (none_any (λ k. p (up (view_at img) k s)) (suc (view_at img s).level)
      (λ k l. sym (told (up (view_at img) k s) None (up_stands img n s rooted stands k) (h.none k l))))
  some_up (Some x) h = sym (any_at (λ k. p (up (view_at img) k s)) (suc (view_at img s).level) h.steps h.low
      (sym (told (up (view_at img) h.steps s) (Some x) (up_stands img n s rooted stands h.steps) h.here)))

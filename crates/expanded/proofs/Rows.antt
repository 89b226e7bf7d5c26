-- The two loops over the objects of a rule: is it well formed, and does one of its objects open.
use mathlib.Core.Path.{◌≡◌, refl, sym, ◌∙◌, ap}
use mathlib.Core.Bool.{Bool, true, false, not, cond}
use mathlib.Core.List.{List, [], ◌∷◌}
use Prim.Native.Nat.{ℕ, ◌+◌, ◌-◌, ◌/◌, ◌%◌, ◌<◌, ◌≤◌}
use native.Mathlib.Omega.{arith}
use lib.ListN.{length, get_or, take, drop}
use lib.Dec.{eqb}
use borrow.Author.Tests.{eq-eqb, ne_eqb, not-true, not-false}
use Rattle.rules.specs.declared.Sets.{Sets}
use Rattle.expanded.specs.Object.{Object, object, cut, objects_of, Ends}
use Rattle.expanded.specs.Condition.{formed_plain, is_template}
use Rattle.expanded.specs.Expanded.{is_am, am_after, in_place, goes_on, expanded_formed, opens, opens_one}
use Rattle.expanded.proofs.Objects.{objects_end}
use Rattle.expanded.proofs.Nested.{formed-cut, formed-plain, holds-cut}

-- the object that ends at `to`
abbrev pub object_at : List ℕ → ℕ → ℕ → Object
object_at s at to = object (get_or s at 0) (take (to - (at + 2)) (drop (at + 2) s))

pub place-cut : (due : Bool) → in_place due cut ≡ false
unfolding in_place is_am
place-cut due = formed-cut 4

-- an SC_DO that is no template
pub place-plain : (due : Bool) (tag : ℕ) (v : List ℕ) {a t x : Bool} → a ≡ is_am (object tag v) → a ≡ false → t ≡ is_template tag
    → not t ≡ true → x ≡ formed_plain tag v → x ≡ in_place due (object tag v)
unfolding in_place
place-plain due tag v {a} {t} ea na et nt ex = rw (sym ea ∙ na) (formed-plain 3 tag v (sym et ∙ not-true t nt) ex)

-- no AM byte where there is no byte
pub am_empty : (am tag : ℕ) (v : List ℕ) → length v < 1 → am ≡ am_after am (object tag v)
unfolding am_after is_am
am_empty am tag [] h = go (eqb tag 0x80)
  where
    go : (b : Bool) → am ≡ cond (cond b false false) 0 am
    go true = refl
    go false = refl
am_empty am tag (x ∷ v) h = absurd (omega arith)

-- a rule that is well formed so far; `due` says that an SC_DO must come
pub record Going (due : Bool) (s : List ℕ) (at : ℕ) : Type 0 where
  pub left : expanded_formed s ≡ goes_on due (objects_of (drop at s))

module _ (s : List ℕ) where
  pub going_other : (get_or s 0 0 ≡ 0x80 → ⊥) → false ≡ expanded_formed s
  unfolding expanded_formed
  going_other h = rw (ne_eqb (get_or s 0 0) 0x80 h)

  pub going_start : get_or s 0 0 ≡ 0x80 → Going false s 0
  unfolding expanded_formed
  going_start h = record { left = rw (eq-eqb (get_or s 0 0) 0x80 h) }

pub going_none : (s : List ℕ) → length s < 1 → false ≡ expanded_formed s
unfolding expanded_formed
going_none [] h = refl
going_none (x ∷ s) h = absurd (omega arith)

module _ {due : Bool} {s : List ℕ} {at : ℕ} (inv : Going due s at) where
  pub going_end : length s ≤ at → not due ≡ expanded_formed s
  unfolding goes_on
  going_end h = sym (inv.left ∙ ap (goes_on due) (objects_end s at h))

  module _ {to : ℕ} (e : Ends s at to) where
    pub going_cut : to - at < 2 → false ≡ expanded_formed s
    unfolding goes_on
    going_cut h = sym (inv.left ∙ ap (goes_on due) (e.broken h) ∙ rw (place-cut due))

    module _ {r : Bool} (h : 2 ≤ to - at) (q : r ≡ in_place due (object_at s at to)) where
      pub going_no : not r ≡ true → false ≡ expanded_formed s
      unfolding goes_on
      going_no t = sym (inv.left ∙ ap (goes_on due) (e.whole h) ∙ rw (← q, not-true r t))

      pub going_next : {d : Bool} → not r ≡ false → d ≡ is_am (object_at s at to) → Going d s to
      unfolding goes_on
      going_next {d} t k = record { left = inv.left ∙ ap (goes_on due) (e.whole h) ∙ rw (← q, not-false r t, ← k) }

pub ruleset goings = (going_none, going_other, going_start, going_end, going_cut, going_no, going_next)

-- a rule of which no object has opened so far; `am` is the AM byte that counts
pub record Closed (bit : ℕ) (x : Sets) (am : ℕ) (all rest : List Object) : Type 0 where
  pub left : opens_one bit x 0 all ≡ opens_one bit x am rest

pub open_cut : (bit : ℕ) (x : Sets) (am : ℕ) → opens bit x am cut ≡ false
unfolding opens
open_cut bit x am = ap (λ (b : Bool). cond (eqb (am / bit % 2) 1) b false) (holds-cut 4 x) ∙ go (eqb (am / bit % 2) 1)
  where
    go : (b : Bool) → cond b false false ≡ false
    go true = refl
    go false = refl

pub after_cut : (am : ℕ) → am ≡ am_after am cut
unfolding am_after
after_cut am = refl

module _ {bit : ℕ} {x : Sets} {am : ℕ} {all rest : List Object} (inv : Closed bit x am all rest) where
  pub closed-over : rest ≡ [] → false ≡ opens_one bit x 0 all
  unfolding opens_one
  closed-over e = sym (inv.left ∙ ap (opens_one bit x am) e)

  module _ {o : Object} {more : List Object} (e : rest ≡ o ∷ more) where
    pub closed-yes : opens bit x am o ≡ true → true ≡ opens_one bit x 0 all
    unfolding opens_one
    closed-yes q = sym (inv.left ∙ ap (opens_one bit x am) e ∙ rw q)

    pub closed-on : {a : ℕ} → opens bit x am o ≡ false → a ≡ am_after am o → Closed bit x a all more
    unfolding opens_one
    closed-on {a} q k = record { left = inv.left ∙ ap (opens_one bit x am) e ∙ rw (q, ← k) }

-- the bit that a callee gave
pub bit-given : (b : ℕ) (x : Sets) (os : List Object) {z : ℕ} {r : Bool} → r ≡ opens_one z x 0 os → z ≡ b → r ≡ opens_one b x 0 os
bit-given b x os q e = q ∙ ap (λ (k : ℕ). opens_one k x 0 os) e

-- What an SC byte, and so a compact rule, grants grows with what has been authenticated: tests of which one holds where the other does.
use mathlib.Core.Path.{◌≡◌, refl}
use mathlib.Core.Bool.{Bool, true, false, cond, ◌&&◌, ◌||◌, false≢true}
use mathlib.Core.List.{List}
use Prim.Native.Nat.{ℕ, zero, suc, ◌/◌, ◌%◌}
use native.Mathlib.Omega.{arith}
use lib.ListN.{length, get_or}
use lib.Dec.{eqb, ltb}
use Rattle.laws.specs.Walks.{all_below}
use Rattle.laws.proofs.Walks.{all_each}
use Rattle.rules.specs.declared.Right.{Right}
use Rattle.rules.specs.declared.Sets.{Sets}
use Rattle.rules.specs.Condition.{bit, met, fulfilled, one_of, all_of, holds_of, Wider}
use Rattle.rules.specs.Group.{slots_of, next_of, some_from, some_group}
use Rattle.rules.specs.Rule.{holds_at, allows_of, slot_of, compact_grants}

-- where a holds, b does
abbrev pub Grows : Bool → Bool → Type 0
Grows a b = a ≡ true → b ≡ true

pub same_grows : (a : Bool) → Grows a a
same_grows a e = e

pub cond_grows : (t p q r s : Bool) → Grows p r → Grows q s → Grows (cond t p q) (cond t r s)
cond_grows true p q r s f g = f
cond_grows false p q r s f g = g

pub or_grows : (p q r s : Bool) → Grows p r → Grows q s → Grows (p || q) (r || s)
or_grows true q r s f g e = rw (f refl)
or_grows false q true s f g e = refl
or_grows false q false s f g e = g e

pub and_grows : (p q r s : Bool) → Grows p r → Grows q s → Grows (p && q) (r && s)
and_grows true q r s f g e = rw (f refl) (g e)
and_grows false q r s f g e = absurd (false≢true e)

-- an SC byte
module _ (x y : Sets) (l : Wider x y) (sc : ℕ) where
  one_grows : Grows (one_of sc x) (one_of sc y)
  unfolding one_of met
  one_grows =
      or_grows _ _ _ _ (and_grows _ _ _ _ (same_grows (eqb (sc / 64 % 2) 1)) (l.messaging (sc % 16) (omega arith)))
      (or_grows _ _ _ _ (and_grows _ _ _ _ (same_grows (eqb (sc / 32 % 2) 1)) (l.external (sc % 16) (omega arith)))
      (and_grows _ _ _ _ (same_grows (eqb (sc / 16 % 2) 1)) (l.user (sc % 16) (omega arith))))

  all_grows : Grows (all_of sc x) (all_of sc y)
  unfolding all_of fulfilled
  all_grows =
      and_grows _ _ _ _ (cond_grows (eqb (sc / 64 % 2) 1) _ _ _ _ (l.messaging (sc % 16) (omega arith)) (same_grows true))
      (and_grows _ _ _ _ (cond_grows (eqb (sc / 32 % 2) 1) _ _ _ _ (l.external (sc % 16) (omega arith)) (same_grows true))
      (cond_grows (eqb (sc / 16 % 2) 1) _ _ _ _ (l.user (sc % 16) (omega arith)) (same_grows true)))

  pub sc_grows : Grows (holds_of sc x) (holds_of sc y)
  unfolding holds_of
  sc_grows =
      cond_grows (eqb sc 0x00) _ _ _ _ (same_grows true)
      (cond_grows (eqb sc 0xFF) _ _ _ _ (same_grows false)
      (cond_grows (eqb (sc % 16) 15) _ _ _ _ (same_grows false)
      (cond_grows (eqb (sc / 16 % 8) 0) _ _ _ _ (same_grows false)
      (cond_grows (eqb (sc / 128) 1) _ _ _ _ all_grows one_grows))))

module _ (x y : Sets) (l : Wider x y) where
  groups_grow : (more k : ℕ) (rule : List ℕ) (at : ℕ) → Grows (some_from more (holds_at rule k x) rule at) (some_from more (holds_at rule k y) rule at)
  unfolding holds_at
  groups_grow zero k rule at = same_grows false
  groups_grow (suc more) k rule at =
      cond_grows (ltb at (length rule)) _ _ _ _
      (or_grows _ _ _ _ (sc_grows x y l (get_or (slots_of rule at) k 0)) (groups_grow more k rule (next_of rule at)))
      (same_grows false)

  -- a compact rule
  pub compact_grows : (rule : List ℕ) (right : Right) → Grows (compact_grants rule right x) (compact_grants rule right y)
  unfolding compact_grants allows_of some_group
  compact_grows rule right = groups_grow (suc (length rule)) (slot_of right) rule 0

-- sets of which every bit is on are the widest
all-on : all_below 16 (λ n. bit 0xFFFF n) ≡ true
unfolding all_below
all-on = refl

pub full_widest : (x : Sets) → Wider x (record { messaging = 0xFFFF; external = 0xFFFF; user = 0xFFFF })
full_widest x = record {
  messaging = λ n h e. all_each (λ n. bit 0xFFFF n) 16 n h all-on;
  external = λ n h e. all_each (λ n. bit 0xFFFF n) 16 n h all-on;
  user = λ n h e. all_each (λ n. bit 0xFFFF n) 16 n h all-on;
}

-- The walk over the groups of a rule: what is left of it at a place, how a loop's turn goes on and how it
-- is left; once for any test of a group, then for the two that the crate makes.
use mathlib.Core.Path.{◌≡◌, refl, sym, ◌∙◌, ap, subst⁻¹}
use mathlib.Core.Bool.{Bool, true, false, not, cond, or-true}
use mathlib.Core.List.{List}
use Prim.Native.Nat.{ℕ, zero, suc, ◌+◌, ◌-◌, ◌<◌, ◌≤◌}
use native.Mathlib.Omega.{arith}
use mir.Val.{Fits}
use mir.Syntax.{w8}
use lib.ListN.{length, get_or}
use lib.Dec.{ltb}
use borrow.Author.Tests.{lt-ltb, le-ltb, leb-true, ltb-false}
use Rattle.rules.specs.declared.Sets.{Sets}
use Rattle.rules.specs.Condition.{holds_of}
use Rattle.rules.specs.Group.{b7, b6, b5, b4, b3, b2, b1, slots_of, next_of, group_length, Lengths, some_from, some_group}
use Rattle.rules.specs.Rule.{malformed_at, compact_formed, holds_at, allows_of}

pub further : (rule : List ℕ) (at : ℕ) → at < next_of rule at
unfolding next_of
further rule at = omega arith

pub less_next : (rule : List ℕ) (at to : ℕ) → at < length rule → to ≡ next_of rule at → length rule - to < length rule - at
less_next rule at to h e = omega (arith, further rule at)

-- what is left of the walk at `at`, with enough groups allowed for
pub record Left (p : ℕ → Bool) (rule : List ℕ) (at : ℕ) : Type 0 where
  pub more : ℕ
  pub enough : length rule ≤ more + at
  pub rest : some_group p rule ≡ some_from (suc more) p rule at

pub left-start : (p : ℕ → Bool) (rule : List ℕ) → Left p rule 0
unfolding some_group
left-start p rule = record { more = length rule; enough = omega arith; rest = refl }

left_go : (more : ℕ) (p : ℕ → Bool) (rule : List ℕ) (at : ℕ) → length rule ≤ more + at → some_group p rule ≡ some_from (suc more) p rule at
    → at < length rule → p at ≡ false → Left p rule (next_of rule at)
left_go zero p rule at l r h f = absurd (omega arith)
left_go (suc more) p rule at l r h f =
    record { more = more; enough = omega (arith, further rule at); rest = r ∙ simp (lt-ltb at (length rule) h, f) }

module _ {p : ℕ → Bool} {rule : List ℕ} {at : ℕ} (inv : Left p rule at) where
  left_end : length rule ≤ at → some_group p rule ≡ false
  left_end h = inv.rest ∙ simp (le-ltb at (length rule) h)

  left-yes : at < length rule → p at ≡ true → some_group p rule ≡ true
  left-yes h t = inv.rest ∙ simp (lt-ltb at (length rule) h, t)

  left-next : (to : ℕ) → at < length rule → p at ≡ false → to ≡ next_of rule at → Left p rule to
  left-next to h f e = subst⁻¹ (Left p rule) e (left_go inv.more p rule at inv.enough inv.rest h f)

-- well-formed rules: no group is malformed
pub record Formed (rule : List ℕ) (at : ℕ) : Type 0 where
  pub left : Left (malformed_at rule) rule at

pub formed-start : (rule : List ℕ) → Formed rule 0
formed-start rule = record { left = left-start (malformed_at rule) rule }

module _ {rule : List ℕ} {at : ℕ} (inv : Formed rule at) where
  pub formed-end : length rule ≤ at → true ≡ compact_formed rule
  unfolding compact_formed
  formed-end h = sym (ap not (left_end inv.left h))

  pub formed-high : at < length rule → 127 < get_or rule at 0 → false ≡ compact_formed rule
  unfolding compact_formed malformed_at
  formed-high h a = sym (ap not (left-yes inv.left h (rw (lt-ltb 127 (get_or rule at 0) a))))

  module _ {to : ℕ} (h : at < length rule) (e : to ≡ next_of rule at) where
    pub formed-past : length rule < to → false ≡ compact_formed rule
    unfolding compact_formed malformed_at
    formed-past n =
        sym (ap not (left-yes inv.left h (rw (lt-ltb (length rule) (next_of rule at) (rw e at n)) (or-true (ltb 127 (get_or rule at 0))))))

    pub formed-next : get_or rule at 0 ≤ 127 → to ≤ length rule → Formed rule to
    unfolding malformed_at
    formed-next a n =
        record {
          left = left-next inv.left to h (rw (le-ltb 127 (get_or rule at 0) a, le-ltb (length rule) (next_of rule at) (rw e at n))) e;
        }

-- a group of some length n has b8 of its AM byte clear
short-group : (am n : ℕ) → 1 ≤ n → n ≡ group_length am → (am ≤ 127) × (n ≡ 1 + b7 am + b6 am + b5 am + b4 am + b3 am + b2 am + b1 am)
unfolding group_length
short-group am n a e = go (ltb am 128) refl e
  where
    go : (b : Bool) → ltb am 128 ≡ b → n ≡ cond b (1 + b7 am + b6 am + b5 am + b4 am + b3 am + b2 am + b1 am) 0
        → (am ≤ 127) × (n ≡ 1 + b7 am + b6 am + b5 am + b4 am + b3 am + b2 am + b1 am)
    go true p q = (omega (arith, leb-true (suc am) 128 p), q)
    go false p q = absurd (omega arith)

-- one group, by the table of lengths: i is the first AM byte, x what the table says of it
pub one-formed : (rule table : List ℕ) (i x : ℕ) → Lengths table → 1 ≤ length rule → i ≡ get_or rule 0 0 → Fits w8 (get_or rule 0 0) → x ≡ get_or table i 0
    → x ≡ length rule → true ≡ compact_formed rule
unfolding next_of
one-formed rule table i x t a q l e h =
    formed-end
    (formed-next (formed-start rule) {to = length rule} (omega arith) (rw q at fills.1) (omega (arith, fills.0, q)) (omega arith))
    (omega arith)
  where
    fills : (i ≤ 127) × (length rule ≡ 1 + b7 i + b6 i + b5 i + b4 i + b3 i + b2 i + b1 i)
    fills = short-group i (length rule) a (sym h ∙ e ∙ t.right i (omega (arith, q, l)))

-- a length that counts its AM byte is not 0
not_none : (a b c d e f g : ℕ) → 0 ≡ 1 + a + b + c + d + e + f + g → ⊥
not_none a b c d e f g h = omega arith

-- a group by the table of lengths: am is its AM byte, n what the table says of it
module _ {rule : List ℕ} {at : ℕ} (inv : Formed rule at) (table : List ℕ) (t : Lengths table) (here : at < length rule) {am : ℕ}
    (e : am ≡ get_or rule at 0) where
  pub formed-empty : am ≡ 0 → Formed rule (at + 1)
  unfolding next_of
  formed-empty z =
      let zero : get_or rule at 0 ≡ 0 = sym e ∙ z in
      formed-next inv {to = at + 1} here (rw zero (omega arith)) (omega arith) (omega arith)

  module _ (low : Fits w8 (get_or rule at 0)) {n : ℕ} (f : n ≡ get_or table am 0) where
    is_length : n ≡ group_length am
    is_length = f ∙ t.right am (omega (arith, e, low))

    pub formed-none : n ≡ 0 → false ≡ compact_formed rule
    unfolding group_length
    formed-none z = go (ltb am 128) refl (sym z ∙ is_length)
      where
        go : (b : Bool) → ltb am 128 ≡ b → 0 ≡ cond b (1 + b7 am + b6 am + b5 am + b4 am + b3 am + b2 am + b1 am) 0
            → false ≡ compact_formed rule
        go true p q = absurd (not_none (b7 am) (b6 am) (b5 am) (b4 am) (b3 am) (b2 am) (b1 am) q)
        go false p q = formed-high inv here (omega (arith, e, ltb-false am 128 p))

    module _ (some : n ≡ 0 → ⊥) where
      spans : (am ≤ 127) × (at + n ≡ next_of rule at)
      unfolding next_of
      spans =
          let g = short-group am n (omega (arith, some)) is_length in
          (g.0, rw (← e) (omega (arith, g.1)))

      pub formed_beyond : length rule - at < n → false ≡ compact_formed rule
      formed_beyond h = formed-past inv {to = at + n} here spans.1 (omega arith)

      pub formed-on : n ≤ length rule - at → Formed rule (at + n)
      formed-on h = formed-next inv {to = at + n} here spans.1 (omega (arith, e, spans.0)) (omega arith)

pub ruleset formed = (formed-start, formed-end, formed-high, formed-past, formed-next)

pub ruleset tabled = (formed-start, formed-end, formed-empty, formed-none, formed_beyond, formed-on)

-- what a rule allows: one group has a condition in slot k that holds
pub record Allowing (rule : List ℕ) (k : ℕ) (x : Sets) (at : ℕ) : Type 0 where
  pub left : Left (holds_at rule k x) rule at

pub allowing-start : (rule : List ℕ) (k : ℕ) (x : Sets) → Allowing rule k x 0
allowing-start rule k x = record { left = left-start (holds_at rule k x) rule }

-- what a callee answered of the group at `at`: r, for the slots l
holds_is : (rule : List ℕ) (k : ℕ) (x : Sets) (at : ℕ) {l : List ℕ} {r b : Bool} → l ≡ slots_of rule at → r ≡ holds_of (get_or l k 0) x → r ≡ b
    → holds_at rule k x at ≡ b
unfolding holds_at
holds_is rule k x at el er t = rw (← el, ← er) t

module _ {rule : List ℕ} {k : ℕ} {x : Sets} {at : ℕ} (inv : Allowing rule k x at) where
  pub allowing-end : length rule ≤ at → false ≡ allows_of rule k x
  unfolding allows_of
  allowing-end h = sym (left_end inv.left h)

  module _ {l : List ℕ} {r : Bool} (h : at < length rule) (el : l ≡ slots_of rule at) (er : r ≡ holds_of (get_or l k 0) x) where
    pub allowing-yes : r ≡ true → true ≡ allows_of rule k x
    unfolding allows_of
    allowing-yes t = sym (left-yes inv.left h (holds_is rule k x at el er t))

    pub allowing-next : {to : ℕ} → r ≡ false → to ≡ next_of rule at → Allowing rule k x to
    allowing-next {to} t e = record { left = left-next inv.left to h (holds_is rule k x at el er t) e }

pub ruleset allowing = (allowing-start, allowing-end, allowing-yes, allowing-next)

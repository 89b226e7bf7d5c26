-- A compact rule and its expanded writing decide alike, at any length (02 Ticket 3); and the writing is well formed exactly
-- where the compact rule has an SC byte. Each over one bit, then over a group's seven, then over the groups.
use mathlib.Core.Path.{◌≡◌, refl, sym, ◌∙◌, ap}
use mathlib.Core.Bool.{Bool, true, false, cond, ◌||◌, and-true}
use mathlib.Core.List.{List, [], ◌∷◌}
use mathlib.Core.Logic.{◌⊎◌, inl, inr, ⊎_elim}
use Prim.Native.Nat.{ℕ, zero, suc, ◌+◌, ◌/◌, ◌%◌, ◌<◌}
use native.Mathlib.Omega.{arith}
use lib.ListN.{length, get_or}
use lib.Dec.{eqb, ltb}
use borrow.Author.Tests.{lt-ltb, le-ltb, eq-eqb}
use Rattle.rules.specs.declared.Right.{Right}
use Rattle.rules.specs.declared.Right.TheVariants.{DeleteSelf, Terminate, Activate, Deactivate, CreateDf, CreateEf, DeleteChild}
use Rattle.rules.specs.declared.Right.TheVariants.{Update, Read}
use Rattle.rules.specs.declared.Sets.{Sets}
use Rattle.rules.specs.Condition.{holds_of}
use Rattle.rules.specs.Group.{b7, b6, b5, b4, b3, b2, b1, sc_at, slots_of, next_of, some_from, some_group}
use Rattle.rules.specs.Rule.{holds_at, allows_of, slot_of, compact_grants}
use Rattle.expanded.specs.Object.{Object, object, objects_of}
use Rattle.expanded.specs.Condition.{formed_plain, is_template, formed, sc_of, holds_plain, holds}
use Rattle.expanded.specs.Expanded.{is_am, am_after, in_place, goes_on, expanded_formed, bit_of, opens, opens_one, expanded_grants}
use Rattle.expanded.specs.Writing.{written, write_one, write_group, writing_from, expanded_writing, has_sc}
use Rattle.expanded.specs.Theorems.{WritingDecides, WritingFormed, WritingFormedWhere}
use Rattle.expanded.proofs.Objects.{objects_row, objects_none}

-- one SC byte is written as two objects
module _ (bit sc : ℕ) (rest : List ℕ) where
  two_objects : objects_of (written bit sc rest) ≡ object 0x80 (bit ∷ []) ∷ object 0x9E (sc ∷ []) ∷ objects_of rest
  two_objects =
      objects_row 0x80 1 (bit ∷ 0x9E ∷ 1 ∷ sc ∷ rest) (omega arith) (omega arith)
      ∙ ap (λ (os : List Object). object 0x80 (bit ∷ []) ∷ os) (objects_row 0x9E 1 (sc ∷ rest) (omega arith) (omega arith))

  -- it goes on a rule
  write_goes : bit < 128 → goes_on false (objects_of rest) ≡ true → goes_on false (objects_of (written bit sc rest)) ≡ true
  unfolding goes_on in_place is_am formed is_template formed_plain
  write_goes h g = ap (goes_on false) two_objects ∙ rw (lt-ltb bit 128 h) g

-- what a row opens, whatever AM byte stands before it
record Gives (w : ℕ) (x : Sets) (l : List ℕ) (b : Bool) : Type 0 where
  says : (am : ℕ) → opens_one w x am (objects_of l) ≡ b

-- what an SC byte that is written for a bit opens to one who asks for w
abbrev asked : ℕ → Sets → ℕ → ℕ → Bool
asked w x bit sc = cond (eqb (bit / w % 2) 1) (holds_of sc x) false

never_both : (b : Bool) → cond b false false ≡ false
never_both true = refl
never_both false = refl

module _ (w : ℕ) (x : Sets) (bit sc : ℕ) (rest : List ℕ) (h : bit < 128) where
  write_opens : (am : ℕ) → opens_one w x am (objects_of (written bit sc rest)) ≡ (asked w x bit sc || opens_one w x bit (objects_of rest))
  unfolding opens_one opens am_after is_am holds holds_plain sc_of
  write_opens am = ap (opens_one w x am) (two_objects bit sc rest) ∙ rw (lt-ltb bit 128 h, never_both (eqb (am / w % 2) 1))

-- the SC byte of a slot: FF, which never holds, where the bit is not set
unset_never : (rule : List ℕ) (at on : ℕ) (x : Sets) → eqb on 1 ≡ false → holds_of (sc_at rule at on) x ≡ false
unfolding sc_at holds_of
unset_never rule at on x e = rw e

one-gives : {w : ℕ} {x : Sets} {rest : List ℕ} {b : Bool} (rule : List ℕ) (at on bit : ℕ) → bit < 128 → Gives w x rest b
    → Gives w x (write_one on bit (sc_at rule at on) rest) (asked w x bit (sc_at rule at on) || b)
one-gives {w} {x} {rest} {b} rule at on bit h g = record { says = λ am. go am (eqb on 1) refl }
  where
    sc : ℕ
    sc = sc_at rule at on

    go : (am : ℕ) (t : Bool) → eqb on 1 ≡ t → opens_one w x am (objects_of (cond t (written bit sc rest) rest)) ≡ (asked w x bit sc || b)
    go am true q = write_opens w x bit sc rest h am ∙ rw (g.says bit)
    go am false q = g.says am ∙ rw (unset_never rule at on x q, never_both (eqb (bit / w % 2) 1))

-- a group's seven bits, to one who asks for w
seven_give : {w : ℕ} {x : Sets} {rest : List ℕ} {b : Bool} (rule : List ℕ) (at : ℕ) → Gives w x rest b
    → let sc : ℕ → ℕ = λ k. get_or (slots_of rule at) k 0 in
    Gives w x (write_group rule at rest)
    (asked w x 64 (sc 0) || (asked w x 32 (sc 1) || (asked w x 16 (sc 2) || (asked w x 8 (sc 3) || (asked w x 4 (sc 4)
    || (asked w x 2 (sc 5) || (asked w x 1 (sc 6) || b)))))))
unfolding write_group slots_of
seven_give rule at g =
    one-gives rule _ _ 64 (omega arith) (one-gives rule _ _ 32 (omega arith) (one-gives rule _ _ 16 (omega arith)
    (one-gives rule _ _ 8 (omega arith) (one-gives rule _ _ 4 (omega arith) (one-gives rule _ _ 2 (omega arith)
    (one-gives rule _ _ 1 (omega arith) g))))))

-- a group gives what its slot for the right holds: only the right's own bit has it
group-gives : (rule : List ℕ) (at : ℕ) (right : Right) (x : Sets) {rest : List ℕ} {b : Bool} → Gives (bit_of right) x rest b
    → Gives (bit_of right) x (write_group rule at rest) (holds_at rule (slot_of right) x at || b)
unfolding holds_at
group-gives rule at DeleteSelf x g = seven_give rule at g
group-gives rule at Terminate x g = seven_give rule at g
group-gives rule at Activate x g = seven_give rule at g
group-gives rule at Deactivate x g = seven_give rule at g
group-gives rule at CreateDf x g = seven_give rule at g
group-gives rule at CreateEf x g = seven_give rule at g
group-gives rule at DeleteChild x g = seven_give rule at g
group-gives rule at Update x g = seven_give rule at g
group-gives rule at Read x g = seven_give rule at g

none-gives : (w : ℕ) (x : Sets) → Gives w x [] false
unfolding opens_one
none-gives w x = record { says = λ am. ap (opens_one w x am) objects_none }

from_gives : (more : ℕ) (rule : List ℕ) (at : ℕ) (right : Right) (x : Sets)
    → Gives (bit_of right) x (writing_from more rule at) (some_from more (holds_at rule (slot_of right) x) rule at)
unfolding writing_from
from_gives zero rule at right x = none-gives (bit_of right) x
from_gives (suc more) rule at right x = go (ltb at (length rule)) (from_gives more rule (next_of rule at) right x)
  where
    go : (t : Bool)
        → Gives (bit_of right) x (writing_from more rule (next_of rule at))
        (some_from more (holds_at rule (slot_of right) x) rule (next_of rule at))
        → Gives (bit_of right) x (cond t (write_group rule at (writing_from more rule (next_of rule at))) [])
        (cond t (holds_at rule (slot_of right) x at || some_from more (holds_at rule (slot_of right) x) rule (next_of rule at)) false)
    go true g = group-gives rule at right x g
    go false g = none-gives (bit_of right) x

-- a row that may stand in a rule before which nothing is due: it goes on, and where there is any it begins with an AM_DO
record Stands (l : List ℕ) : Type 0 where
  goes : goes_on false (objects_of l) ≡ true
  begins : (l ≡ []) ⊎ (get_or l 0 0 ≡ 0x80)

none_stands : Stands []
unfolding goes_on
none_stands = record { goes = ap (goes_on false) objects_none; begins = inl refl }

one_stands : (on bit sc : ℕ) {rest : List ℕ} → bit < 128 → Stands rest → Stands (write_one on bit sc rest)
one_stands on bit sc {rest} h g = go (eqb on 1)
  where
    go : (t : Bool) → Stands (cond t (written bit sc rest) rest)
    go true = record { goes = write_goes bit sc rest h g.goes; begins = inr refl }
    go false = g

group_stands : (rule : List ℕ) (at : ℕ) {rest : List ℕ} → Stands rest → Stands (write_group rule at rest)
unfolding write_group
group_stands rule at g =
    one_stands (b7 (get_or rule at 0)) 64 (get_or (slots_of rule at) 0 0) (omega arith)
    (one_stands (b6 (get_or rule at 0)) 32 (get_or (slots_of rule at) 1 0) (omega arith)
    (one_stands (b5 (get_or rule at 0)) 16 (get_or (slots_of rule at) 2 0) (omega arith)
    (one_stands (b4 (get_or rule at 0)) 8 (get_or (slots_of rule at) 3 0) (omega arith)
    (one_stands (b3 (get_or rule at 0)) 4 (get_or (slots_of rule at) 4 0) (omega arith)
    (one_stands (b2 (get_or rule at 0)) 2 (get_or (slots_of rule at) 5 0) (omega arith)
    (one_stands (b1 (get_or rule at 0)) 1 (get_or (slots_of rule at) 6 0) (omega arith) g))))))

from_stands : (more : ℕ) (rule : List ℕ) (at : ℕ) → Stands (writing_from more rule at)
unfolding writing_from
from_stands zero rule at = none_stands
from_stands (suc more) rule at = go (ltb at (length rule)) (from_stands more rule (next_of rule at))
  where
    go : (t : Bool) → Stands (writing_from more rule (next_of rule at))
        → Stands (cond t (write_group rule at (writing_from more rule (next_of rule at))) [])
    go true g = group_stands rule at g
    go false g = none_stands

stands : (c : List ℕ) → Stands (expanded_writing c)
unfolding expanded_writing
stands c = from_stands (suc (length c)) c 0

opens_alike : (c : List ℕ) (right : Right) (x : Sets)
    → opens_one (bit_of right) x 0 (objects_of (expanded_writing c)) ≡ compact_grants c right x
unfolding expanded_writing compact_grants allows_of some_group
opens_alike c right x = (from_gives (suc (length c)) c 0 right x).says 0

stands_formed : (l : List ℕ) → Stands l → (l ≡ [] → ⊥) → expanded_formed l ≡ true
unfolding expanded_formed
stands_formed l g n = ⊎_elim (λ e. absurd (n e)) (λ e. rw (eq-eqb (get_or l 0 0) 0x80 e, g.goes)) g.begins

pub writing_formed : WritingFormed
writing_formed c n = stands_formed (expanded_writing c) (stands c) n

none_alike : (l : List ℕ) (right : Right) (x : Sets) → l ≡ []
    → expanded_grants l right x ≡ opens_one (bit_of right) x 0 (objects_of l)
unfolding expanded_grants expanded_formed opens_one
none_alike l right x e = rw e (sym (ap (opens_one (bit_of right) x 0) objects_none))

some_alike : (l : List ℕ) (right : Right) (x : Sets) → Stands l → get_or l 0 0 ≡ 0x80
    → expanded_grants l right x ≡ opens_one (bit_of right) x 0 (objects_of l)
unfolding expanded_grants expanded_formed
some_alike l right x g e = rw (eq-eqb (get_or l 0 0) 0x80 e, g.goes)

pub writing_decides : WritingDecides
writing_decides c right x =
    ⊎_elim (none_alike (expanded_writing c) right x) (some_alike (expanded_writing c) right x (stands c)) (stands c).begins
    ∙ opens_alike c right x

-- where the writing is empty: one bit after the other, then the groups
one-begins : (on bit sc : ℕ) (rest : List ℕ)
    → eqb (get_or (write_one on bit sc rest) 0 0) 0x80 ≡ (eqb on 1 || eqb (get_or rest 0 0) 0x80)
one-begins on bit sc rest = go (eqb on 1)
  where
    go : (t : Bool) → eqb (get_or (cond t (written bit sc rest) rest) 0 0) 0x80 ≡ (t || eqb (get_or rest 0 0) 0x80)
    go true = refl
    go false = refl

bit_adds : (k on n : ℕ) → on < 2 → ltb k (k + (on + n)) ≡ (eqb on 1 || ltb k (k + n))
bit_adds k zero n h = let e : k + (0 + n) ≡ k + n = omega arith in ap (λ (m : ℕ). ltb k m) e
bit_adds k (suc zero) n h = lt-ltb k (k + (1 + n)) (omega arith)
bit_adds k (suc (suc on)) n h = absurd (omega arith)

-- a row begins with an AM_DO where n SC bytes, or z, say so; k is any place
record Begins (k : ℕ) (z : Bool) (n : ℕ) (l : List ℕ) : Type 0 where
  is : eqb (get_or l 0 0) 0x80 ≡ (ltb k (k + n) || z)

more_begins : (on bit sc : ℕ) {k : ℕ} {z : Bool} {n : ℕ} {l : List ℕ} → on < 2 → Begins k z n l
    → Begins k z (on + n) (write_one on bit sc l)
more_begins on bit sc {k} {z} {n} {l} h q =
    record { is = one-begins on bit sc l ∙ go (eqb on 1) ∙ ap (λ (b : Bool). b || z) (sym (bit_adds k on n h)) }
  where
    go : (t : Bool) → (t || eqb (get_or l 0 0) 0x80) ≡ ((t || ltb k (k + n)) || z)
    go true = refl
    go false = q.is

group-begins : (rule : List ℕ) (at : ℕ) (rest : List ℕ)
    → eqb (get_or (write_group rule at rest) 0 0) 0x80 ≡ (has_sc rule at || eqb (get_or rest 0 0) 0x80)
unfolding write_group has_sc next_of
group-begins rule at rest = whole.is ∙ ap (λ (m : ℕ). ltb (at + 1) m || eqb (get_or rest 0 0) 0x80) sum
  where
    am : ℕ
    am = get_or rule at 0

    none : Begins (at + 1) (eqb (get_or rest 0 0) 0x80) 0 rest
    none = record { is = rw (le-ltb (at + 1) (at + 1 + 0) (omega arith)) }

    whole : Begins (at + 1) (eqb (get_or rest 0 0) 0x80) (b7 am + (b6 am + (b5 am + (b4 am + (b3 am + (b2 am + (b1 am + 0)))))))
        (write_group rule at rest)
    whole =
        more_begins (b7 am) 64 (get_or (slots_of rule at) 0 0) (omega arith)
        (more_begins (b6 am) 32 (get_or (slots_of rule at) 1 0) (omega arith)
        (more_begins (b5 am) 16 (get_or (slots_of rule at) 2 0) (omega arith)
        (more_begins (b4 am) 8 (get_or (slots_of rule at) 3 0) (omega arith)
        (more_begins (b3 am) 4 (get_or (slots_of rule at) 4 0) (omega arith)
        (more_begins (b2 am) 2 (get_or (slots_of rule at) 5 0) (omega arith)
        (more_begins (b1 am) 1 (get_or (slots_of rule at) 6 0) (omega arith) none))))))

    sum : at + 1 + (b7 am + (b6 am + (b5 am + (b4 am + (b3 am + (b2 am + (b1 am + 0)))))))
        ≡ at + 1 + b7 am + b6 am + b5 am + b4 am + b3 am + b2 am + b1 am
    sum = omega arith

from-begins : (more : ℕ) (rule : List ℕ) (at : ℕ)
    → eqb (get_or (writing_from more rule at) 0 0) 0x80 ≡ some_from more (has_sc rule) rule at
unfolding writing_from
from-begins zero rule at = refl
from-begins (suc more) rule at = go (ltb at (length rule)) (from-begins more rule (next_of rule at))
  where
    go : (t : Bool)
        → eqb (get_or (writing_from more rule (next_of rule at)) 0 0) 0x80 ≡ some_from more (has_sc rule) rule (next_of rule at)
        → eqb (get_or (cond t (write_group rule at (writing_from more rule (next_of rule at))) []) 0 0) 0x80
        ≡ cond t (has_sc rule at || some_from more (has_sc rule) rule (next_of rule at)) false
    go true q = group-begins rule at (writing_from more rule (next_of rule at)) ∙ ap (λ (b : Bool). has_sc rule at || b) q
    go false q = refl

pub writing_formed_where : WritingFormedWhere
unfolding expanded_formed expanded_writing some_group
writing_formed_where c =
    rw (from-begins (suc (length c)) c 0, (from_stands (suc (length c)) c 0).goes) (and-true (some_from (suc (length c)) (has_sc c) c 0))

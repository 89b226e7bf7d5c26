-- Every value that is gathered stands within the data, whatever the bytes.
use mathlib.Core.Path.{◌≡◌, refl, ◌∙◌}
use mathlib.Core.Bool.{Bool, true, false, cond}
use mathlib.Core.List.{List}
use mathlib.Core.Logic.{⊎_elim}
use Prim.Native.Nat.{ℕ, zero, suc, ◌+◌, ◌<◌, ◌≤◌}
use native.Mathlib.Omega.{arith}
use lib.ListN.{length, get_or, set, replicate, length-set}
use lib.Seq.{get_or-set_same, get_or-set_other}
use lib.Dec.{eqb, ltb}
use borrow.Author.Tests.{ltb-false}
use Rattle.std.specs.Prelude.{Option, Some, None, unwrap_or}
use Rattle.laws.proofs.Says.{same_or}
use Rattle.template.specs.declared.Object.{Object}
use Rattle.template.specs.declared.Objects.{Objects}
use Rattle.template.specs.declared.Span.{Span}
use Rattle.template.specs.Objects.{nowhere, object_at, order, noted, on_tag, taken_at, no_objects, taken_below, objects_of, InData, Held}

-- the value of the object at a place stands behind its tag and length, has at most 127 bytes, and ends within the data
abbrev pub Inside : List ℕ → ℕ → Option Object → Type 0
Inside s at None = Unit
Inside s at (Some x) =
    (x.value.start ≡ at + 2) × (x.value.start ≤ x.value.end) × (x.value.end ≤ x.value.start + 127) × (x.value.end ≤ length s)

unless : (s : List ℕ) (at : ℕ) (b : Bool) (x : Option Object) → (b ≡ false → Inside s at x) → Inside s at (cond b None x)
unless s at true x f = tt
unless s at false x f = f refl

pub inside : (s : List ℕ) (at : ℕ) → Inside s at (object_at s at)
unfolding object_at
inside s at =
    let n : ℕ = get_or s (at + 1) 0 in
    unless s at (ltb (length s) (at + 2)) _ (λ p. unless s at (ltb 127 n) _ (λ q. unless s at (ltb (length s) (at + 2 + n)) _
    (λ r. (refl, omega arith, omega (arith, ltb-false 127 n q), ltb-false (length s) (at + 2 + n) r))))

-- none yet
pub nones : (n k : ℕ) → ◌≡◌ {A = Option Span} (get_or (replicate n None) k None) None
nones zero k = refl
nones (suc n) zero = refl
nones (suc n) (suc k) = nones n k

held_none : (s : List ℕ) → Held s no_objects
held_none s =
    record {
      values_long = refl;
      absent = λ k. rw (nones 12 k) (λ z. refl);
      low = λ k. rw (nones 12 k) (omega arith);
      high = λ k. rw (nones 12 k) (omega arith);
    }

module _ (s : List ℕ) (o : Objects) (k : ℕ) (lt : k < 12) (h : Held s o) where
  -- one entry written over: what holds of it and of each former one
  written : (P : Option Span → Type 0) (p : Option Span) → P p → (j : ℕ) → P (get_or o.values j None)
      → P (get_or (set o.values k p) j None)
  written P p new j old = ⊎_elim at_k other (same_or j k)
    where
      at_k : j ≡ k → P (get_or (set o.values k p) j None)
      at_k q = rw (q, get_or-set_same o.values k p None (omega (arith, h.values_long))) new

      other : (j ≡ k → ⊥) → P (get_or (set o.values k p) j None)
      other n = rw (get_or-set_other o.values k j p None n) old

  held-noted : (p : Span) → 0 < p.start → p.start ≤ p.end → p.end ≤ length s → Held s (noted o k p)
  held-noted p f l i =
      record {
        values_long = length-set o.values k (Some p) ∙ h.values_long;
        absent = λ j. written (λ x. (unwrap_or x nowhere).start ≡ 0 → (unwrap_or x nowhere).end ≡ 0) (Some p)
            (λ z. omega (arith, f, z)) j (h.absent j);
        low = λ j. written (λ x. (unwrap_or x nowhere).start ≤ (unwrap_or x nowhere).end) (Some p) l j (h.low j);
        high = λ j. written (λ x. (unwrap_or x nowhere).end ≤ length s) (Some p) i j (h.high j);
      }

  held_on : (r : Option Object) → Inside s o.next r → Held s (on_tag o k r)
  held_on None i = h
  held_on (Some x) i = go (eqb x.tag (get_or order k 0))
    where
      go : (b : Bool) → Held s (cond b (noted o k x.value) o)
      go true = held-noted x.value (omega (arith, i.0)) i.1 i.3
      go false = h

  held_taken : Held s (taken_at s o k)
  unfolding taken_at
  held_taken = held_on (object_at s o.next) (inside s o.next)

held_below : (s : List ℕ) (n : ℕ) → n ≤ 12 → Held s (taken_below n s)
unfolding taken_below
held_below s zero l = held_none s
held_below s (suc n) l = held_taken s (taken_below n s) n l (held_below s n (omega arith))

pub held : (s : List ℕ) → Held s (objects_of s)
unfolding objects_of
held s = held_below s 12 (omega arith)

pub in-data : (s : List ℕ) (o : Objects) → Held s o → InData s o
in-data s o h = record { values_long = h.values_long; low = h.low; high = h.high }

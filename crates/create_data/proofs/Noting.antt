-- Which objects stand in the data, each in its turn in 01's order, with their values; and that what the reader notes of
-- each tells exactly that, whatever the bytes.
use mathlib.Core.Path.{◌≡◌, refl, sym, ap, ◌∙◌}
use mathlib.Core.Bool.{Bool, true, false, cond}
use mathlib.Core.List.{List, ◌∷◌, ◌++◌}
use mathlib.Core.Logic.{⊎_elim}
use Prim.Native.Nat.{ℕ, zero, suc, ◌+◌, ◌-◌, ◌<◌, ◌≤◌}
use native.Mathlib.Nat.{not-suc-le-zero}
use native.Mathlib.Numerals.{add-one, add-two}
use native.Mathlib.Omega.{arith}
use lib.ListN.{length, get_or, take, drop, set, length-set, take-append-drop}
use lib.Seq.{drop-cons, drop-drop, take_at, get_or-set_same, get_or-set_other}
use lib.Dec.{eqb, ltb}
use borrow.Author.Tests.{eqb-true, ltb-false}
use Rattle.std.specs.Prelude.{Option, Some, None, is_none, unwrap_or}
use Rattle.laws.specs.Lists.{part}
use Rattle.laws.proofs.Branches.{same-cons}
use Rattle.laws.proofs.Splices.{length_part}
use Rattle.laws.proofs.Walks.{split_lt}
use Rattle.template.specs.declared.Object.{Object}
use Rattle.template.specs.declared.Objects.{Objects}
use Rattle.template.specs.declared.Span.{Span}
use Rattle.template.specs.Objects.{nowhere, object_at, order, noted, on_tag, taken_at, taken_below, objects_of}
use Rattle.create_data.specs.Grammar.{object, value_of}
use Rattle.template.proofs.Holding.{nones}

-- object k, as what stands at its place shows it
abbrev pub seen : List ℕ → ℕ → Option Object → Option (List ℕ)
seen s k None = None
seen s k (Some x) = cond (eqb x.tag (get_or order k 0)) (Some (part s x.value.start (x.value.end - x.value.start))) None

-- object k of the data
unfoldable pub standing : List ℕ → ℕ → Option (List ℕ)
standing s k = seen s k (object_at s (taken_below k s).next)

-- a value of m bytes behind a tag and a length at n
abbrev pub behind : ℕ → ℕ → Span
behind n m = record { start = n + 2; end = n + 2 + m }

-- one step: object k is not there and nothing changes, or it is there with value v and is noted
abbrev pub Step : List ℕ → Objects → ℕ → Option (List ℕ) → Objects → Type 0
Step s o k None r = r ≡ o
Step s o k (Some v) r =
    (r ≡ noted o k (behind o.next (length v)))
    × (drop o.next s ≡ object (get_or order k 0) v ++ drop (o.next + 2 + length v) s)
    × (o.next + 2 + length v ≤ length s)

-- the bytes at n, where a whole object stands: its tag, its length m, its value, and what comes after it
module _ (s : List ℕ) (n m : ℕ) (e : get_or s (n + 1) 0 ≡ m) (fits : n + 2 + m ≤ length s) where
  value-length : length (part s (n + 2) (n + 2 + m - (n + 2))) ≡ m
  value-length = let z : n + 2 + m - (n + 2) ≡ m = omega arith in rw z (length_part s (n + 2) m fits)

  value-rest : drop (n + 2) s ≡ part s (n + 2) (n + 2 + m - (n + 2)) ++ drop (n + 2 + m) s
  unfolding part
  value-rest =
      let z : n + 2 + m - (n + 2) ≡ m = omega arith in
      rw z (sym (take-append-drop m (drop (n + 2) s)) ∙ ap (λ (l : List ℕ). take m (drop (n + 2) s) ++ l) (drop-drop m (n + 2) s))

  stands_whole : drop n s ≡ get_or s n 0 ∷ m ∷ (part s (n + 2) (n + 2 + m - (n + 2)) ++ drop (n + 2 + m) s)
  stands_whole =
      drop-cons s n 0 (omega arith)
      ∙ ap (λ (l : List ℕ). get_or s n 0 ∷ l)
      (drop-cons s (suc n) 0 (omega arith)
      ∙ same-cons (ap (λ (i : ℕ). get_or s i 0) (sym (add-one n)) ∙ e) (ap (λ (i : ℕ). drop i s) (sym (add-two n)) ∙ value-rest))

-- every step is one of the two
pub step : (s : List ℕ) (o : Objects) (k : ℕ) → Step s o k (seen s k (object_at s o.next)) (taken_at s o k)
unfolding taken_at object_at
step s o k = go (ltb (length s) (n + 2)) (ltb 0x7F m) (ltb (length s) (n + 2 + m)) refl
  where
    n : ℕ
    n = o.next

    m : ℕ
    m = get_or s (n + 1) 0

    v : List ℕ
    v = part s (n + 2) (n + 2 + m - (n + 2))

    tagged : n + 2 + m ≤ length s → (b : Bool) → eqb (get_or s n 0) (get_or order k 0) ≡ b
        → Step s o k (cond b (Some v) None) (cond b (noted o k (behind n m)) o)
    tagged l false q = refl
    tagged l true q =
        let z : length v ≡ m = value-length s n m refl l in (
          ap (λ (i : ℕ). noted o k (behind n i)) (sym z),
          stands_whole s n m refl l ∙ same-cons (eqb-true _ _ q) (same-cons (sym z) (ap (λ (i : ℕ). v ++ drop (n + 2 + i) s) (sym z))),
          omega arith,
        )

    go : (a b c : Bool) → ltb (length s) (n + 2 + m) ≡ c
        → let r : Option Object = cond a None (cond b None (cond c None (Some (record { tag = get_or s n 0; value = behind n m })))) in
        Step s o k (seen s k r) (on_tag o k r)
    go true b c q = refl
    go false true c q = refl
    go false false true q = refl
    go false false false q = tagged (ltb-false (length s) (n + 2 + m) q) (eqb (get_or s n 0) (get_or order k 0)) refl

-- a value that stands at p, or none
pub record Stands (s : List ℕ) (p : Option Span) (x : Option (List ℕ)) : Type 0 where
  pub value : part s (unwrap_or p nowhere).start ((unwrap_or p nowhere).end - (unwrap_or p nowhere).start) ≡ value_of x
  pub long : (unwrap_or p nowhere).end - (unwrap_or p nowhere).start ≡ length (value_of x)
  pub lacking : is_none p ≡ is_none x

-- each of the twelve is noted where it stands
abbrev pub Noted : List ℕ → (ℕ → Option (List ℕ)) → Objects → Type 0
Noted s x o = (k : ℕ) → k < 12 → Stands s (get_or o.values k None) (x k)

-- the objects below k are noted, the others are to come
record Upto (s : List ℕ) (x : ℕ → Option (List ℕ)) (k : ℕ) (o : Objects) : Type 0 where
  values_long : length o.values ≡ 12
  read : (j : ℕ) → j < k → Stands s (get_or o.values j None) (x j)
  none : (j : ℕ) → k ≤ j → ◌≡◌ {A = Option Span} (get_or o.values j None) None
  within : o.next ≤ length s

stands_none : (s : List ℕ) → Stands s None None
unfolding part
stands_none s = record { value = refl; long = refl; lacking = refl }

-- a step keeps it so
module _ (s : List ℕ) (x : ℕ → Option (List ℕ)) (k : ℕ) (lt : k < 12) (o : Objects) (h : Upto s x k o) where
  none-noted : x k ≡ None → Upto s x (suc k) o
  none-noted q = record {
    values_long = h.values_long;
    read = λ j m. ⊎_elim (here j) (h.read j) (split_lt m);
    none = λ j m. h.none j (omega arith);
    within = h.within;
  }
    where
      here : (j : ℕ) → j ≡ k → Stands s (get_or o.values j None) (x j)
      here j z = rw (z, q, h.none k (omega arith)) (stands_none s)

  module _ (v : List ℕ) (q : x k ≡ Some v) (w : drop o.next s ≡ object (get_or order k 0) v ++ drop (o.next + 2 + length v) s)
      (f : o.next + 2 + length v ≤ length s) where
    stands : Stands s (Some (behind o.next (length v))) (Some v)
    unfolding part
    stands =
        let z : o.next + 2 + length v - (o.next + 2) ≡ length v = omega arith in
        record {
          value =
              ap (λ (i : ℕ). take i (drop (o.next + 2) s)) z
              ∙ ap (λ (l : List ℕ). take (length v) l) (sym (drop-drop 2 o.next s) ∙ ap (λ (l : List ℕ). drop 2 l) w)
              ∙ take_at v (drop (o.next + 2 + length v) s) (length v) refl;
          long = z;
          lacking = refl;
        }

    one-noted : Upto s x (suc k) (noted o k (behind o.next (length v)))
    one-noted = record {
      values_long = length-set o.values k p ∙ h.values_long;
      read = λ j m. ⊎_elim (here j) (λ i. other j (λ z. omega arith) (h.read j i)) (split_lt m);
      none = λ j m. get_or-set_other o.values k j p None (λ z. omega arith) ∙ h.none j (omega arith);
      within = f;
    }
      where
        p : Option Span
        p = Some (behind o.next (length v))

        here : (j : ℕ) → j ≡ k → Stands s (get_or (set o.values k p) j None) (x j)
        here j z = rw (z, q, get_or-set_same o.values k p None (omega (arith, h.values_long))) stands

        other : (j : ℕ) → (j ≡ k → ⊥) → Stands s (get_or o.values j None) (x j) → Stands s (get_or (set o.values k p) j None) (x j)
        other j n t = rw (get_or-set_other o.values k j p None n) t

  noted-on : (y : Option (List ℕ)) → x k ≡ y → (r : Objects) → Step s o k y r → Upto s x (suc k) r
  noted-on None q r p = rw p (none-noted q)
  noted-on (Some v) q r p = rw p.0 (one-noted v q p.1 p.2)

-- what the reader notes is what is standing, in any data that have 62 LL
module _ (s : List ℕ) (long : 2 ≤ length s) where
  upto : (k : ℕ) → k ≤ 12 → Upto s (standing s) k (taken_below k s)
  unfolding taken_below standing
  upto zero l = record {
    values_long = refl;
    read = λ j m. absurd (not-suc-le-zero m);
    none = λ j m. nones 12 j;
    within = long;
  }
  upto (suc k) l =
      let o : Objects = taken_below k s in
      noted-on s (standing s) k l o (upto k (omega arith)) (standing s k) refl (taken_below (suc k) s) (step s o k)

  pub standing_noted : Noted s (standing s) (objects_of s)
  unfolding objects_of
  standing_noted = (upto 12 (omega arith)).read

  pub next-within : (objects_of s).next ≤ length s
  unfolding objects_of
  next-within = (upto 12 (omega arith)).within

-- A row of data objects: how it is read at a place, and how a loop over it starts, goes on and is left; once
-- for `every` and once for `some`.
use mathlib.Core.Path.{◌≡◌, refl, sym, ◌∙◌, ap}
use mathlib.Core.Bool.{Bool, true, false, not, cond, ◌&&◌, and-false}
use mathlib.Core.List.{List, [], ◌∷◌}
use Prim.Native.Nat.{ℕ, zero, suc, ◌+◌, ◌-◌, ◌<◌, ◌≤◌}
use native.Mathlib.Numerals.{add-one}
use native.Mathlib.Omega.{arith}
use lib.ListN.{length, get_or, take, drop, length-drop, drop_of_length-le}
use lib.Seq.{drop-cons, drop-drop}
use lib.Dec.{leb, ltb}
use borrow.Author.Tests.{le-leb, lt-leb, ltb-true, ltb-false, not-true, not-false}
use Rattle.expanded.specs.Object.{Object, object, cut, objects_from, objects_of, every, several, Ends}

-- bounds that are large enough make no difference
same_more : (m n : ℕ) (s : List ℕ) → length s ≤ m → length s ≤ n → objects_from m s ≡ objects_from n s
unfolding objects_from
same_more zero zero s h k = refl
same_more zero (suc n) [] h k = refl
same_more zero (suc n) (tag ∷ s) h k = absurd (omega arith)
same_more (suc m) zero [] h k = refl
same_more (suc m) zero (tag ∷ s) h k = absurd (omega arith)
same_more (suc m) (suc n) [] h k = refl
same_more (suc m) (suc n) (tag ∷ []) h k = refl
same_more (suc m) (suc n) (tag ∷ (z ∷ s)) h k =
    ap (λ (os : List Object). cond (leb z 127 && leb z (length s)) (object tag (take z s) ∷ os) (cut ∷ []))
    (same_more m n (drop z s) (omega (arith, length-drop z s)) (omega (arith, length-drop z s)))

pub objects_none : objects_of [] ≡ []
unfolding objects_of objects_from
objects_none = refl

pub objects_one : (tag : ℕ) → objects_of (tag ∷ []) ≡ cut ∷ []
unfolding objects_of objects_from
objects_one tag = refl

module _ (tag n : ℕ) (s : List ℕ) where
  pub objects_row : n ≤ 127 → n ≤ length s → objects_of (tag ∷ (n ∷ s)) ≡ object tag (take n s) ∷ objects_of (drop n s)
  unfolding objects_of objects_from
  objects_row a b =
      rw (le-leb n 127 a, le-leb n (length s) b)
      (ap (λ (os : List Object). object tag (take n s) ∷ os)
      (same_more (suc (length s)) (length (drop n s)) (drop n s) (omega (arith, length-drop n s)) (omega arith)))

  pub objects_long : 127 < n → objects_of (tag ∷ (n ∷ s)) ≡ cut ∷ []
  unfolding objects_of objects_from
  objects_long a = rw (lt-leb n 127 a)

  pub objects_past : length s < n → objects_of (tag ∷ (n ∷ s)) ≡ cut ∷ []
  unfolding objects_of objects_from
  objects_past a = rw (lt-leb n (length s) a, and-false (leb n 127))

-- tag and length byte at a place, and what stands after them
row_at : (s : List ℕ) (at : ℕ) → at + 2 ≤ length s → drop at s ≡ get_or s at 0 ∷ (get_or s (at + 1) 0 ∷ drop (at + 2) s)
row_at s at h =
    let e : at + 1 ≡ suc at = add-one at in
    let f : at + 2 ≡ suc (suc at) = omega arith in
    drop-cons s at 0 (omega arith)
    ∙ ap (λ (l : List ℕ). get_or s at 0 ∷ l)
    (drop-cons s (suc at) 0 (omega arith)
    ∙ ap (λ (k : ℕ). get_or s k 0 ∷ drop (suc (suc at)) s) (sym e)
    ∙ ap (λ (k : ℕ). get_or s (at + 1) 0 ∷ drop k s) (sym f))

-- where an object ends: no room for a length byte; too long; past the end; whole
broken_at : (s : List ℕ) (at : ℕ) → at < length s → objects_of (drop at s) ≡ cut ∷ [] → Ends s at at
broken_at s at h e = record { from = omega arith; within = omega arith; whole = λ k. absurd (omega arith); broken = λ k. e }

module _ (s : List ℕ) (at : ℕ) (h : at < length s) where
  pub end_short : length s - at < 2 → Ends s at at
  end_short k =
      let m : length s ≤ suc at = omega arith in
      broken_at s at h
      (ap objects_of (drop-cons s at 0 h ∙ ap (λ (l : List ℕ). get_or s at 0 ∷ l) (drop_of_length-le s m)) ∙ objects_one (get_or s at 0))

  module _ (n : ℕ) (k : 2 ≤ length s - at) (e : n ≡ get_or s (at + 1) 0) where
    pub end-long : 127 < n → Ends s at at
    end-long a =
        broken_at s at h
        (ap objects_of (row_at s at (omega arith)) ∙ objects_long (get_or s at 0) (get_or s (at + 1) 0) (drop (at + 2) s) (rw e at a))

    pub end-past : length s - (at + 2) < n → Ends s at at
    end-past a =
        broken_at s at h
        (ap objects_of (row_at s at (omega arith))
        ∙ objects_past (get_or s at 0) (get_or s (at + 1) 0) (drop (at + 2) s) (rw (length-drop (at + 2) s) (rw e at a)))

    pub end_whole : n ≤ 127 → n ≤ length s - (at + 2) → Ends s at (at + 2 + n)
    end_whole a b =
        record {
          from = omega arith;
          within = omega arith;
          whole = λ j. there;
          broken = λ j. absurd (omega arith);
        }
      where
        z : ℕ
        z = get_or s (at + 1) 0

        read : objects_of (drop at s) ≡ object (get_or s at 0) (take n (drop (at + 2) s)) ∷ objects_of (drop n (drop (at + 2) s))
        read =
            ap objects_of (row_at s at (omega arith))
            ∙ ap (λ (m : ℕ). objects_of (get_or s at 0 ∷ (m ∷ drop (at + 2) s))) (sym e)
            ∙ objects_row (get_or s at 0) n (drop (at + 2) s) a (rw (length-drop (at + 2) s) b)

        there : objects_of (drop at s)
            ≡ object (get_or s at 0) (take (at + 2 + n - (at + 2)) (drop (at + 2) s)) ∷ objects_of (drop (at + 2 + n) s)
        there =
            let f : n ≡ at + 2 + n - (at + 2) = omega arith in
            read
            ∙ ap (λ (l : List ℕ). object (get_or s at 0) (take n (drop (at + 2) s)) ∷ objects_of l) (drop-drop n (at + 2) s)
            ∙ ap (λ (m : ℕ). object (get_or s at 0) (take m (drop (at + 2) s)) ∷ objects_of (drop (at + 2 + n) s)) f

pub ruleset ends = (end_short, end-long, end-past, end_whole)

-- nothing is left at the end
pub objects_end : (s : List ℕ) (at : ℕ) → length s ≤ at → objects_of (drop at s) ≡ []
objects_end s at h = ap objects_of (drop_of_length-le s h) ∙ objects_none

-- at least two: a first that is whole, and something after it
then_two : (o : Object) (b : Bool) (p q : Object) (x y : List Object) → several (o ∷ cond b (p ∷ x) (q ∷ y)) ≡ true
unfolding several
then_two o true p q x y = refl
then_two o false p q x y = refl

two_of : (o : Object) (s : List ℕ) → 0 < length s → several (o ∷ objects_of s) ≡ true
unfolding several objects_of objects_from
two_of o [] h = absurd (omega arith)
two_of o (tag ∷ []) h = refl
two_of o (tag ∷ (n ∷ s)) h =
    then_two o (leb n 127 && leb n (length s)) (object tag (take n s)) cut (objects_from (suc (length s)) (drop n s)) []

module _ (s : List ℕ) where
  pub several-none : length s < 1 → false ≡ several (objects_of s)
  unfolding several
  several-none h = sym (ap several (objects_end s 0 (omega arith)))

  module _ (to : ℕ) (e : Ends s 0 to) where
    pub several-cut : to < 2 → false ≡ several (objects_of s)
    unfolding several
    several-cut h = sym (ap several (e.broken (omega arith)))

    pub several_more : 2 ≤ to → ltb to (length s) ≡ several (objects_of s)
    unfolding several
    several_more h = go (ltb to (length s)) refl
      where
        first : Object
        first = object (get_or s 0 0) (take (to - (0 + 2)) (drop (0 + 2) s))

        rest : several (first ∷ objects_of (drop to s)) ≡ several (objects_of s)
        rest = sym (ap several (e.whole (omega arith)))

        go : (b : Bool) → ltb to (length s) ≡ b → b ≡ several (objects_of s)
        go true q = sym (two_of first (drop to s) (omega (arith, length-drop to s, ltb-true to (length s) q))) ∙ rest
        go false q = sym (ap (λ (os : List Object). several (first ∷ os)) (objects_end s to (ltb-false to (length s) q))) ∙ rest

pub ruleset severals = (several-none, several-cut, several_more)

-- a loop that asks f of each object, and stops at one that fails
pub record Each (f : Object → Bool) (s : List ℕ) (at : ℕ) : Type 0 where
  pub left : every f (objects_of s) ≡ every f (objects_of (drop at s))

pub each_start : (f : Object → Bool) (s : List ℕ) → Each f s 0
each_start f s = record { left = refl }

module _ {f : Object → Bool} {s : List ℕ} {at : ℕ} (inv : Each f s at) where
  pub each_end : length s ≤ at → true ≡ every f (objects_of s)
  unfolding every
  each_end h = sym (inv.left ∙ ap (every f) (objects_end s at h))

  module _ {to : ℕ} (e : Ends s at to) where
    pub each_cut : to - at < 2 → f cut ≡ false → false ≡ every f (objects_of s)
    unfolding every
    each_cut h z = sym (inv.left ∙ ap (every f) (e.broken h) ∙ rw z)

    module _ {r : Bool} (h : 2 ≤ to - at) (q : r ≡ f (object (get_or s at 0) (take (to - (at + 2)) (drop (at + 2) s)))) where
      pub each_no : not r ≡ true → false ≡ every f (objects_of s)
      unfolding every
      each_no t = sym (inv.left ∙ ap (every f) (e.whole h) ∙ rw (← q, not-true r t))

      pub each_next : not r ≡ false → Each f s to
      unfolding every
      each_next t = record { left = inv.left ∙ ap (every f) (e.whole h) ∙ rw (← q, not-false r t) }

pub ruleset eachs = (each_start, each_end, each_cut, each_no, each_next)

-- The objects of the data one after the other, in 01's order: where the objects that are standing end the data, the data are
-- those objects; and data that are such objects are standing as they are, in only one way.
use mathlib.Core.Path.{◌≡◌, refl, sym, ap, ◌∙◌}
use mathlib.Core.Bool.{Bool, true, not, cond, ◌&&◌, false≢true}
use mathlib.Core.List.{List, [], ◌++◌, append_assoc}
use mathlib.Core.Logic.{⊎_elim}
use Prim.Native.Nat.{ℕ, zero, suc, ◌+◌, ◌-◌, ◌<◌, ◌≤◌}
use native.Mathlib.Nat.{add-zero}
use native.Mathlib.Omega.{arith}
use lib.ListN.{length, get_or, take, drop, length-append, length-drop}
use lib.Seq.{get_or-drop, take_at, drop_at}
use lib.Dec.{eqb}
use borrow.Author.Tests.{eqb-false, not-true, eq-eqb, le-ltb}
use Rattle.std.specs.Prelude.{Option, Some, None, is_none}
use Rattle.laws.specs.Walks.{all_below}
use Rattle.laws.specs.Lists.{part}
use Rattle.laws.proofs.Walks.{all_each}
use Rattle.laws.proofs.Says.{and-says, same_or}
use Rattle.template.specs.declared.Objects.{Objects}
use Rattle.template.specs.Objects.{object_at, order, taken_at, taken_below, objects_of}
use Rattle.create_data.specs.Grammar.{object, optional}
use Rattle.create_data.proofs.Noting.{seen, behind, standing, Step, step, next-within}

-- n objects from number k on
abbrev pub run : ℕ → ℕ → (ℕ → Option (List ℕ)) → List ℕ
run zero k x = []
run (suc n) k x = optional (get_or order k 0) (x k) ++ run n (suc k) x

-- what was standing was written
step-written : (s : List ℕ) (o : Objects) (k : ℕ) (x : Option (List ℕ)) (r : Objects) → Step s o k x r
    → drop o.next s ≡ optional (get_or order k 0) x ++ drop r.next s
step-written s o k None r p = ap (λ (y : Objects). drop y.next s) (sym p)
step-written s o k (Some v) r p = p.1 ∙ ap (λ (y : Objects). object (get_or order k 0) v ++ drop y.next s) (sym p.0)

written_from : (s : List ℕ) (n k : ℕ) → n + k ≡ 12 → drop (taken_below k s).next s ≡ run n k (standing s) ++ drop (objects_of s).next s
unfolding objects_of taken_below standing
written_from s zero k e = let z : k ≡ 12 = omega arith in ap (λ (i : ℕ). drop (taken_below i s).next s) z
written_from s (suc n) k e =
    step-written s (taken_below k s) k (standing s k) (taken_below (suc k) s) (step s (taken_below k s) k)
    ∙ ap (λ (l : List ℕ). optional (get_or order k 0) (standing s k) ++ l) (written_from s n (suc k) (omega arith))
    ∙ sym (append_assoc (optional (get_or order k 0) (standing s k)) (run n (suc k) (standing s)) (drop (objects_of s).next s))

pub standing_written : (s : List ℕ) → drop 2 s ≡ run 12 0 (standing s) ++ drop (objects_of s).next s
unfolding taken_below
standing_written s = written_from s 12 0 refl

-- t is none of n tags from number k on, nor 0
abbrev fresh : ℕ → ℕ → ℕ → Bool
fresh t zero k = not (eqb 0 t)
fresh t (suc n) k = not (eqb (get_or order k 0) t) && fresh t n (suc k)

-- what is to come does not start with a tag that is past
not_first : (t n k : ℕ) (x : ℕ → Option (List ℕ)) → fresh t n k ≡ true → get_or (run n k x) 0 0 ≡ t → ⊥
not_first t zero k x f e = eqb-false 0 t (not-true _ f) e
not_first t (suc n) k x f e = go (not_first t n (suc k) x f_both.1) (x k) e
  where
    f_both : (not (eqb (get_or order k 0) t) ≡ true) × (fresh t n (suc k) ≡ true)
    f_both = (and-says (not (eqb (get_or order k 0) t)) _).0 f

    go : (get_or (run n (suc k) x) 0 0 ≡ t → ⊥) → (y : Option (List ℕ)) → get_or (optional (get_or order k 0) y ++ run n (suc k) x) 0 0 ≡ t → ⊥
    go f None q = f q
    go f (Some v) q = eqb-false (get_or order k 0) t (not-true _ f_both.0) q

past : (n k : ℕ) → n + suc k ≡ 12 → fresh (get_or order k 0) n (suc k) ≡ true
unfolding all_below
past n k e =
    let z : n ≡ 11 - k = omega arith in
    rw z (all_each (λ j. fresh (get_or order j 0) (11 - j) (suc j)) 12 k (omega arith) refl)

-- a whole object that stands at a place
value-whole : (s : List ℕ) (at : ℕ) → at + 2 ≤ length s → get_or s (at + 1) 0 ≤ 127 → at + 2 + get_or s (at + 1) 0 ≤ length s
    → object_at s at ≡ Some (record { tag = get_or s at 0; value = behind at (get_or s (at + 1) 0) })
unfolding object_at
value-whole s at h l v =
    rw (le-ltb (length s) (at + 2) h, le-ltb 127 (get_or s (at + 1) 0) l, le-ltb (length s) (at + 2 + get_or s (at + 1) 0) v)

-- two objects of one tag, with what follows them
same_object : (t : ℕ) (v w l m : List ℕ) → object t v ++ l ≡ object t w ++ m → (v ≡ w) × (l ≡ m)
same_object t v w l m e =
    let n : length v ≡ length w = ap (λ (i : List ℕ). get_or i 1 0) e in
    let r : v ++ l ≡ w ++ m = ap (λ (i : List ℕ). drop 2 i) e in (
      sym (take_at v l (length v) refl) ∙ ap (λ (i : List ℕ). take (length v) i) r ∙ take_at w m (length v) (sym n),
      sym (drop_at v l (length v) refl) ∙ ap (λ (i : List ℕ). drop (length v) i) r ∙ drop_at w m (length v) (sym n),
    )

module _ (s : List ℕ) (short : length s ≤ 129) (x : ℕ → Option (List ℕ)) where
  -- an object that stands next is seen
  module _ (k n : ℕ) (v rest : List ℕ) (e : drop n s ≡ object (get_or order k 0) v ++ rest) where
    not_overlooked : seen s k (object_at s n) ≡ None → ⊥
    not_overlooked q = false≢true (sym (ap is_none shown) ∙ ap is_none q)
      where
        head : get_or s n 0 ≡ get_or order k 0
        head = ap (λ (i : ℕ). get_or s i 0) (sym (add-zero n)) ∙ sym (get_or-drop n s 0 0) ∙ ap (λ (l : List ℕ). get_or l 0 0) e

        second : get_or s (n + 1) 0 ≡ length v
        second = sym (get_or-drop n s 1 0) ∙ ap (λ (l : List ℕ). get_or l 1 0) e

        long : n + 2 + length v + length rest ≡ length s
        long = omega (arith, length-drop n s, ap length e, length-append v rest)

        shown : seen s k (object_at s n) ≡ Some (part s (n + 2) (n + 2 + get_or s (n + 1) 0 - (n + 2)))
        shown =
            ap (seen s k) (value-whole s n (omega (arith, long)) (omega (arith, second, long)) (omega (arith, long, second)))
            ∙ ap (λ (b : Bool). cond b (Some (part s (n + 2) (n + 2 + get_or s (n + 1) 0 - (n + 2)))) None) (eq-eqb _ _ head)

  -- one step over objects that were written
  one_told : (n k : ℕ) → n + suc k ≡ 12 → (o : Objects) → drop o.next s ≡ run (suc n) k x
      → (seen s k (object_at s o.next) ≡ x k) × (drop (taken_at s o k).next s ≡ run n (suc k) x)
  one_told n k l o e = go (seen s k (object_at s o.next)) (x k) refl (step s o k) e
    where
      go : (y z : Option (List ℕ)) → seen s k (object_at s o.next) ≡ y → Step s o k y (taken_at s o k)
          → drop o.next s ≡ optional (get_or order k 0) z ++ run n (suc k) x
          → (y ≡ z) × (drop (taken_at s o k).next s ≡ run n (suc k) x)
      go None None q p w = (refl, ap (λ (r : Objects). drop r.next s) p ∙ w)
      go None (Some v) q p w = absurd (not_overlooked k o.next v (run n (suc k) x) w q)
      go (Some v) None q p w =
          absurd (not_first (get_or order k 0) n (suc k) x (past n k l) (ap (λ (i : List ℕ). get_or i 0 0) (sym w ∙ p.1)))
      go (Some u) (Some v) q p w =
          let both = same_object (get_or order k 0) u v _ _ (sym p.1 ∙ w) in
          (ap Some both.0, ap (λ (r : Objects). drop r.next s) p.0 ∙ both.1)

  told-from : (n k : ℕ) → n + k ≡ 12 → drop (taken_below k s).next s ≡ run n k x
      → ((j : ℕ) → k ≤ j → j < 12 → standing s j ≡ x j) × (drop (objects_of s).next s ≡ [])
  unfolding objects_of taken_below standing
  told-from zero k l e =
      let z : k ≡ 12 = omega arith in
      (λ j a b. absurd (omega arith), ap (λ (i : ℕ). drop (taken_below i s).next s) (sym z) ∙ e)
  told-from (suc n) k l e =
      let this = one_told n k (omega arith) (taken_below k s) e in
      let rest = told-from n (suc k) (omega arith) this.1 in
      (λ j a b. ⊎_elim (λ z. rw z this.0) (λ i. rest.0 j (omega arith) b) (same_or j k), rest.1)

  module _ (long : 2 ≤ length s) (e : drop 2 s ≡ run 12 0 x) where
    told-all : ((j : ℕ) → 0 ≤ j → j < 12 → standing s j ≡ x j) × (drop (objects_of s).next s ≡ [])
    unfolding taken_below
    told-all = told-from 12 0 refl e

    -- what was written is standing, and ends the data
    pub written-told : (j : ℕ) → j < 12 → standing s j ≡ x j
    written-told j l = told-all.0 j (omega arith) l

    pub written-ends : (objects_of s).next ≡ length s
    written-ends = omega (arith, next-within s long, length-drop (objects_of s).next s, ap length told-all.1)

-- A file among its siblings: it looks at those before it, or its key is new and none of them can be like it.
use mathlib.Core.Path.{◌≡◌, refl, sym, ◌∙◌, ap}
use mathlib.Core.Bool.{Bool, true, false, not, ◌&&◌, false≢true}
use mathlib.Core.List.{List}
use Prim.Native.Nat.{ℕ, ◌+◌, ◌*◌, ◌%◌, ◌<◌, ◌≤◌}
use lib.Dec.{eqb}
use borrow.Author.Tests.{eqb-true}
use Rattle.laws.specs.Walks.{all_below}
use Rattle.laws.specs.Tests.{implies}
use Rattle.laws.proofs.Chains.{implies-no, implies-yes}
use Rattle.laws.proofs.Says.{implies-says, not-says}
use Rattle.laws.proofs.Walks.{all_more, all_fails, all_end, each_all}
use Rattle.keys.specs.Marks.{marked, Keyed}
use Rattle.image.specs.Layout.{rec_at, identifier_of, parent_of}
use Rattle.sound.specs.Table.{view_at, is_file}
use Rattle.sound.specs.Kin.{apart_at, siblings_at}
use Rattle.sound.specs.Kinship.{is_child, is_child_named}
use Rattle.kinship.proofs.Files.{no-file, a_file}
use Rattle.sound_siblings.specs.Key.{sibling_key}

-- not siblings with one identifier: no child of that parent with it
apart-child : (a b c : Bool) → implies a (implies b (not c)) ≡ not ((a && b) && c)
unfolding implies
apart-child true true c = refl
apart-child true false c = refl
apart-child false b c = refl

module _ (img : List ℕ) (s : ℕ) (f : Bool) (e : f ≡ is_file (view_at img) s) where
  pub siblings-free : not f ≡ true → true ≡ siblings_at (view_at img) s
  unfolding siblings_at
  siblings-free t = implies-no _ _ (no-file img s f e t)

  -- d and x are the parent and the identifier of s, r says whether k is a child of d with identifier x
  module _ (t : not f ≡ false) (d x k : ℕ) (p : d ≡ parent_of (rec_at img s)) (q : x ≡ identifier_of (rec_at img s)) (r : Bool)
      (g : r ≡ is_child_named (view_at img) d x k) where
    apart_is : (b : Bool) → r ≡ b → apart_at (view_at img) s k ≡ not b
    unfolding apart_at is_child_named is_child
    apart_is b h =
        rw (← p, ← q)
        (apart-child (is_file (view_at img) k) (eqb (parent_of (rec_at img k)) d) (eqb (identifier_of (rec_at img k)) x) ∙ ap not (sym g ∙ h))

    pub siblings_turn : all_below k (apart_at (view_at img) s) ≡ true → r ≡ false → all_below (k + 1) (apart_at (view_at img) s) ≡ true
    siblings_turn h z = all_more (apart_at (view_at img) s) k h (apart_is false z)

    pub siblings_stop : k < s → r ≡ true → false ≡ siblings_at (view_at img) s
    unfolding siblings_at
    siblings_stop l z = implies-yes _ _ _ (a_file img s f e t) (sym (all_fails (apart_at (view_at img) s) s k l (apart_is true z)))

  pub siblings-end : not f ≡ false → (k : ℕ) → k ≤ s → s ≤ k → all_below k (apart_at (view_at img) s) ≡ true → true ≡ siblings_at (view_at img) s
  unfolding siblings_at
  siblings-end t k a b h = implies-yes _ _ _ (a_file img s f e t) (all_end (apart_at (view_at img) s) s k a b h)

-- d and x are the parent and the identifier of s, k is made of them
pub sibling-key : (img : List ℕ) (s d x k : ℕ) → d ≡ parent_of (rec_at img s) → x ≡ identifier_of (rec_at img s) → k ≡ (x + d * 40503) % 65536
    → k ≡ sibling_key (view_at img) s
unfolding sibling_key
sibling-key img s d x k p q e = e ∙ rw (p, q)

-- records with the same parent and identifier have one key
same_key :
    (img : List ℕ) (s t : ℕ) → parent_of (rec_at img t) ≡ parent_of (rec_at img s) → identifier_of (rec_at img t) ≡ identifier_of (rec_at img s)
    → sibling_key (view_at img) t ≡ sibling_key (view_at img) s
unfolding sibling_key
same_key img s t p q = rw (p, q)

-- one whose key k is new differs from all siblings before it; r says whether k was seen
module _ (img : List ℕ) (s : ℕ) (seen : List ℕ) (k : ℕ) (r : Bool) (h : Keyed (is_file (view_at img)) (sibling_key (view_at img)) s seen)
    (e : k ≡ sibling_key (view_at img) s) (f : r ≡ marked seen k) (g : r ≡ false) where
  apart_new : (t : ℕ) → t < s → apart_at (view_at img) s t ≡ true
  unfolding apart_at
  apart_new t l =
      (implies-says (is_file (view_at img) t) _).1
      (λ u. (implies-says (eqb (parent_of (rec_at img t)) (parent_of (rec_at img s))) _).1
      (λ p. (not-says (eqb (identifier_of (rec_at img t)) (identifier_of (rec_at img s)))).1
      (λ q. false≢true (sym g ∙ f ∙ ap (marked seen) (e ∙ sym (same_key img s t (eqb-true _ _ p) (eqb-true _ _ q))) ∙ h.has t l u))))

  pub siblings_new : true ≡ siblings_at (view_at img) s
  unfolding siblings_at
  siblings_new = sym ((implies-says (is_file (view_at img) s) _).1 (λ u. each_all (apart_at (view_at img) s) s apart_new))

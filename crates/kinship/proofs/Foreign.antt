-- Foreign records: what a search asks first of a record, w, its identifier and parent in one word, tells that it is no child of d with
-- identifier x; where it does not, whether the record holds a file is all that is left to ask.
use mathlib.Core.Path.{◌≡◌, sym, ap, ◌∙◌}
use mathlib.Core.Bool.{Bool, true, false, not, ◌&&◌, and-true, and-false, false≢true}
use mathlib.Core.List.{List}
use mathlib.Core.Logic.{⊎_elim}
use Prim.Native.Nat.{ℕ, ◌+◌, ◌<◌, ◌≤◌}
use native.Mathlib.Omega.{arith}
use lib.Dec.{eqb}
use borrow.Author.Tests.{eq-eqb, ne_eqb, eqb-false, not-true, not-false}
use Rattle.std.specs.Prelude.{Option, Some, None}
use Rattle.laws.specs.Walks.{first_below}
use Rattle.laws.proofs.Firsts.{first-at, nothing-below}
use Rattle.laws.proofs.Says.{same_or, lt-or, untrue, and-says}
use Rattle.rules.specs.Descriptor.{df}
use Rattle.image.specs.Layout.{rec_at, identifier_of, parent_of}
use Rattle.image.specs.Kin.{kin_word, KinAt}
use Rattle.image.proofs.SameWords.{same-kin}
use Rattle.sound.specs.Table.{View, view_at, is_file}
use Rattle.sound.specs.Kinship.{is_child, is_child_named}
use Rattle.kinship.specs.Search.{Foreign, PassedOver, NoneAsked, FirstKin, is_df_named}

-- r is whether the parent of s is d
module _ (v : ℕ → View) (d s : ℕ) (r : Bool) (e : r ≡ eqb (v s).parent d) where
  pub other-parent : not r ≡ true → false ≡ is_child v d s
  unfolding is_child
  other-parent t = rw (sym e ∙ not-true r t) (sym (and-false (is_file v s)))

  pub same-parent : not r ≡ false → (f : Bool) → f ≡ is_file v s → f ≡ is_child v d s
  unfolding is_child
  same-parent t f h = rw (sym e ∙ not-false r t) (h ∙ sym (and-true (is_file v s)))

module _ (v : ℕ → View) (d s : ℕ) where
  unnamed : (x : ℕ) → ((v s).parent ≡ d → (v s).identifier ≡ x → ⊥) → false ≡ is_child_named v d x s
  unfolding is_child_named is_child
  unnamed x n = ⊎_elim same other (same_or (v s).parent d)
    where
      same : (v s).parent ≡ d → false ≡ ((is_file v s && eqb (v s).parent d) && eqb (v s).identifier x)
      same q = rw (ne_eqb (v s).identifier x (n q)) (sym (and-false (is_file v s && eqb (v s).parent d)))

      other : ((v s).parent ≡ d → ⊥) → false ≡ ((is_file v s && eqb (v s).parent d) && eqb (v s).identifier x)
      other q = rw (ne_eqb (v s).parent d q, and-false (is_file v s))

-- w is the word of record s, k that of identifier x and parent d
module _ (img : List ℕ) (d s x w : ℕ) (h : KinAt img s w) where
  -- no record's parent is that high
  pub no-parent : 65535 < d → false ≡ is_child_named (view_at img) d x s
  no-parent l = unnamed (view_at img) d s x (λ q i. omega (arith, h.parent-low))

  module _ (k : ℕ) (key : k ≡ kin_word x d) where
    pub other_word : (w ≡ k → ⊥) → false ≡ is_child_named (view_at img) d x s
    other_word n = unnamed (view_at img) d s x (λ q i. n (h.word ∙ rw (q, i) (sym key)))

    pub same_word : (r : Bool) → d ≤ 65535 → x < 65536 → w ≡ k → r ≡ is_file (view_at img) s → r ≡ is_child_named (view_at img) d x s
    unfolding is_child_named is_child
    same_word r l m q e =
        let v = view_at img s in
        let both = same-kin v.identifier v.parent x d h.identifier-low h.parent-low m (omega arith) (sym h.word ∙ q ∙ key) in
        rw (eq-eqb v.parent d both.1, eq-eqb v.identifier x both.0, and-true _, and-true _) e

-- a child with that identifier, r, is asked whether it is a DF: k is its kind
module _ (v : ℕ → View) (d x s : ℕ) (r : Bool) (e : r ≡ is_child_named v d x s) where
  pub not_named : not r ≡ true → false ≡ is_df_named v d x s
  unfolding is_df_named
  not_named t = rw (sym e ∙ not-true r t) (sym (and-false (eqb (v s).kind df)))

  pub named-df : (k : ℕ) → not r ≡ false → k ≡ (v s).kind → eqb k df ≡ is_df_named v d x s
  unfolding is_df_named
  named-df k t f = rw (sym e ∙ not-false r t, f) (sym (and-true (eqb (v s).kind df)))

-- four records at a time: a, b, c and e are their words
module _ (img : List ℕ) (word s : ℕ) where
  pub some-there : Foreign img word s (s + 4) false
  some-there = record { none = λ t. absurd (false≢true t) }

  pub none-there : (a b c e : ℕ) → KinAt img s a → KinAt img (s + 1) b → KinAt img (s + 2) c → KinAt img (s + 3) e
      → (a ≡ word → ⊥) → (b ≡ word → ⊥) → (c ≡ word → ⊥) → Foreign img word s (s + 4) (not (eqb e word))
  none-there a b c e f g h i l m n = record { none = all }
    where
      other : (w j k : ℕ) → KinAt img j w → (w ≡ word → ⊥) → kin_word (identifier_of (rec_at img k)) (parent_of (rec_at img k)) ≡ word → k ≡ j → ⊥
      other w j k at z q y = z (at.word ∙ ap (λ (o : ℕ). kin_word (identifier_of (rec_at img o)) (parent_of (rec_at img o))) (sym y) ∙ q)

      all : not (eqb e word) ≡ true → (k : ℕ) → s ≤ k → k < s + 4 → kin_word (identifier_of (rec_at img k)) (parent_of (rec_at img k)) ≡ word → ⊥
      all t k low high q =
          ⊎_elim (other a s k f l q)
          (λ z. ⊎_elim (other b (s + 1) k g m q)
          (λ y. ⊎_elim (other c (s + 2) k h n q)
          (λ x. other e (s + 3) k i (eqb-false e word (not-true (eqb e word) t)) q (omega arith))
          (same_or k (s + 2)))
          (same_or k (s + 1)))
          (same_or k s)

-- slots that a walk from a on has passed over
module _ (img : List ℕ) (n d x a : ℕ) where
  pub passed_none : a ≤ n → PassedOver (view_at img) n d x a a
  passed_none l = record { low = omega arith; high = l; none = λ k i j. absurd (omega arith) }

  module _ (s : ℕ) (h : PassedOver (view_at img) n d x a s) where
    pub passed_four : (word : ℕ) (r : Bool) → word ≡ kin_word x d → Foreign img word s (s + 4) r → not r ≡ false → s + 4 ≤ n
        → PassedOver (view_at img) n d x a (s + 4)
    passed_four word r key f t m =
        record { low = omega (arith, h.low); high = m; none = λ k i j. ⊎_elim (h.none k i) (new k j) (lt-or k s) }
      where
        new : (k : ℕ) → k < s + 4 → s ≤ k → is_child_named (view_at img) d x k ≡ false
        new k i j = sym (unnamed (view_at img) d k x (λ q y. f.none (not-false r t) k j i (rw (q, y) (sym key))))

-- a search that asks only where such a child may stand: it starts behind the root, which is nobody's child
module _ (img : List ℕ) (n d x : ℕ) (Asked : ℕ → Bool → Type 0) where
  root_unnamed : (k : ℕ) → k < 1 → is_child_named (view_at img) d x k ≡ false
  unfolding is_child_named is_child
  root_unnamed k l = rw (eq-eqb k 0 (omega arith), and-false (not (eqb (view_at img k).kind 0)))

  pub kin_start : NoneAsked (view_at img) d x Asked 1
  kin_start = record { none = λ k l e. absurd (false≢true (sym (root_unnamed k l) ∙ e)) }

  -- where only such a child has p, and each slot that is asked answers if it has, the first that is taken is the first that has
  module _ (p : ℕ → Bool) (kin : (k : ℕ) → p k ≡ true → is_child_named (view_at img) d x k ≡ true)
      (told : (k : ℕ) (r : Bool) → k < n → Asked k r → r ≡ p k) where
    none-has : (b : ℕ) → b ≤ n → NoneAsked (view_at img) d x Asked b → first_below b p ≡ None
    none-has b l h = nothing-below p b (λ k i. untrue (p k) (λ e. false≢true (told k false (omega arith) (h.none k i (kin k e)) ∙ e)))

    pub first_kin : (o : Option ℕ) → FirstKin (view_at img) n d x Asked o → o ≡ first_below n p
    first_kin None h = sym (none-has n (omega arith) h)
    first_kin (Some s) h = sym (first-at p n s h.low (none-has s (omega (arith, h.low)) h.before) (sym (told s true h.low h.here)))

pub df-kin : (v : ℕ → View) (d x k : ℕ) → is_df_named v d x k ≡ true → is_child_named v d x k ≡ true
unfolding is_df_named
df-kin v d x k e = ((and-says (eqb (v k).kind df) (is_child_named v d x k)).0 e).1

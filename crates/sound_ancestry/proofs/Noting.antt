-- The identifiers of directories being noted: where the sets start, what each record adds, and what they say of a
-- file that none of them has.
use mathlib.Core.Path.{◌≡◌, refl, sym, ap, ◌∙◌}
use mathlib.Core.Bool.{Bool, true, false, not, cond, false≢true}
use mathlib.Core.List.{List}
use mathlib.Core.Logic.{⊎_elim}
use Prim.Native.Nat.{ℕ, suc, ◌+◌, ◌<◌}
use native.Mathlib.Omega.{arith}
use lib.ListN.{length, replicate, length-replicate}
use borrow.Author.Count.{below_none, below_more}
use borrow.Author.Tests.{eq-eqb, ne_eqb, not-true}
use Rattle.laws.proofs.Chains.{implies-yes}
use Rattle.laws.proofs.Says.{apart, says}
use Rattle.keys.specs.Marks.{marked, marking}
use Rattle.keys.proofs.Bits.{length-marking, marked_new, marked-kept}
use Rattle.keys.proofs.Walking.{keyed_none, keyed_free, keyed_again, keyed_put}
use Rattle.sound.specs.Table.{View, view_at, File, is_file, up}
use Rattle.sound.specs.Kin.{rootb, placedb, above_at}
use Rattle.sound.proofs.Climbing.{above-says, reached_by, not-root_by}
use Rattle.kinship.proofs.Files.{a_file}
use Rattle.sound_ancestry.specs.Directories.{is_df, identifier_at, Seen, shares}
use Rattle.sound_ancestry.proofs.Above.{all_placed, root-level}

-- two directories at or below s with one identifier, which set `twice` has
Again : (ℕ → View) → List ℕ → ℕ → Type 0
Again v twice t =
    is_df v t ≡ true → (u : ℕ) → u < t → is_df v u ≡ true → (v u).identifier ≡ (v t).identifier → marked twice (v t).identifier ≡ true

pub seen_none : (v : ℕ → View) → Seen v 0 (replicate 1024 0) (replicate 1024 0)
seen_none v = record { first = keyed_none (is_df v) (identifier_at v); long = length-replicate {A = ℕ} 1024 0; again = below_none _ }

-- k is the kind of record s, x its identifier, r says whether x was noted
module _ (v : ℕ → View) (s : ℕ) (once twice : List ℕ) (h : Seen v s once twice) (k : ℕ) (e : k ≡ (v s).kind) where
  pub seen_free : (k ≡ 1 → ⊥) → Seen v (s + 1) once twice
  unfolding Again
  seen_free z =
      let no : is_df v s ≡ false = rw (← e) (ne_eqb k 1 z) in
      record {
        first = keyed_free (is_df v) (identifier_at v) s once h.first no;
        long = h.long;
        again = below_more (Again v twice) s h.again (λ d. absurd (false≢true (sym no ∙ d)));
      }

  module _ (x : ℕ) (q : x ≡ (v s).identifier) (low : x < 65536) (r : Bool) (f : r ≡ marked once x) where
    -- noted before, and now in both sets
    pub seen_again : (l : List ℕ) → r ≡ true → l ≡ marking twice x → Seen v (s + 1) once l
    unfolding Again
    seen_again l g m =
        record {
          first = keyed_again (is_df v) (identifier_at v) s once h.first x r q f g;
          long = ap length m ∙ length-marking twice x ∙ h.long;
          again = rw m (below_more (Again v (marking twice x)) s
              (λ t a d u b c i. marked-kept twice x (v t).identifier (omega (arith, h.long)) (h.again t a d u b c i))
              (λ d u b c i. ap (marked (marking twice x)) (sym q) ∙ marked_new twice x (omega (arith, h.long))));
        }

    -- new: no directory before has it
    pub seen_new : (l : List ℕ) → r ≡ false → l ≡ marking once x → Seen v (s + 1) l twice
    unfolding Again
    seen_new l g m =
        record {
          first = keyed_put (is_df v) (identifier_at v) s once h.first x l q low m;
          long = h.long;
          again = below_more (Again v twice) s h.again
              (λ d u b c i. absurd (false≢true (sym g ∙ f ∙ ap (marked once) (q ∙ sym i) ∙ h.first.has u b c)));
        }

-- what the set that is asked answers
module _ (v : ℕ → View) (s : ℕ) (once twice : List ℕ) (k x : ℕ) (e : k ≡ (v s).kind) (q : x ≡ (v s).identifier) (r : Bool) where
  pub shares-df : k ≡ 1 → r ≡ marked twice x → r ≡ shares v s once twice
  unfolding shares
  shares-df z f = rw (← e, eq-eqb k 1 z, ← q) f

  pub shares-ef : (k ≡ 1 → ⊥) → r ≡ marked once x → r ≡ shares v s once twice
  unfolding shares
  shares-ef z f = rw (← e, ne_eqb k 1 z, ← q) f

-- a file that shares its identifier with no other directory differs from those above it: each of them is another
-- directory, since it stands at another level
module _ (img : List ℕ) (n : ℕ) (root : rootb n (view_at img) ≡ true) (tree : placedb n (view_at img) ≡ true) (s : ℕ) (low : s < n)
    (once twice : List ℕ) (h : Seen (view_at img) n once twice) where
  -- d is another directory
  other : (d : ℕ) → d < n → is_df (view_at img) d ≡ true → (d ≡ s → ⊥) → shares (view_at img) s once twice ≡ false
      → (view_at img d).identifier ≡ (view_at img s).identifier → ⊥
  unfolding shares
  other d l k z f i = go (is_df (view_at img) s) refl f
    where
      go : (b : Bool) → is_df (view_at img) s ≡ b
          → cond b (marked twice (view_at img s).identifier) (marked once (view_at img s).identifier) ≡ false → ⊥
      go true j g =
          ⊎_elim
          (λ m. false≢true (sym g ∙ h.again s low j d m k i))
          (λ m. false≢true (sym g ∙ ap (marked twice) (sym i) ∙ h.again d l k s m j (sym i)))
          (apart d s z)
      go false j g = false≢true (sym g ∙ ap (marked once) (sym i) ∙ h.first.has d l k)

  differs : File (view_at img) s → shares (view_at img) s once twice ≡ false → (k : ℕ) → k < (view_at img s).level
      → (view_at img (up (view_at img) (suc k) s)).identifier ≡ (view_at img s).identifier → ⊥
  unfolding up
  differs file f k l i =
      let all = all_placed img n tree in
      let top = root-level n (view_at img) root in
      let r = reached_by n (view_at img) top all s low file.0 k (omega arith) in
      let p = all (up (view_at img) k s) r.low
      (not-root_by n (view_at img) top all (up (view_at img) k s) r.used (omega (arith, r.level))) in
      let d : ℕ = up (view_at img) (suc k) s in
      other d p.low (eq-eqb _ _ p.dir) (λ e. omega (arith, p.up, r.level, ap (λ (x : ℕ). (view_at img x).level) e)) f i

  -- b is what `shares` answered
  pub above_unshared : (f b : Bool) → f ≡ is_file (view_at img) s → not f ≡ false → b ≡ shares (view_at img) s once twice → not b ≡ true
      → true ≡ above_at (view_at img) s
  unfolding above_at
  above_unshared f b e t g z =
      implies-yes _ _ _ (a_file img s f e t)
      (sym
      ((above-says (view_at img) (view_at img s).identifier (view_at img s).level s).1
      (differs (simp says at (a_file img s f e t)) (sym g ∙ not-true b z))))

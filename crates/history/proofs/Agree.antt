-- When ledger and records agree: whatever is summed over the ledger's entries is what is summed over the files of
-- the table. Then the entry of which a test holds alone is what the record of which it holds alone spells.
use mathlib.Core.Path.{◌≡◌, refl, sym, ◌∙◌}
use mathlib.Core.Bool.{Bool, true, false, not, cond, ◌&&◌}
use mathlib.Core.Logic.{⊎_elim}
use Prim.Native.Nat.{ℕ, ◌<◌}
use native.Mathlib.Omega.{arith}
use lib.Dec.{eqb}
use borrow.Author.Tests.{eq-eqb, ne_eqb}
use Rattle.laws.specs.Walks.{sum_below, if_so}
use Rattle.laws.proofs.Says.{same_or}
use Rattle.laws.proofs.Sums.{sum_change, sum-none}
use Rattle.rules.specs.Descriptor.{df}
use Rattle.sound.specs.Table.{View, File}
use Rattle.history.specs.Ledger.{Entry, Ledger, sum_over, first_entry}
use Rattle.history.proofs.Entries.{sum_of_one}

-- the entry that the record in slot s spells
abbrev pub entry_of : ℕ → View → Entry
entry_of s x = record { dir = x.parent; identifier = x.identifier; size = x.size; own = cond (eqb x.kind df) s 0 }

-- what it is worth by f: nothing, if it is free or the root's
unfoldable pub worth : (Entry → ℕ) → ℕ → View → ℕ
worth f s x = if_so (not (eqb x.kind 0) && not (eqb s 0)) (f (entry_of s x))

-- the sum of f over the files of the table
unfoldable pub sum_files : (Entry → ℕ) → ℕ → (ℕ → View) → ℕ
sum_files f n v = sum_below n (λ s. worth f s (v s))

pub record Agrees (l : Ledger) (n : ℕ) (v : ℕ → View) : Type 0 where
  pub total : l.total ≡ (v 0).size
  pub each : (f : Entry → ℕ) → sum_over f l.files ≡ sum_files f n v

module _ (f : Entry → ℕ) (s : ℕ) (x : View) where
  pub worth_file : (x.kind ≡ 0 → ⊥) → (s ≡ 0 → ⊥) → worth f s x ≡ f (entry_of s x)
  unfolding worth
  worth_file u z = rw (ne_eqb x.kind 0 u, ne_eqb s 0 z)

  pub worth_free : x.kind ≡ 0 → worth f s x ≡ 0
  unfolding worth
  worth_free e = rw (eq-eqb x.kind 0 e)

  pub worth_root : s ≡ 0 → worth f s x ≡ 0
  worth_root e = ⊎_elim (λ k. worth_free k) (λ u. root u) (same_or x.kind 0)
    where
      root : (x.kind ≡ 0 → ⊥) → worth f s x ≡ 0
      root u = unfold worth in rw (ne_eqb x.kind 0 u, eq-eqb s 0 e)

-- by cases: the slot is the root's, or free, or a file's
pub slot_cases : (P : Type 0) (s : ℕ) (x : View) → (s ≡ 0 → P) → (x.kind ≡ 0 → P) → ((x.kind ≡ 0 → ⊥) → (s ≡ 0 → ⊥) → P) → P
slot_cases P s x a b c = ⊎_elim a (λ z. ⊎_elim b (λ u. c u z) (same_or x.kind 0)) (same_or s 0)

module _ (l : Ledger) (n : ℕ) (v : ℕ → View) (ok : Agrees l n v) where
  -- where no file counts, nothing is summed
  pub none-counts : (f : Entry → ℕ) → ((i : ℕ) → i < n → File v i → f (entry_of i (v i)) ≡ 0) → sum_over f l.files ≡ 0
  unfolding sum_files
  none-counts f h = ok.each f ∙ sum-none n (λ s. worth f s (v s)) (λ i k. slot_cases (worth f i (v i) ≡ 0) i (v i)
      (λ e. worth_root f i (v i) e) (λ e. worth_free f i (v i) e) (λ u z. worth_file f i (v i) u z ∙ h i k (u, z)))

  -- where one file alone counts, the sum is what that file gives
  pub one-counts : (f : Entry → ℕ) (t : ℕ) → t < n → File v t
      → ((i : ℕ) → i < n → (i ≡ t → ⊥) → File v i → f (entry_of i (v i)) ≡ 0) → sum_over f l.files ≡ f (entry_of t (v t))
  unfolding sum_files
  one-counts f t low file h =
      let e = sum_change n (λ s. worth f s (v s)) (λ s. 0) t low miss in
      let z = sum-none n (λ s. 0) (λ i k. refl) in
      ok.each f ∙ omega (arith, e, z, worth_file f t (v t) file.0 file.1)
    where
      miss : (i : ℕ) → i < n → (i ≡ t → ⊥) → worth f i (v i) ≡ 0
      miss i k m = slot_cases (worth f i (v i) ≡ 0) i (v i)
          (λ e. worth_root f i (v i) e) (λ e. worth_free f i (v i) e) (λ u z. worth_file f i (v i) u z ∙ h i k m (u, z))

  -- where p holds of one file alone, the ledger's first such entry is what its record spells
  pub only_entry : (p : Entry → Bool) (t : ℕ) → t < n → File v t → p (entry_of t (v t)) ≡ true
      → ((i : ℕ) → i < n → (i ≡ t → ⊥) → File v i → p (entry_of i (v i)) ≡ false) → first_entry p l.files ≡ entry_of t (v t)
  only_entry p t low file here h =
      let a : (first_entry p l.files).dir ≡ (entry_of t (v t)).dir = field (λ e. e.dir) in
      let b : (first_entry p l.files).identifier ≡ (entry_of t (v t)).identifier = field (λ e. e.identifier) in
      let c : (first_entry p l.files).size ≡ (entry_of t (v t)).size = field (λ e. e.size) in
      let d : (first_entry p l.files).own ≡ (entry_of t (v t)).own = field (λ e. e.own) in
      λ i. record { dir = a i; identifier = b i; size = c i; own = d i }
    where
      sum : (g : Entry → ℕ) → sum_over (λ e. if_so (p e) (g e)) l.files ≡ g (entry_of t (v t))
      sum g = one-counts (λ e. if_so (p e) (g e)) t low file (λ i k m u. rw (h i k m u)) ∙ rw here

      field : (g : Entry → ℕ) → g (first_entry p l.files) ≡ g (entry_of t (v t))
      field g = sym (sum_of_one p g l.files (sum (λ e. 1))) ∙ sum g

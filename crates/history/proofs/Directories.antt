-- Where ledger and records agree, a directory lives in the one as in the other, with the same total, the same charges
-- and the same room, and the same directory stands above it.
use mathlib.Core.Path.{◌≡◌, refl, sym, ap, ◌∙◌}
use mathlib.Core.Bool.{Bool, true, false, not, cond, ◌&&◌, false≢true}
use mathlib.Core.Logic.{⊎_elim}
use Prim.Native.Nat.{ℕ, ◌+◌, ◌<◌}
use native.Mathlib.Omega.{arith}
use lib.Dec.{eqb, ltb}
use borrow.Author.Tests.{eq-eqb, ne_eqb, eqb-true, eqb-false, ltb-true, ltb-false}
use Rattle.laws.specs.Walks.{if_so}
use Rattle.laws.proofs.Says.{same_or}
use Rattle.laws.proofs.Sums.{sum_cong}
use Rattle.rules.specs.Descriptor.{df}
use Rattle.sound.specs.Table.{View, charge_of, charged}
use Rattle.sound.specs.Kin.{Kin}
use Rattle.sound.specs.Kinship.{total_for, room_for}
use Rattle.history.specs.Ledger.{Entry, Ledger, sum_over, first_entry, is_own, lives_in, total_in, cost_to, charged_in, room_in, above_in}
use Rattle.history.proofs.Entries.{some-count}
use Rattle.history.proofs.Agree.{Agrees, entry_of, worth, sum_files, none-counts, one-counts, only_entry}

-- slot d holds a directory
pub record Dir (n : ℕ) (v : ℕ → View) (d : ℕ) : Type 0 where
  pub low : d < n
  pub dir : (v d).kind ≡ df

pub dir-used : (x : View) → x.kind ≡ df → x.kind ≡ 0 → ⊥
dir-used x a b = omega arith

-- the slot that a file has of its own: that of a DF, which is another's for no file, and 0 for none but an EF
own_miss : (k : Bool) (i d : ℕ) → (i ≡ d → ⊥) → (d ≡ 0 → ⊥) → eqb (cond k i 0) d ≡ false
own_miss true i d m z = ne_eqb i d m
own_miss false i d m z = ne_eqb 0 d (λ e. z (sym e))

own_hit : (k d : ℕ) → k ≡ df → eqb (cond (eqb k df) d 0) d ≡ true
own_hit k d e = rw (eq-eqb k df e) (eq-eqb d d refl)

both : (a b : Bool) (x : ℕ) → if_so a (if_so b x) ≡ if_so (a && b) x
both true b x = refl
both false b x = refl

module _ (l : Ledger) (n : ℕ) (v : ℕ → View) (ok : Agrees l n v) where
  -- the entry of a directory is what its record spells
  pub dir_entry : (d : ℕ) → Dir n v d → (d ≡ 0 → ⊥) → first_entry (is_own d) l.files ≡ entry_of d (v d)
  dir_entry d k z =
      only_entry l n v ok (is_own d) d k.low (dir-used (v d) k.dir, z) (own_hit (v d).kind d k.dir)
      (λ i h m f. own_miss (eqb (v i).kind df) i d m z)

  pub charged-same : (d : ℕ) → charged_in l d ≡ charged n v d
  unfolding charged_in charged sum_files
  charged-same d = ok.each (cost_to d) ∙ sum_cong n (λ s. worth (cost_to d) s (v s)) (λ s. charge_of d s (v s)) (λ s h. cost s (v s))
    where
      cost : (s : ℕ) (x : View) → worth (cost_to d) s x ≡ charge_of d s x
      cost s x = unfold worth charge_of in both (not (eqb x.kind 0) && not (eqb s 0)) (eqb x.parent d) (x.size + 64)

  pub total-same : (d : ℕ) → Dir n v d → total_in l d ≡ total_for v d
  unfolding total_in total_for
  total-same d k = ⊎_elim
      (λ e. rw e ok.total)
      (λ z. rw (ne_eqb d 0 z) (ap (λ (e : Entry). e.size) (dir_entry d k z)))
      (same_or d 0)

  pub room-same : (d : ℕ) → Dir n v d → room_in l d ≡ room_for n v d
  unfolding room_in room_for
  room-same d k = rw (total-same d k, charged-same d)

  -- a directory lives
  pub dir-lives : (d : ℕ) → Dir n v d → lives_in l d ≡ true
  unfolding lives_in
  dir-lives d k = ⊎_elim (λ e. rw (eq-eqb d 0 e)) (λ z. rw (ne_eqb d 0 z, some-count (is_own d) l.files, once z)) (same_or d 0)
    where
      once : (d ≡ 0 → ⊥) → sum_over (λ e. if_so (is_own d e) 1) l.files ≡ 1
      once z =
          one-counts l n v ok (λ e. if_so (is_own d e) 1) d k.low (dir-used (v d) k.dir, z)
          (λ i h m f. rw (own_miss (eqb (v i).kind df) i d m z))
          ∙ rw (own_hit (v d).kind d k.dir)

  -- what is no directory does not
  never-lives : (d : ℕ) → (d ≡ 0 → ⊥) → (Dir n v d → ⊥) → lives_in l d ≡ false
  unfolding lives_in
  never-lives d z f = rw (ne_eqb d 0 z, some-count (is_own d) l.files, none-counts l n v ok (λ e. if_so (is_own d e) 1) (λ i k u. miss i k))
    where
      miss : (i : ℕ) → i < n → if_so (eqb (cond (eqb (v i).kind df) i 0) d) 1 ≡ 0
      miss i k = ⊎_elim
          (λ e. rw (eq-eqb (v i).kind df e, ne_eqb i d (λ q. f (record { low = rw (← q) k; dir = rw (← q) e }))))
          (λ m. rw (ne_eqb (v i).kind df m, ne_eqb 0 d (λ q. z (sym q))))
          (same_or (v i).kind df)

  module _ (kin : Kin n v) (some : 0 < n) where
    pub root_dir : Dir n v 0
    root_dir = record { low = some; dir = kin.root-kind }

    pub lives-dir : (d : ℕ) → lives_in l d ≡ true → Dir n v d
    lives-dir d h = ⊎_elim (λ e. rw e root_dir) (λ z. other z (ltb d n) refl (eqb (v d).kind df) refl) (same_or d 0)
      where
        never : (d ≡ 0 → ⊥) → (Dir n v d → ⊥) → Dir n v d
        never z f = absurd (false≢true (sym (never-lives d z f) ∙ h))

        other : (d ≡ 0 → ⊥) → (a : Bool) → ltb d n ≡ a → (b : Bool) → eqb (v d).kind df ≡ b → Dir n v d
        other z false p b q = never z (λ k. omega (arith, ltb-false d n p, k.low))
        other z true p false q = never z (λ k. eqb-false (v d).kind df q k.dir)
        other z true p true q = record { low = ltb-true d n p; dir = eqb-true (v d).kind df q }

    -- the directory above a directory is one
    pub parent_dir : (d : ℕ) → Dir n v d → Dir n v (v d).parent
    parent_dir d k = ⊎_elim
        (λ e. rw e (rw kin.root-parent root_dir))
        (λ z. let p = kin.placed d k.low (dir-used (v d) k.dir, z) in record { low = p.low; dir = p.dir })
        (same_or d 0)

    pub above_same : (d : ℕ) → Dir n v d → above_in l d ≡ (v d).parent
    unfolding above_in
    above_same d k = ⊎_elim
        (λ e. rw e (sym kin.root-parent))
        (λ z. rw (ne_eqb d 0 z) (ap (λ (e : Entry). e.dir) (dir_entry d k z)))
        (same_or d 0)

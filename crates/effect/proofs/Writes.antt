-- The writes of CREATE and of DELETE, one after the other: v is the version that was read, x the image after the records
-- were written, y the image after what is current was set; and what DELETE leaves of the pool.
use mathlib.Core.Path.{◌≡◌, refl, ◌∙◌}
use mathlib.Core.List.{List}
use mathlib.Core.Bool.{Bool, cond}
use Prim.Native.Nat.{ℕ, zero, suc, ◌<◌, ◌≤◌}
use native.Mathlib.Omega.{arith}
use lib.Dec.{eqb}
use lib.ListN.{length, get_or}
use borrow.Author.Tests.{eq-eqb, ne_eqb}
use Rattle.image.specs.declared.Head.{Head}
use Rattle.image.specs.Layout.{longest_rule, version_of, record_bytes, put_record, set_current, count_of, current_df_of, current_ef_of, none}
use Rattle.pool.specs.Bodies.{start_at, body_at}
use Rattle.pool.specs.Wiped.{wipe_below}
use Rattle.sound.specs.Table.{view_at}
use Rattle.sound.specs.Kinship.{at_or_beneath}
use Rattle.sound.specs.Effects.{created, clear_below, deleted, wiped}
use Rattle.sound.proofs.Cleared.{clear_cong}
use Rattle.subtree.specs.Known.{Settled}
use Rattle.subtree.proofs.Marks.{chosen-beneath}

-- a rule that the image's version has room for
pub rule_fits : (img rule : List ℕ) (v : ℕ) → v ≡ version_of img → length rule ≤ longest_rule (version_of img) → length rule ≤ longest_rule v
rule_fits img rule v e h = rw e h

module _ (img x y : List ℕ) (v s : ℕ) (h : Head) (name rule : List ℕ) (known : v ≡ version_of img)
    (e : x ≡ put_record img s (record_bytes v h name rule)) where
  pub created-df : h.kind ≡ 1 → y ≡ set_current x s 0xFFFF → y ≡ created img s h name rule
  unfolding created
  created-df f g = rw (eq-eqb h.kind 1 f, ← known, ← e) g

  pub created-ef : (d : ℕ) → d ≡ current_df_of img → (h.kind ≡ 1 → ⊥) → y ≡ set_current x d s → y ≡ created img s h name rule
  unfolding created
  created-ef d i f g = rw (ne_eqb h.kind 1 f, ← known, ← e, ← i) g

-- bodies that are wiped by two tests that agree
pub wipe_cong : (n : ℕ) (p q : ℕ → Bool) (a z : ℕ → ℕ) (pool : List ℕ) → ((i : ℕ) → i < n → p i ≡ q i)
    → wipe_below n p a z pool ≡ wipe_below n q a z pool
unfolding wipe_below
wipe_cong zero p q a z pool h = refl
wipe_cong (suc n) p q a z pool h = rw (wipe_cong n p q a z pool (λ i l. h i (omega arith)), h n (omega arith))

-- what is cleared and wiped by marks is d and all beneath it: x afterwards, and q of the pool
module _ (img marks : List ℕ) (n d : ℕ) (m : Settled (view_at img) n d n marks) where
  pub cleared_chosen : (x : List ℕ) → x ≡ clear_below n (λ k. eqb (get_or marks k 0) 1) img → x ≡ clear_below n (at_or_beneath (view_at img) d) img
  cleared_chosen x i =
      i
      ∙ clear_cong n (λ k. eqb (get_or marks k 0) 1) (at_or_beneath (view_at img) d) img
      (λ s l. chosen-beneath (view_at img) n d s marks m l)

  pub wiped-chosen : (pool q : List ℕ) → q ≡ wipe_below n (λ k. eqb (get_or marks k 0) 1) (start_at img) (body_at img) pool
      → q ≡ wipe_below n (at_or_beneath (view_at img) d) (start_at img) (body_at img) pool
  wiped-chosen pool q i =
      i
      ∙ wipe_cong n (λ k. eqb (get_or marks k 0) 1) (at_or_beneath (view_at img) d) (start_at img) (body_at img) pool
      (λ s l. chosen-beneath (view_at img) n d s marks m l)

-- DELETE: df, old and ef are the current DF, and the current EF before and after
pub deleted_is : (img x y : List ℕ) (n d df old ef : ℕ) → n ≡ count_of img → df ≡ current_df_of img → old ≡ current_ef_of img
    → ef ≡ cond (eqb old d) none old → x ≡ clear_below n (at_or_beneath (view_at img) d) img → y ≡ set_current x df ef → y ≡ deleted img d
unfolding deleted
deleted_is img x y n d df old ef e f g h i k = rw (← e, ← f, ← g, ← h, ← i) k

pub wiped_is : (img pool q : List ℕ) (n d : ℕ) → n ≡ count_of img
    → q ≡ wipe_below n (at_or_beneath (view_at img) d) (start_at img) (body_at img) pool → q ≡ wiped img pool d
unfolding wiped
wiped_is img pool q n d e i = rw (← e) i

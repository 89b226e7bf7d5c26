-- An EF goes alone: nothing lies beneath it, so that of all records and bodies its own are the ones that become zeros.
use mathlib.Core.Path.{◌≡◌, refl, sym, ap, ◌∙◌}
use mathlib.Core.Bool.{true, false}
use mathlib.Core.List.{List}
use mathlib.Core.Logic.{⊎_elim}
use Prim.Native.Nat.{ℕ, zero, suc, ◌+◌, ◌<◌, ◌≤◌}
use native.Mathlib.Nat.{not-suc-le-zero}
use native.Mathlib.Omega.{arith}
use lib.Dec.{eqb}
use borrow.Author.Tests.{eq-eqb, ne_eqb}
use Rattle.laws.proofs.Says.{same_or, lt-or}
use Rattle.laws.proofs.Walks.{split_lt}
use Rattle.rules.specs.Descriptor.{ef}
use Rattle.image.specs.Layout.{clear_record}
use Rattle.pool.specs.Bodies.{start_at, body_at}
use Rattle.pool.specs.Wiped.{wipe_if, wipe_below}
use Rattle.sound.specs.Table.{view_at}
use Rattle.sound.specs.Kinship.{at_or_beneath}
use Rattle.sound.specs.Effects.{clear_if, clear_below}
use Rattle.sound.proofs.Cleared.{clear_cong}
use Rattle.kinship.specs.Climb.{Rooted, Stands, Housed}
use Rattle.subtree.proofs.Way.{beneath-free, beneath-same, beneath-other, beneath-parent}
use Rattle.effect.proofs.Writes.{wipe_cong}

-- one slot of all below n
module _ (d : ℕ) where
  clear_skips : (n : ℕ) (img : List ℕ) → n ≤ d → clear_below n (λ s. eqb s d) img ≡ img
  unfolding clear_below clear_if
  clear_skips zero img h = refl
  clear_skips (suc n) img h = rw (ne_eqb n d (λ e. omega arith)) (clear_skips n img (omega arith))

  clear-only : (n : ℕ) (img : List ℕ) → d < n → clear_below n (λ s. eqb s d) img ≡ clear_record img d
  unfolding clear_below clear_if
  clear-only zero img l = absurd (not-suc-le-zero l)
  clear-only (suc n) img l = ⊎_elim here (λ m. rw (ne_eqb n d (λ e. omega arith)) (clear-only n img m)) (split_lt l)
    where
      here : d ≡ n → clear_if (eqb n d) (clear_below n (λ s. eqb s d) img) n ≡ clear_record img d
      here e = rw (eq-eqb n d (sym e), clear_skips n img (omega arith), e)

  module _ (a z : ℕ → ℕ) (pool : List ℕ) where
    wipe_skips : (n : ℕ) → n ≤ d → wipe_below n (λ s. eqb s d) a z pool ≡ pool
    unfolding wipe_below wipe_if
    wipe_skips zero h = refl
    wipe_skips (suc n) h = rw (ne_eqb n d (λ e. omega arith)) (wipe_skips n (omega arith))

    wipe_only : (n : ℕ) → d < n → wipe_below n (λ s. eqb s d) a z pool ≡ wipe_if true a z pool d
    unfolding wipe_below wipe_if
    wipe_only zero l = absurd (not-suc-le-zero l)
    wipe_only (suc n) l = ⊎_elim here (λ m. rw (ne_eqb n d (λ e. omega arith)) (wipe_only n m)) (split_lt l)
      where
        here : d ≡ n → wipe_if (eqb n d) a z (wipe_below n (λ s. eqb s d) a z pool) n ≡ wipe_if true a z pool d
        here e = rw (eq-eqb n d (sym e), wipe_skips n (omega arith), e)

module _ (img : List ℕ) (n d : ℕ) (rooted : Rooted img n) (housed : Housed img n) (k : ℕ) (kind : k ≡ (view_at img d).kind) (is-ef : k ≡ ef) where
  no-parent : (s : ℕ) → Stands img n s → (view_at img s).parent ≡ d → ⊥
  no-parent s h e = omega (arith, housed.dir s h, kind, is-ef, ap (λ (x : ℕ). (view_at img x).kind) e)

  as_parent : (s : ℕ) → Stands img n s → (view_at img d).level < (view_at img s).level
      → at_or_beneath (view_at img) d s ≡ at_or_beneath (view_at img) d (view_at img s).parent
  as_parent s h l =
      sym
      (beneath-parent (view_at img) d s (view_at img s).parent h.used (rooted.parent s h).used refl (rooted.level s h (omega arith)) l)

  -- a file at most m levels deeper than d
  deeper : (m s : ℕ) → Stands img n s → (s ≡ d → ⊥) → (view_at img s).level ≤ (view_at img d).level + m → at_or_beneath (view_at img) d s ≡ false
  deeper zero s h z l = beneath-other (view_at img) d s h.used (omega arith) z
  deeper (suc m) s h z l =
      ⊎_elim
      (λ i. as_parent s h i
      ∙ deeper m (view_at img s).parent (rooted.parent s h) (no-parent s h) (omega (arith, rooted.level s h (omega arith))))
      (λ i. beneath-other (view_at img) d s h.used i z)
      (lt-or (view_at img d).level (view_at img s).level)

  alone : (s : ℕ) → s < n → at_or_beneath (view_at img) d s ≡ eqb s d
  alone s l = ⊎_elim here elsewhere (same_or s d)
    where
      here : s ≡ d → at_or_beneath (view_at img) d s ≡ eqb s d
      here e = beneath-same (view_at img) d s (λ z. omega (arith, kind, is-ef, ap (λ (x : ℕ). (view_at img x).kind) e)) e ∙ sym (eq-eqb s d e)

      elsewhere : (s ≡ d → ⊥) → at_or_beneath (view_at img) d s ≡ eqb s d
      elsewhere z = ⊎_elim free used (same_or (view_at img s).kind 0) ∙ sym (ne_eqb s d z)
        where
          free : (view_at img s).kind ≡ 0 → at_or_beneath (view_at img) d s ≡ false
          free e = beneath-free (view_at img) d s e

          used : ((view_at img s).kind ≡ 0 → ⊥) → at_or_beneath (view_at img) d s ≡ false
          used u = deeper (view_at img s).level s (record { low = l; used = u }) z (omega arith)

  pub cleared_alone : (y : List ℕ) → d < n → y ≡ clear_record img d → y ≡ clear_below n (at_or_beneath (view_at img) d) img
  cleared_alone y l e = e ∙ sym (clear_cong n (at_or_beneath (view_at img) d) (λ s. eqb s d) img alone ∙ clear-only d n img l)

  pub wiped-alone : (pool q : List ℕ) → d < n → q ≡ wipe_if true (start_at img) (body_at img) pool d
      → q ≡ wipe_below n (at_or_beneath (view_at img) d) (start_at img) (body_at img) pool
  wiped-alone pool q l e =
      e
      ∙ sym
      (wipe_cong n (at_or_beneath (view_at img) d) (λ s. eqb s d) (start_at img) (body_at img) pool alone
      ∙ wipe_only d (start_at img) (body_at img) pool n l)

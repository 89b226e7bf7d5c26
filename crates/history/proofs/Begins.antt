-- A directory comes to live only by a CREATE of a DF, answered 9000, in the slot that is current afterwards: by the
-- ledger alone.
use mathlib.Core.Path.{◌≡◌, refl, sym, ◌∙◌}
use mathlib.Core.Bool.{Bool, true, false, cond, ◌||◌, false≢true}
use mathlib.Core.List.{List, [], ◌∷◌}
use Prim.Native.Nat.{ℕ}
use lib.Dec.{eqb}
use borrow.Author.Tests.{eq-eqb, ne_eqb, eqb-true}
use Rattle.laws.proofs.Says.{untrue}
use Rattle.image.specs.Layout.{current_df_of}
use Rattle.card.specs.Demands.{Call, image_after}
use Rattle.history.specs.Ledger.{Entry, Ledger, Announced, makes, deletes, neither, some_of, is_own, keep, lives_in, entered}
use Rattle.history.specs.Story.{Story, hears, next}
use Rattle.history.specs.Demand3.{here, Lives, Makes}

some-keep : (p q : Entry → Bool) (l : List Entry) → some_of p l ≡ false → some_of p (keep q l) ≡ false
unfolding some_of keep
some-keep p q [] h = refl
some-keep p q (e ∷ l) h = go (p e) (q e) refl h (λ r. some-keep p q l r)
  where
    go : (a b : Bool) → p e ≡ a → (a || some_of p l) ≡ false → (some_of p l ≡ false → some_of p (keep q l) ≡ false)
        → some_of p (cond b (e ∷ keep q l) (keep q l)) ≡ false
    go true b s r rec = absurd (false≢true (sym r))
    go false true s r rec = rw s (rec r)
    go false false s r rec = rec r

-- what was announced, if d lives after it and did not before
pub record New (a : Announced) (after d : ℕ) : Type 0 where
  pub identifier : ℕ
  pub total : ℕ
  pub makes : a ≡ makes identifier total true
  pub slot : after ≡ d

module _ (l : Ledger) (d : ℕ) (dead : lives_in l d ≡ true → ⊥) where
  not_root : d ≡ 0 → ⊥
  unfolding lives_in
  not_root e = dead (rw (eq-eqb d 0 e))

  none-own : some_of (is_own d) l.files ≡ false
  unfolding lives_in
  none-own = untrue _ (λ h. dead (rw (ne_eqb d 0 not_root) h))

  new_by : (a : Announced) (before after : ℕ) → lives_in (entered l a before after) d ≡ true → New a after d
  unfolding entered lives_in some_of
  new_by (makes i m true) before after h =
      let e : (eqb after d || some_of (is_own d) l.files) ≡ true = rw (ne_eqb d 0 not_root) at h in
      record { identifier = i; total = m; makes = refl; slot = which (eqb after d) refl e }
    where
      which : (b : Bool) → eqb after d ≡ b → (b || some_of (is_own d) l.files) ≡ true → after ≡ d
      which true q r = eqb-true after d q
      which false q r = absurd (false≢true (sym none-own ∙ r))
  new_by (makes i m false) before after h =
      absurd (false≢true (sym (rw (ne_eqb d 0 not_root, ne_eqb 0 d (λ e. not_root (sym e))) none-own) ∙ h))
  new_by (deletes i) before after h = absurd (false≢true (sym (rw (ne_eqb d 0 not_root) (some-keep (is_own d) _ l.files none-own)) ∙ h))
  new_by neither before after h = absurd (dead h)

pub begins_by : (st : Story) (x : Call) (d : ℕ) → (Lives st d → ⊥) → Lives (next st x) d → Makes st x d
unfolding next
begins_by st x d dead lives =
    let r = new_by st.ledger d dead (hears st x) (here st) (current_df_of (image_after st.image x)) lives in
    record { identifier = r.identifier; total = r.total; makes = r.makes; slot = r.slot }

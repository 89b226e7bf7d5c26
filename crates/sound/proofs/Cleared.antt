-- Records that are cleared, each below a number of which a test holds: what stands where afterwards.
use mathlib.Core.Path.{◌≡◌, refl, sym, ap, ◌∙◌}
use mathlib.Core.List.{List}
use mathlib.Core.Bool.{Bool, true, false, cond}
use mathlib.Core.Logic.{⊎_elim}
use Prim.Native.Nat.{ℕ, zero, suc, ◌+◌, ◌<◌, ◌≤◌}
use native.Mathlib.Nat.{not-suc-le-zero}
use native.Mathlib.Numerals.{add-one}
use native.Mathlib.Omega.{arith}
use Rattle.laws.proofs.Walks.{split_lt}
use Rattle.image.specs.Layout.{Within, Sized, rec_at, free_bytes, clear_record}
use Rattle.image.proofs.Records.{record_same, record_other}
use Rattle.image.proofs.Headers.{SameHeader, header_put}
use Rattle.sound.specs.Effects.{clear_if, clear_below}

pub clear_none : (p : ℕ → Bool) (img : List ℕ) → clear_below 0 p img ≡ img
unfolding clear_below
clear_none p img = refl

-- a turn of a loop that clears: x is what the earlier turns left, y what this one leaves
pub clear_turn : (i : ℕ) (p : ℕ → Bool) (img x y : List ℕ) → x ≡ clear_below i p img → y ≡ clear_if (p i) x i → y ≡ clear_below (i + 1) p img
unfolding clear_below clear_if
clear_turn i p img x y e f = f ∙ ap (λ (z : List ℕ). cond (p i) (clear_record z i) z) e ∙ sym (rw add-one)

pub clear_cong : (n : ℕ) (p q : ℕ → Bool) (img : List ℕ) → ((i : ℕ) → i < n → p i ≡ q i) → clear_below n p img ≡ clear_below n q img
unfolding clear_below
clear_cong zero p q img h = refl
clear_cong (suc n) p q img h = rw (clear_cong n p q img (λ i l. h i (omega arith)), h n (omega arith))

-- one record cleared or not
module _ (img : List ℕ) (s : ℕ) (w : Within img s) where
  header-if : (b : Bool) → SameHeader img (clear_if b img s)
  unfolding clear_if
  header-if true = header_put img s free_bytes w refl
  header-if false = record { long = refl; bytes = λ k l. refl }

  record_if : (b : Bool) → rec_at (clear_if b img s) s ≡ cond b free_bytes (rec_at img s)
  unfolding clear_if
  record_if true = record_same img s free_bytes w refl
  record_if false = refl

  record_if-other : (b : Bool) (t : ℕ) → Within img t → (t ≡ s → ⊥) → rec_at (clear_if b img s) t ≡ rec_at img t
  unfolding clear_if
  record_if-other true t v n = record_other img s free_bytes w refl t v n
  record_if-other false t v n = refl

module _ (img : List ℕ) (m : ℕ) (p : ℕ → Bool) (sized : Sized img m) where
  pub header-clear : (n : ℕ) → n ≤ m → SameHeader img (clear_below n p img)
  unfolding clear_below clear_if
  header-clear zero h = record { long = refl; bytes = λ k l. refl }
  header-clear (suc n) h =
      let f = header-clear n (omega arith) in
      let w : Within (clear_below n p img) n = omega (arith, f.long, sized.long, sized.most) in
      let g = header-if (clear_below n p img) n w (p n) in
      record { long = g.long ∙ f.long; bytes = λ k l. g.bytes k l ∙ f.bytes k l }

  within : (n : ℕ) → n ≤ m → (t : ℕ) → t < m → Within (clear_below n p img) t
  within n h t l = omega (arith, (header-clear n h).long, sized.long, sized.most)

  -- above n each record is as it was
  clear_out : (n : ℕ) → n ≤ m → (t : ℕ) → n ≤ t → t < m → rec_at (clear_below n p img) t ≡ rec_at img t
  unfolding clear_below clear_if
  clear_out zero h t l k = refl
  clear_out (suc n) h t l k =
      record_if-other (clear_below n p img) n (within n (omega arith) n (omega arith)) (p n) t (within n (omega arith) t k)
      (λ e. omega arith)
      ∙ clear_out n (omega arith) t (omega arith) k

  -- below n each of which p holds is free, each other as it was
  pub record_clear : (n : ℕ) → n ≤ m → (t : ℕ) → t < n → rec_at (clear_below n p img) t ≡ cond (p t) free_bytes (rec_at img t)
  unfolding clear_below clear_if
  record_clear zero h t l = absurd (not-suc-le-zero l)
  record_clear (suc n) h t l =
      ⊎_elim (λ q. rw q here)
      (λ k. record_if-other (clear_below n p img) n (within n (omega arith) n (omega arith)) (p n) t
      (within n (omega arith) t (omega arith)) (λ e. omega arith)
      ∙ record_clear n (omega arith) t k)
      (split_lt l)
    where
      here : rec_at (clear_if (p n) (clear_below n p img) n) n ≡ cond (p n) free_bytes (rec_at img n)
      here =
          record_if (clear_below n p img) n (within n (omega arith) n (omega arith)) (p n)
          ∙ ap (λ (r : List ℕ). cond (p n) free_bytes r) (clear_out n (omega arith) n (omega arith) (omega arith))

-- The key of a name: records with one name have the same, since what follows a name in its 16 bytes is zero.
use mathlib.Core.Path.{◌≡◌, refl, ap, ◌∙◌, sym}
use mathlib.Core.Bool.{Bool, true, false}
use mathlib.Core.List.{List}
use mathlib.Core.Logic.{◌⊎◌, inl, inr}
use Prim.Native.Nat.{ℕ, suc, ◌+◌, ◌*◌, ◌-◌, ◌%◌, ◌<◌, ◌≤◌}
use native.Mathlib.Omega.{arith}
use lib.Dec.{leb}
use lib.ListN.{length, get_or}
use borrow.Author.Tests.{leb-true, leb-false}
use Rattle.laws.proofs.Says.{same_or}
use Rattle.laws.proofs.Splices.{length_part, get_or-part}
use Rattle.laws.proofs.Walks.{all_each}
use Rattle.numbers.specs.Numbers.{u32_at}
use Rattle.numbers.proofs.Reading.{u16_at-same}
use Rattle.image.specs.Layout.{Sized, version_of, rec_at, kind_of, name_of, field_at}
use Rattle.image.proofs.Places.{length_record}
use Rattle.image.proofs.Records.{within-sized}
use Rattle.sound.specs.Own.{Padded, Own, ownb}
use Rattle.sound.specs.Sound.{recordsb}
use Rattle.sound.proofs.Says.{own-says}
use Rattle.sound_names.specs.Key.{name_key, name_key_at}

-- a good record's name is short, and zero-padded
padded_own : (v : ℕ) (r : List ℕ) → Own v r → (kind_of r ≡ 0) ⊎ (kind_of r ≡ 0 → ⊥) → Padded 16 r 16
padded_own v r o (inl e) =
    record {
      short = omega (arith, o.free e 16 (omega arith));
      zeros = λ k l. ap (λ (i : ℕ). get_or r i 0) (omega arith) ∙ o.free e (16 + 1 + get_or r 16 0 + k) (omega arith);
    }
padded_own v r o (inr z) = (o.used z).name

pub name_padded : (img : List ℕ) (n s : ℕ) → recordsb img n ≡ true → s < n → Padded 16 (rec_at img s) 16
unfolding recordsb
name_padded img n s h l =
    let own = (own-says (version_of img) (rec_at img s)).0 (all_each (λ s. ownb (version_of img) (rec_at img s)) n s l h) in
    padded_own (version_of img) (rec_at img s) own (same_or (kind_of (rec_at img s)) 0)

pub name-short : (img : List ℕ) (n s : ℕ) → recordsb img n ≡ true → s < n → get_or (rec_at img s) 16 0 ≤ 16
name-short img n s h l = (name_padded img n s h l).short

module _ (r q : List ℕ) (long : length r ≡ 64) (long' : length q ≡ 64) (pad : Padded 16 r 16) (pad' : Padded 16 q 16)
    (same : name_of r ≡ name_of q) where
  pub same_length : get_or r 16 0 ≡ get_or q 16 0
  unfolding name_of field_at
  same_length =
      omega (
        arith,
        length_part r 17 (get_or r 16 0) (omega (arith, pad.short)),
        length_part q 17 (get_or q 16 0) (omega (arith, pad'.short)),
        ap length same,
      )

  inside : (k : ℕ) → k < get_or r 16 0 → get_or r (17 + k) 0 ≡ get_or q (17 + k) 0
  unfolding name_of field_at
  inside k l =
      sym (get_or-part r 17 (get_or r 16 0) k l)
      ∙ ap (λ (x : List ℕ). get_or x k 0) same
      ∙ get_or-part q 17 (get_or q 16 0) k (omega (arith, same_length))

  same_byte : (i k : ℕ) → i ≡ 17 + k → k < 16 → get_or r i 0 ≡ get_or q i 0
  same_byte i k e l = rw e (go (leb (suc k) (get_or r 16 0)) refl)
    where
      go : (b : Bool) → leb (suc k) (get_or r 16 0) ≡ b → get_or r (17 + k) 0 ≡ get_or q (17 + k) 0
      go true f = inside k (leb-true (suc k) (get_or r 16 0) f)
      go false f =
          let j : ℕ = k - get_or r 16 0 in
          let m : get_or r 16 0 ≤ k = omega (arith, leb-false (suc k) (get_or r 16 0) f) in
          let a : 16 + 1 + get_or r 16 0 + j ≡ 17 + k = omega arith in
          let b : 16 + 1 + get_or q 16 0 + j ≡ 17 + k = omega (arith, same_length) in
          ap (λ (x : ℕ). get_or r x 0) (sym a)
          ∙ pad.zeros j (omega arith)
          ∙ sym (pad'.zeros j (omega (arith, same_length)))
          ∙ ap (λ (x : ℕ). get_or q x 0) b

  pub same_word : (i k : ℕ) → i ≡ 17 + k → k + 4 ≤ 16 → u32_at r i ≡ u32_at q i
  unfolding u32_at
  same_word i k e l =
      rw (
        u16_at-same r q i i (same_byte i k e (omega arith)) (same_byte (i + 1) (k + 1) (omega arith) (omega arith)),
        u16_at-same r q (i + 2) (i + 2) (same_byte (i + 2) (k + 2) (omega arith) (omega arith))
            (same_byte (i + 2 + 1) (k + 3) (omega arith) (omega arith)),
      )

  pub same-name_key : name_key r ≡ name_key q
  unfolding name_key
  same-name_key =
      rw (
        same_word 17 0 refl (omega arith),
        same_word 21 4 refl (omega arith),
        same_word 25 8 refl (omega arith),
        same_word 29 12 refl
            (omega arith),
      )

-- the four words of a name that were read
pub name-key : (r : List ℕ) (a b c d k : ℕ) → a ≡ u32_at r 17 → b ≡ u32_at r 21 → c ≡ u32_at r 25 → d ≡ u32_at r 29
    → k ≡ (a * 31 + b * 1021 + c * 32771 + d * 65539) % 65521 → k ≡ name_key r
unfolding name_key
name-key r a b c d k e f g h q = q ∙ rw (e, f, g, h)

-- r is the record of slot s that was read, k its key
module _ (img : List ℕ) (s : ℕ) (r : List ℕ) (e : r ≡ rec_at img s) where
  pub record_long : (n : ℕ) → Sized img n → s < n → length r ≡ 64
  record_long n sized l = ap length e ∙ length_record img s (within-sized img n s sized l).0

  pub record_padded : (n : ℕ) → recordsb img n ≡ true → s < n → Padded 16 r 16
  record_padded n good low = rw e (name_padded img n s good low)

  pub name-key-at : (k : ℕ) → k ≡ name_key r → k ≡ name_key_at img s
  name-key-at k f = f ∙ ap name_key e

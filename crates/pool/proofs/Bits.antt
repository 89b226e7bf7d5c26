-- Bits and sets of keys: the low bits of a number are 0 or one is on; a set with one key more has no other key more.
use mathlib.Core.Path.{◌≡◌, sym, ap, ◌∙◌}
use mathlib.Core.List.{List}
use mathlib.Core.Bool.{true, false}
use mathlib.Core.Logic.{◌⊎◌, inl, inr, ⊎_elim}
use Prim.Native.Nat.{ℕ, zero, suc, ◌+◌, ◌-◌, ◌*◌, ◌/◌, ◌%◌, ◌^◌, ◌<◌, ◌≤◌}
use native.Mathlib.Nat.{mod-lt, not-suc-le-zero, one-mul, div-eq_of_lt, mod-eq_of_lt, zero-mul}
use native.Mathlib.Omega.{arith}
use lib.Dec.{eqb}
use lib.ListN.{length, get_or, set}
use lib.Seq.{get_or-set_same, get_or-set_other}
use lib.Bits.{bit_or, or_shr, or_mod, shifted_even, or_zero_r}
use lib.Pow.{pow_pos, pow-lt, pow-add, mod-pow-add, shr-shr, shl-shr}
use borrow.Author.Tests.{eq-eqb, ne_eqb, eqb-true}
use Rattle.laws.proofs.Walks.{split_lt}
use Rattle.laws.proofs.Says.{same_or, apart, lt-or}
use Rattle.keys.specs.Marks.{bit_in, marked, marking}
use Rattle.keys.proofs.Bits.{one_shl}

-- a bit is on or off
pub bit-or_off : (x k : ℕ) → (bit_in x k ≡ 0) ⊎ (bit_in x k ≡ 1)
unfolding bit_in
bit-or_off x k =
    let h : x / 2 ^ k % 2 < 2 = mod-lt (x / 2 ^ k) (omega arith) in
    ⊎_elim (λ e. inl e) (λ n. inr (one h n)) (same_or (x / 2 ^ k % 2) 0)
  where
    one : x / 2 ^ k % 2 < 2 → (x / 2 ^ k % 2 ≡ 0 → ⊥) → x / 2 ^ k % 2 ≡ 1
    one h n = ⊎_elim (λ e. absurd (n e)) (λ m. omega arith) (same_or (x / 2 ^ k % 2) 0)

-- the lowest m + 1 bits are bit m and the lowest m
top : (x m : ℕ) → x % 2 ^ suc m ≡ bit_in x m * 2 ^ m + x % 2 ^ m
unfolding bit_in
top x m = ap (λ (e : ℕ). x % 2 ^ e) (next) ∙ mod-pow-add x 1 m
  where
    next : suc m ≡ 1 + m
    next = omega arith

pub low_off : (x m : ℕ) → x % 2 ^ m ≡ 0 → (k : ℕ) → k < m → bit_in x k ≡ 0
low_off x zero e k l = absurd (not-suc-le-zero l)
low_off x (suc m) e k l = go (bit-or_off x m) (λ f. low_off x m f)
  where
    pos : 0 < 2 ^ m
    pos = pow_pos m

    go : (bit_in x m ≡ 0) ⊎ (bit_in x m ≡ 1) → (x % 2 ^ m ≡ 0 → (j : ℕ) → j < m → bit_in x j ≡ 0) → bit_in x k ≡ 0
    go (inl f) rec =
        let g : bit_in x m * 2 ^ m ≡ 0 = ap (λ (u : ℕ). u * 2 ^ m) f ∙ zero-mul (2 ^ m) in
        ⊎_elim (λ q. ap (bit_in x) q ∙ f) (λ n. rec (omega (arith, top x m)) k n) (split_lt l)
    go (inr f) rec =
        let g : bit_in x m * 2 ^ m ≡ 2 ^ m = ap (λ (u : ℕ). u * 2 ^ m) f ∙ one-mul (2 ^ m) in
        absurd (omega (arith, top x m, pos))

pub data LowOn (x m : ℕ) : Type 0 where
  low-on : (k : ℕ) → k < m → bit_in x k ≡ 1 → LowOn x m

pub low-some : (x m : ℕ) → (x % 2 ^ m ≡ 0 → ⊥) → LowOn x m
low-some x zero e = absurd (e (omega arith))
low-some x (suc m) e = go (bit-or_off x m) (λ f. low-some x m f)
  where
    more : LowOn x m → LowOn x (suc m)
    more (low-on k l f) = low-on k (omega arith) f

    go : (bit_in x m ≡ 0) ⊎ (bit_in x m ≡ 1) → ((x % 2 ^ m ≡ 0 → ⊥) → LowOn x m) → LowOn x (suc m)
    go (inr f) rec = low-on m (omega arith) f
    go (inl f) rec = more (rec (λ h. e (omega (arith, top x m, ap (λ (u : ℕ). u * 2 ^ m) f ∙ zero-mul (2 ^ m)))))

-- a bit of a number that is shifted right
pub bit_shr : (w i j : ℕ) → bit_in (w / 2 ^ i) j ≡ bit_in w (i + j)
unfolding bit_in
bit_shr w i j = ap (λ (u : ℕ). u % 2) (shr-shr w i j)

-- another bit of a power
bit-other : (i j : ℕ) → (i ≡ j → ⊥) → bit_in (2 ^ i) j ≡ 0
unfolding bit_in
bit-other i j n = ⊎_elim below above (apart i j n)
  where
    below : i < j → 2 ^ i / 2 ^ j % 2 ≡ 0
    below l = ap (λ (u : ℕ). u % 2) (div-eq_of_lt (pow-lt l))

    above : j < i → 2 ^ i / 2 ^ j % 2 ≡ 0
    above l =
        let e : i ≡ suc (i - j - 1) + j = omega arith in
        ap (λ (u : ℕ). 2 ^ u / 2 ^ j % 2) e
        ∙ ap (λ (u : ℕ). u / 2 ^ j % 2) (pow-add 2 (suc (i - j - 1)) j)
        ∙ ap (λ (u : ℕ). u % 2) (shl-shr (2 ^ suc (i - j - 1)) j)
        ∙ ap (λ (u : ℕ). u % 2) (sym (one-mul (2 ^ suc (i - j - 1))))
        ∙ shifted_even 1 (i - j - 1)

bit-or : (x y j : ℕ) → bit_in (bit_or x y) j ≡ bit_or (bit_in x j) (bit_in y j)
unfolding bit_in
bit-or x y j = ap (λ (u : ℕ). u % 2) (or_shr x y j) ∙ or_mod (x / 2 ^ j) (y / 2 ^ j) 1

-- a key that the set has once k is put in: k, or one that it had
pub marked-only : (l : List ℕ) (k m : ℕ) → k / 64 < length l → marked (marking l k) m ≡ true → (m ≡ k) ⊎ (marked l m ≡ true)
unfolding marked marking
marked-only l k m h e = go (same_or (m / 64) (k / 64)) (same_or (m % 64) (k % 64))
  where
    v : ℕ
    v = bit_or (get_or l (k / 64) 0) (2 ^ (k % 64))

    is : bit_in (get_or (set l (k / 64) v) (m / 64) 0) (m % 64) ≡ 1
    is = eqb-true _ _ e

    go : (m / 64 ≡ k / 64) ⊎ (m / 64 ≡ k / 64 → ⊥) → (m % 64 ≡ k % 64) ⊎ (m % 64 ≡ k % 64 → ⊥)
        → (m ≡ k) ⊎ (eqb (bit_in (get_or l (m / 64) 0) (m % 64)) 1 ≡ true)
    go (inl q) (inl r) = inl (omega arith)
    go (inr q) r =
        inr (eq-eqb (bit_in (get_or l (m / 64) 0) (m % 64)) 1
        (ap (λ (w : ℕ). bit_in w (m % 64)) (sym (get_or-set_other l (k / 64) (m / 64) v 0 q)) ∙ is))
    go (inl q) (inr r) =
        inr (eq-eqb (bit_in (get_or l (m / 64) 0) (m % 64)) 1
        (ap (λ (i : ℕ). bit_in (get_or l i 0) (m % 64)) q
        ∙ sym (or_zero_r (bit_in (get_or l (k / 64) 0) (m % 64)))
        ∙ ap (λ (u : ℕ). bit_or (bit_in (get_or l (k / 64) 0) (m % 64)) u) (sym (bit-other (k % 64) (m % 64) (λ u. r (sym u))))
        ∙ sym (bit-or (get_or l (k / 64) 0) (2 ^ (k % 64)) (m % 64))
        ∙ ap (λ (w : ℕ). bit_in w (m % 64)) (sym (get_or-set_same l (k / 64) v 0 h))
        ∙ ap (λ (i : ℕ). bit_in (get_or (set l (k / 64) v) i 0) (m % 64)) (sym q)
        ∙ is))

-- the keys of a word from p on: key p + j is bit j of the word shifted to p
module _ (seen : List ℕ) (p j x : ℕ) (shifted : x ≡ get_or seen (p / 64) 0 / 2 ^ (p % 64)) (short : p % 64 + j < 64) where
  key_bit : bit_in (get_or seen ((p + j) / 64) 0) ((p + j) % 64) ≡ bit_in x j
  key_bit =
      let e : (p + j) / 64 ≡ p / 64 = omega arith in
      let f : (p + j) % 64 ≡ p % 64 + j = omega arith in
      ap (λ (i : ℕ). bit_in (get_or seen i 0) ((p + j) % 64)) e
      ∙ ap (λ (i : ℕ). bit_in (get_or seen (p / 64) 0) i) f
      ∙ sym (bit_shr (get_or seen (p / 64) 0) (p % 64) j)
      ∙ ap (λ (u : ℕ). bit_in u j) (sym shifted)

  pub key_off : bit_in x j ≡ 0 → marked seen (p + j) ≡ false
  unfolding marked
  key_off e = ne_eqb (bit_in (get_or seen ((p + j) / 64) 0) ((p + j) % 64)) 1 (λ q. no (sym key_bit ∙ q))
    where
      no : bit_in x j ≡ 1 → ⊥
      no q = omega arith

  pub key_on : bit_in x j ≡ 1 → marked seen (p + j) ≡ true
  unfolding marked
  key_on e = eq-eqb (bit_in (get_or seen ((p + j) / 64) 0) ((p + j) % 64)) 1 (key_bit ∙ e)

-- the lowest n bits of a word, as the code asks for them
pub word-whole : (w n : ℕ) → n ≡ 64 → w < 18446744073709551616 → eqb w 0 ≡ eqb (w % 2 ^ n) 0
word-whole w n e h = rw e (ap (λ (u : ℕ). eqb u 0) (sym (mod-eq_of_lt h)))

module _ (n : ℕ) (h : n ≤ 64) (e : n ≡ 64 → ⊥) where
  less : n < 64
  less = ⊎_elim (λ l. l) (λ l. absurd (e (omega arith))) (lt-or n 64)

  pub word_low : (w : ℕ) → eqb (w % (1 * 2 ^ n % 18446744073709551616)) 0 ≡ eqb (w % 2 ^ n) 0
  word_low w = rw (one_shl n less)

  pub power_some : 0 < 1 * 2 ^ n % 18446744073709551616
  power_some = omega (arith, pow_pos n, one_shl n less)

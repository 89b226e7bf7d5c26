-- The bits of a word and the words of a set: what is put into it is in it, and what was in it still is.
use mathlib.Core.Path.{◌≡◌, refl, sym, ap, ◌∙◌}
use mathlib.Core.List.{List}
use mathlib.Core.Bool.{Bool, true, false}
use Prim.Native.Nat.{ℕ, zero, suc, ◌*◌, ◌/◌, ◌%◌, ◌^◌, ◌<◌}
use native.Mathlib.Nat.{mod-lt, one-mul}
use native.Mathlib.Omega.{arith}
use lib.ListN.{length, get_or, set, length-set}
use lib.Seq.{get_or-set_same, get_or-set_other}
use lib.Dec.{eqb}
use lib.Bits.{bit_or, or_shr, or_mod}
use lib.Pow.{shl-shr, shl_exact}
use borrow.Author.Tests.{eq-eqb, eqb-true, eqb-false}
use Rattle.keys.specs.Marks.{bit_in, marked, marking}

bit-or : (a b j : ℕ) → bit_in (bit_or a b) j ≡ bit_or (bit_in a j) (bit_in b j)
unfolding bit_in
bit-or a b j = ap (λ (x : ℕ). x % 2) (or_shr a b j) ∙ or_mod (a / 2 ^ j) (b / 2 ^ j) 1

bit-lt : (a j : ℕ) → bit_in a j < 2
unfolding bit_in
bit-lt a j = mod-lt (a / 2 ^ j) (omega arith)

-- a bit_in of its own power
bit-own : (j : ℕ) → bit_in (2 ^ j) j ≡ 1
unfolding bit_in
bit-own j = ap (λ (x : ℕ). x / 2 ^ j % 2) (sym (one-mul (2 ^ j))) ∙ ap (λ (x : ℕ). x % 2) (shl-shr 1 j)

or-one-left : (x : ℕ) → x < 2 → bit_or 1 x ≡ 1
or-one-left zero h = refl
or-one-left (suc zero) h = refl
or-one-left (suc (suc x)) h = absurd (omega arith)

or-one-right : (x : ℕ) → x < 2 → bit_or x 1 ≡ 1
or-one-right zero h = refl
or-one-right (suc zero) h = refl
or-one-right (suc (suc x)) h = absurd (omega arith)

-- a bit_in that is on stays on
bit_kept : (a b j : ℕ) → bit_in a j ≡ 1 → bit_in (bit_or a b) j ≡ 1
bit_kept a b j e = bit-or a b j ∙ ap (λ (x : ℕ). bit_or x (bit_in b j)) e ∙ or-one-left (bit_in b j) (bit-lt b j)

bit-set : (a j : ℕ) → bit_in (bit_or a (2 ^ j)) j ≡ 1
bit-set a j = bit-or a (2 ^ j) j ∙ ap (λ (x : ℕ). bit_or (bit_in a j) x) (bit-own j) ∙ or-one-right (bit_in a j) (bit-lt a j)

pub length-marking : (l : List ℕ) (k : ℕ) → length (marking l k) ≡ length l
unfolding marking
length-marking l k = simp length-set

pub marked_new : (l : List ℕ) (k : ℕ) → k / 64 < length l → marked (marking l k) k ≡ true
unfolding marked marking
marked_new l k h =
    eq-eqb _ _
    (ap (λ (w : ℕ). bit_in w (k % 64)) (get_or-set_same l (k / 64) (bit_or (get_or l (k / 64) 0) (2 ^ (k % 64))) 0 h)
    ∙ bit-set (get_or l (k / 64) 0) (k % 64))

pub marked-kept : (l : List ℕ) (k m : ℕ) → k / 64 < length l → marked l m ≡ true → marked (marking l k) m ≡ true
unfolding marked marking
marked-kept l k m h e = eq-eqb _ _ (go (eqb (m / 64) (k / 64)) refl)
  where
    was : bit_in (get_or l (m / 64) 0) (m % 64) ≡ 1
    was = eqb-true _ _ e

    v : ℕ
    v = bit_or (get_or l (k / 64) 0) (2 ^ (k % 64))

    go : (b : Bool) → eqb (m / 64) (k / 64) ≡ b → bit_in (get_or (set l (k / 64) v) (m / 64) 0) (m % 64) ≡ 1
    go true q =
        let r : m / 64 ≡ k / 64 = eqb-true _ _ q in
        ap (λ (i : ℕ). bit_in (get_or (set l (k / 64) v) i 0) (m % 64)) r
        ∙ ap (λ (w : ℕ). bit_in w (m % 64)) (get_or-set_same l (k / 64) v 0 h)
        ∙ bit_kept (get_or l (k / 64) 0) (2 ^ (k % 64)) (m % 64) (ap (λ (i : ℕ). bit_in (get_or l i 0) (m % 64)) (sym r) ∙ was)
    go false q = ap (λ (w : ℕ). bit_in w (m % 64)) (get_or-set_other l (k / 64) (m / 64) v 0 (eqb-false _ _ q)) ∙ was

-- 1 shifted left in a word
pub one_shl : (k : ℕ) → k < 64 → 1 * 2 ^ k % 18446744073709551616 ≡ 2 ^ k
one_shl k h = shl_exact 1 k 64 (omega arith) (omega arith) ∙ one-mul (2 ^ k)

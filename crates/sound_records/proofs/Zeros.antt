-- Stretches of zero bytes: a part of one, two that meet or overlap, a word of eight bytes, and one law for each
-- way out of a test of a stretch.
use mathlib.Core.Path.{◌≡◌, refl, sym, ◌∙◌, ap}
use mathlib.Core.Bool.{Bool, true, false, not, ◌&&◌, false≢true}
use mathlib.Core.List.{List}
use mathlib.Core.Logic.{⊎_elim}
use Prim.Native.Nat.{ℕ, zero, suc, ◌+◌, ◌*◌, ◌-◌, ◌/◌, ◌<◌, ◌≤◌}
use native.Mathlib.Numerals.{add-one}
use native.Mathlib.Omega.{arith}
use lib.ListN.{length, get_or, take, drop, length-drop}
use lib.Seq.{get_or-drop}
use lib.Bits.{bit_or, or_add_and, and_le_l, and_le_r}
use lib.Dec.{eqb}
use borrow.Author.Tests.{eqb-true, eq-eqb, not-true, not-false}
use Rattle.std.specs.List.{list_all}
use Rattle.std.proofs.lemmas.List.Folds.{list_all_more}
use Rattle.laws.specs.Walks.{all_below}
use Rattle.laws.proofs.Says.{and-says, lt-or}
use Rattle.laws.proofs.Walks.{all_each, each_all}
use Rattle.numbers.specs.Numbers.{u16_at, u32_at}
use Rattle.sound.specs.Own.{zerosb}

-- two tests that give each other are the same
pub agree : (a b : Bool) → (a ≡ true → b ≡ true) → (b ≡ true → a ≡ true) → a ≡ b
agree true b f g = sym (f refl)
agree false true f g = g refl
agree false false f g = refl

module _ (s : List ℕ) where
  pub zeros_each : (a n : ℕ) → zerosb s a n ≡ true → (p : ℕ) → a ≤ p → p < a + n → get_or s p 0 ≡ 0
  unfolding zerosb
  zeros_each a n h p l m =
      let e : a + (p - a) ≡ p = omega arith in
      rw e at (eqb-true (get_or s (a + (p - a)) 0) 0 (all_each (λ k. eqb (get_or s (a + k) 0) 0) n (p - a) (omega arith) h))

  pub each_zeros : (a n : ℕ) → ((p : ℕ) → a ≤ p → p < a + n → get_or s p 0 ≡ 0) → zerosb s a n ≡ true
  unfolding zerosb
  each_zeros a n f =
      each_all (λ k. eqb (get_or s (a + k) 0) 0) n (λ i l. eq-eqb (get_or s (a + i) 0) 0 (f (a + i) (omega arith) (omega arith)))

  -- a part of a stretch of zeros
  pub zeros-part : (a n b m : ℕ) → a ≤ b → b + m ≤ a + n → zerosb s a n ≡ true → zerosb s b m ≡ true
  zeros-part a n b m l r h = each_zeros b m (λ p i j. zeros_each a n h p (omega arith) (omega arith))

  -- two stretches, the second from the first on or from within it
  pub zeros-both : (a n b m c k : ℕ) → a ≤ c → b ≤ a + n → c + k ≤ b + m → zerosb s a n ≡ true → zerosb s b m ≡ true → zerosb s c k ≡ true
  zeros-both a n b m c k l o r g h =
      each_zeros c k
      (λ p i j. ⊎_elim (λ u. zeros_each a n g p (omega arith) u) (λ u. zeros_each b m h p (omega arith) (omega arith))
      (lt-or p (a + n)))

  -- a test of a part that failed, and one of the last part after the rest passed: x is what it answered
  pub part_fails : (a n b m : ℕ) (x : Bool) → a ≤ b → b + m ≤ a + n → x ≡ zerosb s b m → not x ≡ true → false ≡ zerosb s a n
  part_fails a n b m x l r e t =
      agree false (zerosb s a n) (λ z. absurd (false≢true z)) (λ h. sym (not-true x t) ∙ e ∙ zeros-part a n b m l r h)

  pub last-part : (a n b m c k : ℕ) (x : Bool) → a ≤ c → c ≤ b → b ≤ a + n → b + m ≡ c + k → zerosb s a n ≡ true → x ≡ zerosb s b m
      → x ≡ zerosb s c k
  last-part a n b m c k x l o q r g e =
      e ∙ agree (zerosb s b m) (zerosb s c k) (zeros-both a n b m c k l q (omega arith) g) (zeros-part c k b m o (omega arith))

  -- bytes, byte by byte
  zeros_first : (at n : ℕ) → at + n ≤ length s → list_all (λ (x : ℕ). eqb x 0) (take n (drop at s)) ≡ zerosb s at n
  unfolding zerosb all_below
  zeros_first at zero h = refl
  zeros_first at (suc n) h =
      let p : ℕ → Bool = λ x. eqb x 0 in
      let l : n < length (drop at s) = rw length-drop (omega arith) in
      ap (λ (m : ℕ). list_all p (take m (drop at s))) (sym (add-one n))
      ∙ list_all_more p (drop at s) n 0 l
      ∙ rw (zeros_first at n (omega arith), get_or-drop)

  pub zeros_all : (at n : ℕ) (b : Bool) → at + n ≤ length s → b ≡ list_all (λ (x : ℕ). eqb x 0) (take (at + n - at) (drop at s)) → b ≡ zerosb s at n
  zeros_all at n b h e = let k : at + n - at ≡ n = omega arith in e ∙ rw k (zeros_first at n h)

  -- two numbers side by side, and one that is zero where both are
  side : (at n m u v z : ℕ) → (z ≡ 0 → u ≡ 0) → (z ≡ 0 → v ≡ 0) → (u ≡ 0 → v ≡ 0 → z ≡ 0) → eqb u 0 ≡ zerosb s at n
      → eqb v 0 ≡ zerosb s (at + n) m
      → eqb z 0 ≡ zerosb s at (n + m)
  side at n m u v z l r f g h =
      agree (eqb z 0) (zerosb s at (n + m))
      (λ t. zeros-both at n (at + n) m at (n + m) (omega arith) (omega arith) (omega arith) (sym g ∙ eq-eqb u 0 (l (eqb-true z 0 t)))
      (sym h ∙ eq-eqb v 0 (r (eqb-true z 0 t))))
      (λ t. eq-eqb z 0
      (f (eqb-true u 0 (g ∙ zeros-part at (n + m) at n (omega arith) (omega arith) t))
      (eqb-true v 0 (h ∙ zeros-part at (n + m) (at + n) m (omega arith) (omega arith) t))))

  pub one-zero : (at : ℕ) → eqb (get_or s at 0) 0 ≡ zerosb s at 1
  unfolding zerosb all_below
  one-zero at = ap (λ (i : ℕ). eqb (get_or s i 0) 0) (omega arith)

  two-zero : (at : ℕ) → eqb (u16_at s at) 0 ≡ zerosb s at 2
  unfolding u16_at
  two-zero at =
      side at 1 1 (get_or s at 0) (get_or s (at + 1) 0) (get_or s at 0 * 256 + get_or s (at + 1) 0) (λ e. omega arith) (λ e. omega arith)
      (λ d e. omega arith) (one-zero at) (one-zero (at + 1))

  four-zero : (at : ℕ) → eqb (u32_at s at) 0 ≡ zerosb s at 4
  unfolding u32_at
  four-zero at =
      side at 2 2 (u16_at s at) (u16_at s (at + 2)) (u16_at s at * 65536 + u16_at s (at + 2)) (λ e. omega arith) (λ e. omega arith)
      (λ d e. omega arith) (two-zero at) (two-zero (at + 2))

  pub eight_zero : (at u v : ℕ) → u ≡ u32_at s at → v ≡ u32_at s (at + 4) → eqb (u * 4294967296 + v) 0 ≡ zerosb s at 8
  eight_zero at u v e f =
      side at 4 4 u v (u * 4294967296 + v) (λ e. omega arith) (λ e. omega arith) (λ d e. omega arith) (rw e (four-zero at))
      (rw f (four-zero (at + 4)))

-- bytes gathered by or
or-zero : (x y : ℕ) → eqb (bit_or x y) 0 ≡ (eqb x 0 && eqb y 0)
or-zero x y =
    agree (eqb (bit_or x y) 0) (eqb x 0 && eqb y 0)
    (λ t. let e = eqb-true (bit_or x y) 0 t in
    (and-says (eqb x 0) (eqb y 0)).1
    (eq-eqb x 0 (omega (arith, or_add_and x y, and_le_r x y)), eq-eqb y 0 (omega (arith, or_add_and x y, and_le_l x y))))
    (λ t. let p = (and-says (eqb x 0) (eqb y 0)).0 t in
    let e = eqb-true x 0 p.0 in
    let f = eqb-true y 0 p.1 in
    eq-eqb (bit_or x y) 0 (omega (arith, or_add_and x y)))

module _ (r : List ℕ) where
  pub gather_start : eqb 0 0 ≡ zerosb r 0 0
  unfolding zerosb all_below
  gather_start = refl

  pub gather_more : (k x : ℕ) → eqb x 0 ≡ zerosb r 0 k → eqb (bit_or x (get_or r k 0)) 0 ≡ zerosb r 0 (k + 1)
  unfolding zerosb all_below
  gather_more k x h =
      let e : k ≡ 0 + k = omega arith in
      or-zero x (get_or r k 0) ∙ rw (add-one, h) (ap (λ (i : ℕ). zerosb r 0 k && eqb (get_or r i 0) 0) e)

  pub gather_end : (k x : ℕ) → k ≤ 64 → 64 ≤ k → eqb x 0 ≡ zerosb r 0 k → eqb x 0 ≡ zerosb r 0 64
  gather_end k x a b h = let e : k ≡ 64 = omega arith in rw e at h

-- the ways out of the tests of a record's stretches: a, b, c and d are what was answered of their words
module _ (r : List ℕ) where
  passed : (at n : ℕ) (x : Bool) → x ≡ zerosb r at n → not x ≡ false → zerosb r at n ≡ true
  passed at n x e t = sym e ∙ not-false x t

  -- no name
  pub none_first : (a : Bool) → a ≡ zerosb r 16 8 → not a ≡ true → false ≡ zerosb r 16 17
  none_first a e t = part_fails r 16 17 16 8 a (omega arith) (omega arith) e t

  pub none_second : (b : Bool) → b ≡ zerosb r 24 8 → not b ≡ true → false ≡ zerosb r 16 17
  none_second b e t = part_fails r 16 17 24 8 b (omega arith) (omega arith) e t

  pub none_last :
      (a b c : Bool) → a ≡ zerosb r 16 8 → not a ≡ false → b ≡ zerosb r 24 8 → not b ≡ false → c ≡ zerosb r 25 8 → c ≡ zerosb r 16 17
  none_last a b c e t f u g =
      last-part r 16 16 25 8 16 17 c (omega arith) (omega arith) (omega arith) refl
      (zeros-both r 16 8 24 8 16 16 (omega arith) (omega arith) (omega arith) (passed 16 8 a e t) (passed 24 8 b f u))
      g

  -- after a name of n bytes, at most 8
  module _ (n : ℕ) (h : n ≤ 8) (a : Bool) (e : a ≡ zerosb r (17 + n) 8) where
    pub name-first : not a ≡ true → false ≡ zerosb r (17 + n) (16 - n)
    name-first t = part_fails r (17 + n) (16 - n) (17 + n) 8 a (omega arith) (omega arith) e t

    pub name-last : not a ≡ false → (b : Bool) → b ≡ zerosb r 25 8 → b ≡ zerosb r (17 + n) (16 - n)
    name-last t b f =
        last-part r (17 + n) 8 25 8 (17 + n) (16 - n) b (omega arith) (omega arith) (omega arith) (omega arith) (passed (17 + n) 8 a e t) f

  -- after a rule of n bytes, up to `to`, which is the end of the record, or two bytes before it
  module _ (n to : ℕ) (low : 62 ≤ to) (high : to ≤ 64) (a : Bool) (e : a ≡ zerosb r (34 + n) 8) where
    -- more than 16 bytes
    module _ (some : 16 < n) (h : n ≤ 20) where
      pub long-first : not a ≡ true → false ≡ zerosb r (34 + n) (to - (34 + n))
      long-first t = part_fails r (34 + n) (to - (34 + n)) (34 + n) 8 a (omega arith) (omega arith) e t

      pub long-last : not a ≡ false → (d : Bool) → d ≡ zerosb r (to - 8) 8 → d ≡ zerosb r (34 + n) (to - (34 + n))
      long-last t d i =
          last-part r (34 + n) 8 (to - 8) 8 (34 + n) (to - (34 + n)) d (omega arith) (omega arith) (omega arith) (omega arith)
          (passed (34 + n) 8 a e t) i

    -- at most 16
    module _ (h : n ≤ 16) where
      pub rule-first : not a ≡ true → false ≡ zerosb r (34 + n) (to - (34 + n))
      rule-first t = part_fails r (34 + n) (to - (34 + n)) (34 + n) 8 a (omega arith) (omega arith) e t

      module _ (t : not a ≡ false) (b : Bool) (f : b ≡ zerosb r (42 + n / 2) 8) where
        pub rule_second : not b ≡ true → false ≡ zerosb r (34 + n) (to - (34 + n))
        rule_second u = part_fails r (34 + n) (to - (34 + n)) (42 + n / 2) 8 b (omega arith) (omega arith) f u

        module _ (u : not b ≡ false) (c : Bool) (g : c ≡ zerosb r (48 + n / 8) 8) where
          pub rule-third : not c ≡ true → false ≡ zerosb r (34 + n) (to - (34 + n))
          rule-third v = part_fails r (34 + n) (to - (34 + n)) (48 + n / 8) 8 c (omega arith) (omega arith) g v

          pub rule-last : not c ≡ false → (d : Bool) → d ≡ zerosb r (to - 8) 8 → d ≡ zerosb r (34 + n) (to - (34 + n))
          rule-last v d i =
              let to-50 = zeros-both r (34 + n) 8 (42 + n / 2) 8 (34 + n) (16 - n) (omega arith) (omega arith) (omega arith)
              (passed (34 + n) 8 a e t) (passed (42 + n / 2) 8 b f u) in
              let to-56 = zeros-both r (34 + n) (16 - n) (48 + n / 8) 8 (34 + n) (22 - n) (omega arith) (omega arith) (omega arith) to-50
              (passed (48 + n / 8) 8 c g v) in
              last-part r (34 + n) (22 - n) (to - 8) 8 (34 + n) (to - (34 + n)) d (omega arith) (omega arith) (omega arith) (omega arith)
              to-56 i

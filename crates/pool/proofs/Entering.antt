-- The test of all bodies, as its code asks: a stretch of keys, starts put into the set, bodies alone in theirs.
use mathlib.Core.Path.{◌≡◌, sym, ap, ◌∙◌}
use mathlib.Core.List.{List}
use mathlib.Core.Bool.{Bool, true, false, not, false≢true}
use mathlib.Core.Logic.{◌⊎◌, inl, inr, ⊎_elim}
use Prim.Native.Nat.{ℕ, ◌+◌, ◌-◌, ◌/◌, ◌%◌, ◌^◌, ◌<◌, ◌≤◌, min}
use native.Mathlib.Nat.{not-suc-le-zero, zero-div}
use native.Mathlib.Omega.{arith}
use lib.Dec.{eqb}
use lib.ListN.{get_or, replicate, length-replicate}
use borrow.Author.Tests.{eqb-true, eqb-false, not-true, not-false}
use Rattle.laws.proofs.Says.{untrue, lt-or}
use Rattle.keys.specs.Marks.{bit_in, marked, marking}
use Rattle.keys.proofs.Bits.{length-marking, marked_new, marked-kept}
use Rattle.pool.specs.Laid.{laid, Laid}
use Rattle.pool.specs.Entered.{When, yes, no, NoneMarked, OneMarked, one, Begun, begun, Entered, Alone}
use Rattle.pool.proofs.Clears.{laid-gives, laid_is}
use Rattle.pool.proofs.Indexes.{zeros}
use Rattle.pool.proofs.Bits.{low_off, LowOn, low-on, low-some, key_off, key_on, marked-only}

-- A stretch: no key from `from` to p is in the set
pub record Passed (seen : List ℕ) (from to p : ℕ) : Type 0 where
  pub up : from ≤ p
  pub none : (k : ℕ) → from ≤ k → k < p → k < to → marked seen k ≡ false

module _ (seen : List ℕ) (from to : ℕ) where
  pub passed_start : Passed seen from to from
  passed_start = record { up = omega arith; none = λ k h l m. absurd (omega arith) }

  pub passed_end : (p : ℕ) → Passed seen from to p → to ≤ p → NoneMarked seen from to
  passed_end p i h = record { none = λ k l m. i.none k l (omega arith) m }

  -- x is the word, shifted to p, and m the number of its bits that are looked at
  module _ (p x m : ℕ) (i : Passed seen from to p) (low : p < to) (shifted : x ≡ get_or seen (p / 64) 0 / 2 ^ (p % 64)) (c : Bool)
      (asked : c ≡ eqb (x % 2 ^ m) 0) (few : m ≡ min (to - p) (64 - p % 64)) where
    pub passed_more : not c ≡ false → Passed seen from to (p + (64 - p % 64))
    passed_more e =
        record { up = omega (arith, i.up); none = λ k h l n. ⊎_elim (λ j. i.none k h j n) (λ j. new k l n j) (lt-or k p) }
      where
        off : x % 2 ^ m ≡ 0
        off = eqb-true (x % 2 ^ m) 0 (sym asked ∙ not-false c e)

        new : (k : ℕ) → k < p + (64 - p % 64) → k < to → p ≤ k → marked seen k ≡ false
        new k l n j =
            let q : p + (k - p) ≡ k = omega arith in
            rw q at (key_off seen p (k - p) x shifted (omega arith) (low_off x m off (k - p) (omega (arith, few))))

    pub passed_fails : not c ≡ true → OneMarked seen from to
    passed_fails e = go (low-some x m (eqb-false (x % 2 ^ m) 0 (sym asked ∙ not-true c e)))
      where
        go : LowOn x m → OneMarked seen from to
        go (low-on k l h) = one (p + k) (omega (arith, i.up)) (omega (arith, few)) (key_on seen p k x shifted (omega (arith, few)) h)

-- What an answer says
pub when_yes : {A B : Type 0} (r : Bool) → When r A B → not r ≡ false → A
when_yes r (yes h a) e = a
when_yes r (no h b) e = absurd (false≢true (sym h ∙ not-false r e))

pub when_no : {A B : Type 0} (r : Bool) → When r A B → not r ≡ true → B
when_no r (yes h a) e = absurd (false≢true (sym (not-true r e) ∙ h))
when_no r (no h b) e = b

-- Starts put into the set
module _ (a z : ℕ → ℕ) (len : ℕ) where
  pub entered-none : Entered 0 a z len (replicate 1024 0)
  unfolding marked bit_in
  entered-none =
      record {
        long = length-replicate {A = ℕ} 1024 0;
        inside = λ t l. absurd (not-suc-le-zero l);
        has = λ t l. absurd (not-suc-le-zero l);
        only = λ k e. absurd (never k e);
        differ = λ t u l. absurd (not-suc-le-zero l);
      }
    where
      never : (k : ℕ) → eqb (get_or (replicate 1024 0) (k / 64) 0 / 2 ^ (k % 64) % 2) 1 ≡ true → ⊥
      never k e =
          let f : get_or {A = ℕ} (replicate 1024 0) (k / 64) 0 / 2 ^ (k % 64) % 2 ≡ 0 =
          ap (λ (w : ℕ). w / 2 ^ (k % 64) % 2) (zeros 1024 (k / 64)) ∙ ap (λ (w : ℕ). w % 2) (zero-div (2 ^ (k % 64))) in
          omega (arith, eqb-true (get_or (replicate 1024 0) (k / 64) 0 / 2 ^ (k % 64) % 2) 1 e)

  module _ (s : ℕ) (seen : List ℕ) (i : Entered s a z len seen) (r : ℕ) (size : r ≡ z s) where
    later : {k : ℕ} → Begun s a z k → Begun (s + 1) a z k
    later (begun t b) = begun t (record { low = omega (arith, b.low); some = b.some; here = b.here })

    pub enter_empty : r ≡ 0 → Entered (s + 1) a z len seen
    enter_empty e =
        record {
          long = i.long;
          inside = λ t l x. i.inside t (lower t l x) x;
          has = λ t l x. i.has t (lower t l x) x;
          only = λ k h. later (i.only k h);
          differ = λ t u l m x y. i.differ t u (lower t l x) (lower u m y) x y;
        }
      where
        lower : (t : ℕ) → t < s + 1 → 0 < z t → t < s
        lower t l x = ⊎_elim (λ h. h) (λ h. absurd (no (omega arith))) (lt-or t s)
          where
            no : t ≡ s → ⊥
            no q = omega (arith, ap z q)

    module _ (some : r ≡ 0 → ⊥) (f : ℕ) (start : f ≡ a s) where
      body : 0 < z s
      body = ⊎_elim (λ h. h) (λ h. absurd (some (omega arith))) (lt-or 0 (z s))

      pub enter_outside : (n : ℕ) → s < n → len < f + r → Laid n a z len → ⊥
      enter_outside n l h d = omega (arith, d.inside s l body)

      module _ (c : Bool) (asked : c ≡ marked seen f) where
        pub enter_twice : (n : ℕ) → s < n → c ≡ true → Laid n a z len → ⊥
        enter_twice n l e d = go (i.only f (sym asked ∙ e))
          where
            go : Begun s a z f → ⊥
            go (begun t b) =
                omega (
                  arith,
                  b.low,
                  b.some,
                  b.here,
                  d.apart t s (omega (arith, b.low)) l b.some body (omega (arith, b.here))
                      (λ q. omega (arith, b.low)),
                )

        pub enter_new : c ≡ false → f < 65536 → f + r ≤ len → (new : List ℕ) → new ≡ marking seen f → Entered (s + 1) a z len new
        enter_new e low room new g =
            rw g (record {
              long = length-marking seen f ∙ i.long;
              inside = λ t l x. ⊎_elim (λ h. i.inside t h x) (λ h. own t (omega arith)) (lt-or t s);
              has =
                  λ t l x. ⊎_elim (λ h. marked-kept seen f (a t) (omega (arith, i.long)) (i.has t h x))
                  (λ h. ap (marked (marking seen f)) (mine t (omega arith)) ∙ marked_new seen f (omega (arith, i.long))) (lt-or t s);
              only =
                  λ k h. ⊎_elim (λ q. begun s (record { low = omega arith; some = body; here = sym start ∙ sym q }))
                  (λ q. later (i.only k q)) (marked-only seen f k (omega (arith, i.long)) h);
              differ = λ t u l m x y q. differ t u l m x y q (lt-or t s) (lt-or u s);
            })
          where
            own : (t : ℕ) → t ≡ s → a t + z t ≤ len
            own t q = omega (arith, ap a q, ap z q)

            mine : (t : ℕ) → t ≡ s → a t ≡ f
            mine t q = ap a q ∙ sym start

            fresh : (t : ℕ) → t < s → 0 < z t → a t ≡ a s → ⊥
            fresh t l x q = false≢true (sym e ∙ asked ∙ ap (marked seen) (start ∙ sym q) ∙ i.has t l x)

            differ : (t u : ℕ) → t < s + 1 → u < s + 1 → 0 < z t → 0 < z u → a t ≡ a u → (t < s) ⊎ (s ≤ t) → (u < s) ⊎ (s ≤ u) → t ≡ u
            differ t u l m x y q (inl h) (inl k) = i.differ t u h k x y q
            differ t u l m x y q (inr h) (inr k) = omega arith
            differ t u l m x y q (inl h) (inr k) = let v : u ≡ s = omega arith in absurd (fresh t h x (q ∙ ap a v))
            differ t u l m x y q (inr h) (inl k) = let v : t ≡ s = omega arith in absurd (fresh u k y (sym q ∙ ap a v))

  pub entered-end : (n s : ℕ) (seen : List ℕ) → Entered s a z len seen → s ≤ n → n ≤ s → Entered n a z len seen
  entered-end n s seen i h k = let e : s ≡ n = omega arith in rw e at i

  -- Bodies alone
  module _ (n : ℕ) (seen : List ℕ) (i : Entered n a z len seen) where
    module _ (s r : ℕ) (size : r ≡ z s) where
      pub alone-empty : r ≡ 0 → Alone a z seen s
      alone-empty e = record { none = λ x. absurd (omega arith) }

      module _ (some : r ≡ 0 → ⊥) (f : ℕ) (start : f ≡ a s) where
        pub alone-room : s < n → len < 65536 → f + r ≤ 65536
        alone-room l m = omega (arith, i.inside s l (⊎_elim (λ h. h) (λ h. absurd (some (omega arith))) (lt-or 0 (z s))))

        pub alone_is : (c : Bool) → When c (NoneMarked seen (f + 1) (f + r)) (OneMarked seen (f + 1) (f + r)) → not c ≡ false
            → Alone a z seen s
        alone_is c w e = let h = when_yes c w e in record { none = λ x k l m. h.none k (omega arith) (omega arith) }

        met : s < n → OneMarked seen (f + 1) (f + r) → Laid n a z len → ⊥
        met l (one k h m e) d = go (i.only k e)
          where
            go : Begun n a z k → ⊥
            go (begun t b) =
                omega (
                  arith,
                  b.here,
                  d.apart s t l b.low (omega arith) b.some (omega (arith, b.here))
                      (λ q. omega (arith, b.here, ap a q)),
                )

        pub alone-not : s < n → (c : Bool) → When c (NoneMarked seen (f + 1) (f + r)) (OneMarked seen (f + 1) (f + r)) → not c ≡ true
            → Laid n a z len → ⊥
        alone-not l c w e d = met l (when_no c w e) d

    -- all are
    pub alone-laid : ((t : ℕ) → t < n → Alone a z seen t) → Laid n a z len
    alone-laid f =
        record {
          inside = i.inside;
          apart = λ s t k l x y h e. ⊎_elim (λ j. absurd (within s t k l x y h e j)) (λ j. j) (lt-or (a t) (a s + z s));
        }
      where
        within : (s t : ℕ) → s < n → t < n → 0 < z s → 0 < z t → a s ≤ a t → (s ≡ t → ⊥) → a t < a s + z s → ⊥
        within s t k l x y h e j =
            ⊎_elim (λ m. false≢true (sym ((f s k).none x (a t) m j) ∙ i.has t l y)) (λ m. e (i.differ s t k l x y (omega arith)))
            (lt-or (a s) (a t))

    pub alone-end : (s : ℕ) → s ≤ n → n ≤ s → ((t : ℕ) → t < s → Alone a z seen t) → true ≡ laid n a z len
    alone-end s h k f = sym (laid_is n a z len (alone-laid (λ t l. f t (omega arith))))

  pub not-laid : (n : ℕ) → (Laid n a z len → ⊥) → false ≡ laid n a z len
  not-laid n f = sym (untrue (laid n a z len) (λ e. f (laid-gives n a z len e)))

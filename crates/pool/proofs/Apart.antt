-- Bodies that lie in the pool, apart: which body a byte is in, which starts at a byte, and how much lies below it.
use mathlib.Core.Path.{◌≡◌, refl, sym, ap, ◌∙◌}
use mathlib.Core.Bool.{Bool, true, false, ◌&&◌}
use mathlib.Core.Logic.{◌⊎◌, inl, inr, ⊎_elim}
use Prim.Native.Nat.{ℕ, zero, suc, ◌+◌, ◌<◌, ◌≤◌}
use native.Mathlib.Nat.{add-zero, zero-add}
use native.Mathlib.Omega.{arith}
use lib.Dec.{eqb, ltb}
use borrow.Author.Tests.{eq-eqb, eqb-true, lt-ltb, ltb-true}
use Rattle.std.specs.Prelude.{Option, Some, None}
use Rattle.laws.specs.Walks.{sum_below, first_below}
use Rattle.laws.proofs.Firsts.{first_is, no-first}
use Rattle.laws.proofs.Says.{same_or, and-says, lt-or}
use Rattle.pool.specs.Laid.{Laid}
use Rattle.pool.specs.Index.{StartsAt}
use Rattle.pool.specs.Packed.{below, packed_start}
use Rattle.pool.proofs.Belows.{below-zero, below-same, below-body, below-has, below_all}

-- s is a slot with a body that starts at p, tested
abbrev starts_here : (ℕ → ℕ) → (ℕ → ℕ) → ℕ → ℕ → Bool
starts_here a z p s = ltb 0 (z s) && eqb (a s) p

-- no body starts from p to q
pub record NoneFrom (n : ℕ) (a z : ℕ → ℕ) (p q : ℕ) : Type 0 where
  pub none : (t : ℕ) → t < n → 0 < z t → p ≤ a t → a t < q → ⊥

-- a body starts at p, or none does
pub data Start (n : ℕ) (a z : ℕ → ℕ) (p : ℕ) : Type 0 where
  body : (s : ℕ) → StartsAt n a z p s → Start n a z p
  none : NoneFrom n a z p (p + 1) → Start n a z p

-- byte q is in a body afterwards
pub data Covering (n : ℕ) (a z : ℕ → ℕ) (q : ℕ) : Type 0 where
  covering : (t : ℕ) → t < n → packed_start n a z t ≤ q → q < packed_start n a z t + z t → Covering n a z q

module _ (n : ℕ) (a z : ℕ → ℕ) where
  pub start-or : (p : ℕ) → Start n a z p
  start-or p = go (first_below n (starts_here a z p)) refl
    where
      go : (f : Option ℕ) → first_below n (starts_here a z p) ≡ f → Start n a z p
      go (Some s) e =
          let f = first_is n (starts_here a z p) s e in
          let h = (and-says (ltb 0 (z s)) (eqb (a s) p)).0 f.here in
          body s (record { low = f.low; some = ltb-true 0 (z s) h.0; here = eqb-true (a s) p h.1 })
      go None e = none (record { none = λ t l h j k. never t l h (omega arith) })
        where
          never : (t : ℕ) → t < n → 0 < z t → a t ≡ p → ⊥
          never t l h k =
              let f = (no-first n (starts_here a z p) e).none t l in
              let g = (and-says (ltb 0 (z t)) (eqb (a t) p)).1 (lt-ltb 0 (z t) h, eq-eqb (a t) p k) in
              let bad : true ≡ false = sym g ∙ f in
              let zero_one : ◌≡◌ {A = ℕ} 0 1 = cc in
              omega arith

  -- a slot has a body or not
  pub some_or : (t : ℕ) → (0 < z t) ⊎ (z t ≡ 0)
  some_or t = ⊎_elim (λ h. inl h) (λ h. inr (omega arith)) (lt-or 0 (z t))

  -- no body starts from p to q
  pub none-step : (p q : ℕ) (w : ℕ → ℕ) → ((t : ℕ) → t < n → w t ≤ z t) → p ≤ q → NoneFrom n a z p q → below n a w q ≡ below n a w p
  none-step p q w v up h = below-same a w n p q up (λ t l j k. one t l j k (some_or t))
    where
      one : (t : ℕ) → t < n → p ≤ a t → a t < q → (0 < z t) ⊎ (z t ≡ 0) → w t ≡ 0
      one t l j k (inl m) = absurd (h.none t l m j k)
      one t l j k (inr m) = omega (arith, v t l)

  module _ (len : ℕ) (laid : Laid n a z len) where
    -- a body that starts within that of s is that of s
    pub same_body : (s t : ℕ) → s < n → t < n → 0 < z s → 0 < z t → a s ≤ a t → a t < a s + z s → s ≡ t
    same_body s t k l x y h j = ⊎_elim (λ e. e) (λ e. absurd (clash e)) (same_or s t)
      where
        clash : (s ≡ t → ⊥) → ⊥
        clash e = omega (arith, laid.apart s t k l x y h e)

    -- a body starts at p: those that start below p end at p or below
    pub ends_before : (p s t : ℕ) → StartsAt n a z p s → t < n → 0 < z t → a t < p → a t + z t ≤ p
    ends_before p s t h l x k =
        let e : a s ≡ p = h.here in
        omega (arith, laid.apart t s l h.low x h.some (omega arith) (λ q. differ q))
      where
        differ : t ≡ s → ⊥
        differ q = omega (arith, ap a q, h.here)

    -- only the body of s starts from p to its end
    alone : (p s p' : ℕ) (w : ℕ → ℕ) → ((t : ℕ) → t < n → w t ≤ z t) → StartsAt n a z p s → p' ≤ p + z s
        → (t : ℕ) → t < n → (t ≡ s → ⊥) → p ≤ a t → a t < p' → w t ≡ 0
    alone p s p' w v h m t l e j k =
        ⊎_elim (λ x. absurd (e (sym (same_body s t h.low l h.some x (omega (arith, h.here)) (omega (arith, h.here))))))
        (λ x. omega (arith, v t l)) (some_or t)

    pub body-step : (p s : ℕ) (w : ℕ → ℕ) → ((t : ℕ) → t < n → w t ≤ z t) → StartsAt n a z p s
        → below n a w (p + z s) ≡ below n a w p + w s
    body-step p s w v h =
        below-body a w n p (p + z s) s h.low h.here (omega (arith, h.some)) (alone p s (p + z s) w v h (omega arith))

    pub body-next : (p s : ℕ) (w : ℕ → ℕ) → ((t : ℕ) → t < n → w t ≤ z t) → StartsAt n a z p s
        → below n a w (p + 1) ≡ below n a w p + w s
    body-next p s w v h =
        below-body a w n p (p + 1) s h.low h.here (omega arith) (alone p s (p + 1) w v h (omega (arith, h.some)))

    -- What lies below p takes no more room than up to e, where all that starts below p ends; k bytes less, where it
    -- takes k less up to some p₀.
    pub climb : (p₀ k d e : ℕ) → below n a z p₀ + k ≤ p₀ → p₀ + d ≤ e
        → ((t : ℕ) → t < n → 0 < z t → a t < p₀ + d → a t + z t ≤ e) → below n a z (p₀ + d) + k ≤ e
    climb p₀ k zero e h l f = rw (add-zero p₀) (omega arith)
    climb p₀ k (suc d) e h l f = go (λ e' x y. climb p₀ k d e' h x y) (start-or (p₀ + d))
      where
        own : (t : ℕ) → t < n → z t ≤ z t
        own t j = omega arith

        next : p₀ + suc d ≡ p₀ + d + 1
        next = omega arith

        go : ((e' : ℕ) → p₀ + d ≤ e' → ((t : ℕ) → t < n → 0 < z t → a t < p₀ + d → a t + z t ≤ e') → below n a z (p₀ + d) + k ≤ e')
            → Start n a z (p₀ + d) → below n a z (p₀ + suc d) + k ≤ e
        go rec (body s b) =
            let i = rec (p₀ + d) (omega arith) (λ t j x y. ends_before (p₀ + d) s t b j x y) in
            let u = f s b.low b.some (omega (arith, b.here)) in
            rw next (omega (arith, body-next (p₀ + d) s z own b, i, u, b.here))
        go rec (none b) =
            let i = rec e (omega arith) (λ t j x y. f t j x (omega arith)) in
            rw next (omega (arith, none-step (p₀ + d) (p₀ + d + 1) z own (omega arith) b, i))

    -- what starts below p takes no more room than up to e, where it ends
    pub climb_all : (p e : ℕ) → p ≤ e → ((t : ℕ) → t < n → 0 < z t → a t < p → a t + z t ≤ e) → below n a z p ≤ e
    climb_all p e l f =
        let c = climb 0 0 p e (omega (arith, below-zero a z n)) (omega arith) (λ t j x y. f t j x (omega arith)) in
        omega (arith, ap (λ (x : ℕ). below n a z x) (zero-add p))

    -- every body starts below the end of the pool
    pub low-start : (w : ℕ → ℕ) → ((t : ℕ) → t < n → w t ≤ z t) → (t : ℕ) → t < n → len ≤ a t → w t ≡ 0
    low-start w v t l h = ⊎_elim (λ x. absurd (out x)) (λ x. omega (arith, v t l)) (some_or t)
      where
        out : 0 < z t → ⊥
        out x = omega (arith, laid.inside t l x)

    pub below_len : (w : ℕ → ℕ) → ((t : ℕ) → t < n → w t ≤ z t) → below n a w len ≡ sum_below n w
    below_len w v = below_all a w n len (low-start w v)

    -- all bodies together fit the pool
    pub all_fit : sum_below n z ≤ len
    all_fit = omega (arith, below_len z (λ t l. omega arith), climb_all len len (omega arith) (λ t l x y. laid.inside t l x))

    -- a body never moves up
    pub packed-low : (s : ℕ) → s < n → 0 < z s → packed_start n a z s ≤ a s
    unfolding packed_start
    packed-low s l x =
        climb_all (a s) (a s) (omega arith) (λ t k y j. ends_before (a s) s t (record { low = l; some = x; here = refl }) k y j)

    -- nor over another: it keeps its place in the order
    pub packed-order : (s t : ℕ) → s < n → a s < a t → packed_start n a z s + z s ≤ packed_start n a z t
    unfolding packed_start
    packed-order s t l h = below-has a z n (a t) s l h

    pub packed-within : (s : ℕ) → s < n → 0 < z s → packed_start n a z s + z s ≤ sum_below n z
    unfolding packed_start
    packed-within s l x =
        omega (arith, below-has a z n len s l (omega (arith, laid.inside s l x)), below_len z (λ t k. omega arith))

    -- after the move the bodies lie in the pool, apart
    pub packed-laid : Laid n (packed_start n a z) z len
    packed-laid = record { inside = λ t l x. omega (arith, packed-within t l x, all_fit); apart = order }
      where
        order : (s t : ℕ) → s < n → t < n → 0 < z s → 0 < z t → packed_start n a z s ≤ packed_start n a z t → (s ≡ t → ⊥)
            → packed_start n a z s + z s ≤ packed_start n a z t
        order s t k l x y h e = ⊎_elim (λ j. packed-order s t k j) (λ j. absurd (up j)) (lt-or (a s) (a t))
          where
            up : a t ≤ a s → ⊥
            up j =
                ⊎_elim (λ i. omega (arith, packed-order t s l i)) (λ i. e (same_body s t k l x y (omega arith) (omega arith)))
                (lt-or (a t) (a s))

    -- afterwards each byte below the sum of all is in a body
    pub covered : (p q : ℕ) → q < below n a z p → Covering n a z q
    unfolding packed_start
    covered zero q h = absurd (omega (arith, below-zero a z n))
    covered (suc p) q h = go (λ x. covered p q x) (start-or p)
      where
        next : suc p ≡ p + 1
        next = omega arith

        go : (q < below n a z p → Covering n a z q) → Start n a z p → Covering n a z q
        go rec (none b) =
            rec (omega (arith, none-step p (p + 1) z (λ t l. omega arith) (omega arith) b, ap (λ (x : ℕ). below n a z x) next))
        go rec (body s b) =
            ⊎_elim (λ j. rec j) (λ j. in_body s b j) (lt-or q (below n a z p))
          where
            in_body : (s : ℕ) → StartsAt n a z p s → below n a z p ≤ q → Covering n a z q
            in_body s b j =
                let e : below n a z (a s) ≡ below n a z p = ap (λ (x : ℕ). below n a z x) b.here in
                covering s b.low (omega arith)
                (omega (arith, body-next p s z (λ t l. omega arith) b, ap (λ (x : ℕ). below n a z x) next))

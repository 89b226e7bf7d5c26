-- The search for the lowest gap of m bytes: what is known at byte p, how a turn goes on, and both answers.
use mathlib.Core.Path.{◌≡◌, sym, ap}
use mathlib.Core.Bool.{false}
use mathlib.Core.Logic.{◌⊎◌, inl, inr, ⊎_elim}
use Prim.Native.Nat.{ℕ, ◌+◌, ◌-◌, ◌<◌, ◌≤◌}
use native.Mathlib.Omega.{arith}
use Rattle.std.specs.Prelude.{Some, None}
use Rattle.laws.proofs.Firsts.{first-at, nothing-below}
use Rattle.laws.proofs.Says.{lt-or}
use Rattle.pool.specs.Laid.{Laid}
use Rattle.pool.specs.Index.{StartsAt}
use Rattle.pool.specs.Gaps.{fits, lowest_gap}
use Rattle.pool.proofs.Apart.{NoneFrom, ends_before, same_body}
use Rattle.pool.proofs.Clears.{fits_is, fits_not}

-- the bytes from `low` to p are a gap that is too short, and none below `low` fits
pub record Searched (n : ℕ) (a z : ℕ → ℕ) (len m p low : ℕ) : Type 0 where
  pub up : low ≤ p
  pub in-pool : p ≤ len
  pub short : p < low + m
  pub ended : (t : ℕ) → t < n → 0 < z t → a t < p → a t + z t ≤ low
  pub lower : (k : ℕ) → k < low → fits n a z m k ≡ false

module _ (n : ℕ) (a z : ℕ → ℕ) (len m : ℕ) where
  pub searched_start : 0 < m → Searched n a z len m 0 0
  searched_start h =
      record {
        up = omega arith;
        in-pool = omega arith;
        short = omega arith;
        ended = λ t l x k. absurd (omega arith);
        lower = λ k l. absurd (omega arith);
      }

  -- no body starts from p to e, and the gap stays too short
  pub searched_gap : (p e low : ℕ) → Searched n a z len m p low → p ≤ e → e ≤ len → NoneFrom n a z p e → e < low + m
      → Searched n a z len m e low
  searched_gap p e low i up h b j =
      record { up = omega (arith, i.up); in-pool = h; short = j; ended = λ t l x k. i.ended t l x (lower t l x k); lower = i.lower }
    where
      lower : (t : ℕ) → t < n → 0 < z t → a t < e → a t < p
      lower t l x k = ⊎_elim (λ y. y) (λ y. absurd (b.none t l x y k)) (lt-or (a t) p)

  -- a body starts at p
  pub searched_body : Laid n a z len → (p low s : ℕ) → Searched n a z len m p low → StartsAt n a z p s → 0 < m
      → Searched n a z len m (p + z s) (p + z s)
  searched_body laid p low s i b h =
      record {
        up = omega arith;
        in-pool = omega (arith, laid.inside s b.low b.some, b.here);
        short = omega arith;
        ended = λ t l x k. ended t l x k;
        lower = λ k l. lower k l (lt-or k low);
      }
    where
      ended : (t : ℕ) → t < n → 0 < z t → a t < p + z s → a t + z t ≤ p + z s
      ended t l x k = ⊎_elim (λ y. omega (arith, ends_before n a z len laid p s t b l x y)) (λ y. same y) (lt-or (a t) p)
        where
          same : p ≤ a t → a t + z t ≤ p + z s
          same y =
              let e : s ≡ t = same_body n a z len laid s t b.low l b.some x (omega (arith, b.here)) (omega (arith, b.here)) in
              omega (arith, ap a e, ap z e, b.here)

      lower : (k : ℕ) → k < p + z s → (k < low) ⊎ (low ≤ k) → fits n a z m k ≡ false
      lower k l (inl y) = i.lower k y
      lower k l (inr y) = fits_not n a z m k s b.low b.some (omega (arith, b.here)) (omega (arith, b.here, i.short))

  -- no body starts from p to e, and the gap is long enough
  pub searched_found : (p e low : ℕ) → Searched n a z len m p low → e ≤ len → NoneFrom n a z p e → low + m ≤ e
      → Some low ≡ lowest_gap n a z len m
  unfolding lowest_gap
  searched_found p e low i h b j =
      sym (first-at (fits n a z m) (len + 1 - m) low (omega (arith, i.short)) (nothing-below (fits n a z m) low i.lower)
      (fits_is n a z m low (λ t l x. side t l x (lt-or (a t) p))))
    where
      side : (t : ℕ) → t < n → 0 < z t → (a t < p) ⊎ (p ≤ a t) → (a t + z t ≤ low) ⊎ (low + m ≤ a t)
      side t l x (inl y) = inl (i.ended t l x y)
      side t l x (inr y) = inr (⊎_elim (λ k. absurd (b.none t l x y k)) (λ k. omega arith) (lt-or (a t) e))

  -- the pool is at its end
  pub searched_none : (p low : ℕ) → Searched n a z len m p low → len ≤ p → None ≡ lowest_gap n a z len m
  unfolding lowest_gap
  searched_none p low i h =
      sym (nothing-below (fits n a z m) (len + 1 - m) (λ k l. i.lower k (omega (arith, i.short, i.in-pool))))

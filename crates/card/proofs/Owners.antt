-- Which body a byte of the pool is in, and what is left of it where bodies are moved down.
use mathlib.Core.Path.{◌≡◌, refl, sym, ◌∙◌}
use mathlib.Core.Bool.{Bool, true, false, cond, false≢true}
use mathlib.Core.List.{List}
use mathlib.Core.Logic.{⊎_elim}
use Prim.Native.Nat.{ℕ, ◌+◌, ◌<◌, ◌≤◌}
use lib.ListN.{length, get_or}
use borrow.Author.Tests.{le-leb, lt-ltb}
use Rattle.std.specs.Prelude.{Option, Some, None}
use Rattle.laws.specs.Walks.{any_below, first_below}
use Rattle.laws.proofs.Walks.{any_at, none_any}
use Rattle.laws.proofs.Firsts.{first_is, no-first}
use Rattle.laws.proofs.Says.{lt-or, and-says, untrue, le-says}
use Rattle.pool.specs.Packed.{holds, owner_of, left_byte, moved_byte, packed_byte, packed_start, packed_pool}
use Rattle.pool.proofs.Pools.{get_or-list}

-- a byte that a body holds or not
pub holds_so : (a z : ℕ → ℕ) (q t : ℕ) → a t ≤ q → q < a t + z t → holds a z q t ≡ true
unfolding holds
holds_so a z q t h k = (and-says _ _).1 (le-leb _ _ h, lt-ltb _ _ k)

pub holds_not : (a z : ℕ → ℕ) (q t : ℕ) → holds a z q t ≡ false → a t ≤ q → a t + z t ≤ q
holds_not a z q t e h = ⊎_elim (λ k. absurd (false≢true (sym e ∙ holds_so a z q t h k))) (λ k. k) (lt-or q (a t + z t))

pub holds-within : (a z : ℕ → ℕ) (q t : ℕ) → holds a z q t ≡ true → (a t ≤ q) × (q < a t + z t)
unfolding holds
holds-within a z q t e = let p = (and-says _ _).0 e in ((le-says _ _).0 p.0, (le-says _ _).0 p.1)

-- by the body that had the byte, if one had
pub by_owner : (n : ℕ) (a z : ℕ → ℕ) (q x old : ℕ) → ((t : ℕ) → t < n → holds a z q t ≡ true → x ≡ 0)
    → (((t : ℕ) → t < n → holds a z q t ≡ false) → x ≡ old) → x ≡ cond (any_below n (holds a z q)) 0 old
by_owner n a z q x old f g = go (first_below n (holds a z q)) refl
  where
    go : (w : Option ℕ) → first_below n (holds a z q) ≡ w → x ≡ cond (any_below n (holds a z q)) 0 old
    go (Some t) e =
        let h = first_is n (holds a z q) t e in
        rw (any_at (holds a z q) n t h.low h.here) (f t h.low h.here)
    go None e =
        let h = no-first n (holds a z q) e in
        rw (none_any (holds a z q) n h.none) (g h.none)

pub none_of : (n : ℕ) (p : ℕ → Bool) → any_below n p ≡ false → (t : ℕ) → t < n → p t ≡ false
none_of n p e t l = untrue _ (λ h. false≢true (sym e ∙ any_at p n t l h))

-- what moving down leaves of such a byte
module _ (n : ℕ) (a z : ℕ → ℕ) (pool : List ℕ) (q : ℕ) (low : q < length pool)
    (free : (t : ℕ) → t < n → holds (packed_start n a z) z q t ≡ false) where
  left : get_or (packed_pool n a z pool) q 0 ≡ left_byte (owner_of n a z q) (get_or pool q 0)
  unfolding packed_pool packed_byte owner_of
  left = get_or-list (length pool) (packed_byte n a z pool) q low ∙ go (first_below n (holds (packed_start n a z) z q)) refl
    where
      go : (w : Option ℕ) → first_below n (holds (packed_start n a z) z q) ≡ w
          → moved_byte a (packed_start n a z) pool q w (first_below n (holds a z q)) ≡ left_byte (first_below n (holds a z q)) (get_or pool q 0)
      go (Some t) e = let h = first_is n (holds (packed_start n a z) z q) t e in absurd (false≢true (sym (free t h.low) ∙ h.here))
      go None e = refl

  pub left-zero : (t : ℕ) → t < n → holds a z q t ≡ true → get_or (packed_pool n a z pool) q 0 ≡ 0
  unfolding owner_of
  left-zero t l h = left ∙ go (first_below n (holds a z q)) refl
    where
      go : (w : Option ℕ) → first_below n (holds a z q) ≡ w → left_byte w (get_or pool q 0) ≡ 0
      go (Some u) e = refl
      go None e = absurd (false≢true (sym ((no-first n (holds a z q) e).none t l) ∙ h))

  pub left-same : ((t : ℕ) → t < n → holds a z q t ≡ false) → get_or (packed_pool n a z pool) q 0 ≡ get_or pool q 0
  unfolding owner_of
  left-same none = left ∙ go (first_below n (holds a z q)) refl
    where
      go : (w : Option ℕ) → first_below n (holds a z q) ≡ w → left_byte w (get_or pool q 0) ≡ get_or pool q 0
      go (Some u) e = let h = first_is n (holds a z q) u e in absurd (false≢true (sym (none u h.low) ∙ h.here))
      go None e = refl

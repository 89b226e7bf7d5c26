-- Room for a new body, as the code asks: the gap that was found, or the moving down; and that the place is free.
use mathlib.Core.Path.{◌≡◌, refl, sym, ap, ◌∙◌}
use mathlib.Core.List.{List}
use mathlib.Core.Bool.{true}
use mathlib.Core.Logic.{◌⊎◌, inl, inr, ⊎_elim}
use Prim.Native.Nat.{ℕ, ◌+◌, ◌-◌, ◌<◌, ◌≤◌}
use native.Mathlib.Omega.{arith}
use lib.ListN.{length, replicate}
use Rattle.std.specs.Prelude.{Option, Some, None}
use Rattle.laws.specs.Lists.{splice}
use Rattle.laws.specs.Walks.{sum_below}
use Rattle.laws.proofs.Firsts.{first_is}
use Rattle.laws.proofs.Sums.{sum_more}
use Rattle.laws.proofs.Says.{same_or}
use Rattle.image.specs.Layout.{Sized}
use Rattle.pool.specs.Bodies.{start_at, body_at}
use Rattle.pool.specs.Laid.{Laid}
use Rattle.pool.specs.Gaps.{fits, lowest_gap}
use Rattle.pool.specs.Packed.{below, moved_bytes, packed_image, packed_pool}
use Rattle.pool.specs.Places.{gap_for, place_at, place_image, Placed}
use Rattle.pool.proofs.Clears.{fits_is, fits_gives}
use Rattle.pool.proofs.Belows.{below-same}
use Rattle.pool.proofs.Apart.{some_or, climb, climb_all, below_len, packed-within}
use Rattle.pool.proofs.After.{after-start, after-size, after-laid}

pub total_more : (z : ℕ → ℕ) (s sum r : ℕ) → sum ≡ sum_below s z → r ≡ z s → sum + r ≡ sum_below (s + 1) z
total_more z s sum r e f = omega (arith, sum_more z s)

pub total-end : (z : ℕ → ℕ) (n s sum : ℕ) → sum ≡ sum_below s z → s ≤ n → n ≤ s → sum ≡ sum_below n z
total-end z n s sum e h k = let q : s ≡ n = omega arith in rw q at e

module _ (n : ℕ) (a z : ℕ → ℕ) (len m p : ℕ) where
  -- a gap that was found lies in the pool, and in no body
  pub gap_room : (g : Option ℕ) → g ≡ lowest_gap n a z len m → g ≡ Some p → p + m ≤ len
  unfolding lowest_gap
  gap_room g e f = let h = first_is (len + 1 - m) (fits n a z m) p (sym e ∙ f) in omega (arith, h.low)

  pub gap_fits : (g : Option ℕ) → g ≡ lowest_gap n a z len m → g ≡ Some p → fits n a z m p ≡ true
  unfolding lowest_gap
  gap_fits g e f = (first_is (len + 1 - m) (fits n a z m) p (sym e ∙ f)).here

module _ (n m : ℕ) (img pool : List ℕ) (g : Option ℕ) (found : g ≡ lowest_gap n (start_at img) (body_at img) (length pool) m) where
  is : gap_for n img (length pool) m ≡ g
  unfolding gap_for
  is = sym found

  pub make_gap : (p : ℕ) → g ≡ Some p → (new : List ℕ) → new ≡ splice pool p (replicate m 255)
      → Placed (gap_for n img (length pool) m) n m img pool (record { start = p; moved = 0 }) img new
  make_gap p e new f = rw (is, e) (record { start = refl; moved = refl; image = refl; bytes = f })

  pub make-packed : g ≡ None → (end moved : ℕ) (new_image middle new : List ℕ) → end ≡ sum_below n (body_at img)
      → moved ≡ moved_bytes n (start_at img) (body_at img)
      → new_image ≡ packed_image n img → middle ≡ packed_pool n (start_at img) (body_at img) pool → new ≡ splice middle end (replicate m 255)
      → Placed (gap_for n img (length pool) m) n m img pool (record { start = end; moved = moved }) new_image new
  make-packed e end moved new_image middle new f h i j k =
      rw (is, e) (record {
        start = f;
        moved = h;
        image = i;
        bytes =
            k ∙ ap (λ (x : List ℕ). splice x end (replicate m 255)) j
            ∙ ap (λ (u : ℕ). splice (packed_pool n (start_at img) (body_at img) pool) u (replicate m 255)) f;
      })

-- A gap that fits is there only where the sum of all sizes leaves the room: with `After.after-gap`, room can be made
-- exactly where it does, whether bodies have to be moved or not
module _ (n : ℕ) (a z : ℕ → ℕ) (len : ℕ) (laid : Laid n a z len) where
  pub fits_sum : (m p : ℕ) → fits n a z m p ≡ true → p + m ≤ len → sum_below n z + m ≤ len
  fits_sum m p free room =
      let c = climb n a z len laid (p + m) m (len - (p + m)) len base (omega arith) (λ t l x h. laid.inside t l x) in
      omega (arith, ap (λ (u : ℕ). below n a z u) rest, below_len n a z len laid z (λ t l. omega arith))
    where
      rest : p + m + (len - (p + m)) ≡ len
      rest = omega arith

      side : (t : ℕ) → t < n → 0 < z t → (a t + z t ≤ p) ⊎ (p + m ≤ a t)
      side t l x = fits_gives n a z m p free t l x

      none : (t : ℕ) → t < n → p ≤ a t → a t < p + m → z t ≡ 0
      none t l h k = ⊎_elim (λ x. ⊎_elim (λ u. absurd (omega arith)) (λ u. absurd (omega arith)) (side t l x)) (λ x. x) (some_or n a z t)

      before : (t : ℕ) → t < n → 0 < z t → a t < p → a t + z t ≤ p
      before t l x h = ⊎_elim (λ u. u) (λ u. absurd (omega arith)) (side t l x)

      base : below n a z (p + m) + m ≤ p + m
      base = omega (arith, below-same a z n p (p + m) (omega arith) none, climb_all n a z len laid p p (omega arith) before)

  pub gap_sum : (m p : ℕ) → lowest_gap n a z len m ≡ Some p → sum_below n z + m ≤ len
  gap_sum m p e = fits_sum m p (gap_fits n a z len m p (Some p) (sym e) refl) (gap_room n a z len m p (Some p) (sym e) refl)

-- The place lies in the pool and in no body of the image afterwards
module _ (n m : ℕ) (img pool : List ℕ) (sized : Sized img n) (laid : Laid n (start_at img) (body_at img) (length pool))
    (room : sum_below n (body_at img) + m ≤ length pool) where
  pub place-room : (g : Option ℕ) → g ≡ lowest_gap n (start_at img) (body_at img) (length pool) m → place_at g n img + m ≤ length pool
  place-room (Some p) e = gap_room n (start_at img) (body_at img) (length pool) m p (Some p) e refl
  place-room None e = room

  pub place-free : (g : Option ℕ) → g ≡ lowest_gap n (start_at img) (body_at img) (length pool) m
      → fits n (start_at (place_image g n img)) (body_at (place_image g n img)) m (place_at g n img) ≡ true
  place-free (Some p) e = gap_fits n (start_at img) (body_at img) (length pool) m p (Some p) e refl
  place-free None e =
      fits_is n (start_at (packed_image n img)) (body_at (packed_image n img)) m (sum_below n (body_at img))
      (λ t l x. inl (low t l (omega (arith, after-size n img pool sized laid t l))))
    where
      low : (t : ℕ) → t < n → 0 < body_at img t → start_at (packed_image n img) t + body_at (packed_image n img) t ≤ sum_below n (body_at img)
      low t l x =
          omega (
            arith,
            after-start n img pool sized laid t l x,
            after-size n img pool sized laid t l,
            packed-within n (start_at img)
                (body_at img) (length pool) laid t l x,
          )

  pub place-laid : (g : Option ℕ) → Laid n (start_at (place_image g n img)) (body_at (place_image g n img)) (length pool)
  place-laid (Some p) = laid
  place-laid None = after-laid n img pool sized laid

-- Bodies come and go: where each body that is left is as it was, all still lie in the pool, apart; and with a new
-- one in a place that was free (a free slot f gets a body of m bytes from p on)
module _ (n : ℕ) (a z b y : ℕ → ℕ) (len : ℕ) (laid : Laid n a z len) where
  pub laid_kept : ((t : ℕ) → t < n → 0 < y t → (a t ≡ b t) × (z t ≡ y t)) → Laid n b y len
  laid_kept f =
      record {
        inside = λ t l x. let h = f t l x in omega (arith, laid.inside t l (omega (arith, h.1)), h.0, h.1);
        apart = λ s t k l x w e d.
            let h = f s k x in
            let i = f t l w in
            omega (arith, laid.apart s t k l (omega (arith, h.1)) (omega (arith, i.1)) (omega (arith, h.0, i.0)) d, h.0, h.1, i.0);
      }

  pub laid_added : (f p m : ℕ) → fits n a z m p ≡ true → p + m ≤ len → b f ≡ p → y f ≡ m
      → ((t : ℕ) → t < n → (t ≡ f → ⊥) → 0 < y t → (a t ≡ b t) × (z t ≡ y t)) → Laid n b y len
  laid_added f p m free room e g old =
      record { inside = λ t l x. inside t l x (same_or t f); apart = λ s t k l x w h d. order s t k l x w h d (same_or s f) (same_or t f) }
    where
      side : (t : ℕ) → t < n → (t ≡ f → ⊥) → 0 < y t → (b t + y t ≤ p) ⊎ (p + m ≤ b t)
      side t l d x =
          let h = old t l d x in
          ⊎_elim (λ u. inl (omega (arith, h.0, h.1))) (λ u. inr (omega (arith, h.0)))
          (fits_gives n a z m p free t l (omega (arith, h.1)))

      inside : (t : ℕ) → t < n → 0 < y t → (t ≡ f) ⊎ (t ≡ f → ⊥) → b t + y t ≤ len
      inside t l x (inl q) = omega (arith, ap b q, ap y q)
      inside t l x (inr q) = let h = old t l q x in omega (arith, laid.inside t l (omega (arith, h.1)), h.0, h.1)

      order : (s t : ℕ) → s < n → t < n → 0 < y s → 0 < y t → b s ≤ b t → (s ≡ t → ⊥) → (s ≡ f) ⊎ (s ≡ f → ⊥) → (t ≡ f) ⊎ (t ≡ f → ⊥)
          → b s + y s ≤ b t
      order s t k l x w h d (inl q) (inl r) = absurd (d (q ∙ sym r))
      order s t k l x w h d (inl q) (inr r) =
          ⊎_elim (λ u. omega (arith, ap b q, ap y q)) (λ u. omega (arith, ap b q, ap y q)) (side t l r w)
      order s t k l x w h d (inr q) (inl r) =
          ⊎_elim (λ u. omega (arith, ap b r, ap y r)) (λ u. omega (arith, ap b r, ap y r)) (side s k q x)
      order s t k l x w h d (inr q) (inr r) =
          let i = old s k q x in
          let j = old t l r w in
          omega (arith, laid.apart s t k l (omega (arith, i.1)) (omega (arith, j.1)) (omega (arith, i.0, j.0)) d, i.0, i.1, j.0)

-- CREATE's part in the pool: how many bytes a new file needs, and what making room, writing the record and setting its
-- start leave together.
use mathlib.Core.Path.{◌≡◌, refl, sym, ap, ◌∙◌}
use mathlib.Core.List.{List}
use mathlib.Core.Bool.{Bool, true, false, not}
use mathlib.Core.Logic.{⊎_elim}
use Prim.Native.Nat.{ℕ, ◌+◌, ◌<◌, ◌≤◌}
use native.Mathlib.Omega.{arith}
use lib.ListN.{length}
use borrow.Author.Tests.{not-true, not-false, eq-eqb, ne_eqb}
use Rattle.std.specs.Prelude.{Option, Some, None}
use Rattle.laws.specs.Walks.{sum_below}
use Rattle.laws.proofs.Says.{lt-or}
use Rattle.image.specs.declared.Head.{Head}
use Rattle.image.specs.Layout.{Sized, Within, has_bodies, longest_rule, version_of, count_of, set_start}
use Rattle.image.proofs.Headers.{SameHeader, same_front, same_version}
use Rattle.pool.specs.declared.Room.{Room}
use Rattle.pool.specs.Bodies.{start_at, body_at}
use Rattle.pool.specs.Laid.{Laid}
use Rattle.pool.specs.Places.{gap_for, place_image, Placed}
use Rattle.pool.proofs.Making.{place-room}
use Rattle.pool.proofs.After.{after-head}
use Rattle.sound.specs.Effects.{created, new_body, new_gap, made, filled}
use Rattle.effect.specs.Fit.{Roomy}

-- r is whether the version has bodies
module _ (v : ℕ) (h : Head) (r : Bool) (e : r ≡ has_bodies v) where
  pub body-never : not r ≡ true → 0 ≡ new_body v h
  unfolding new_body
  body-never t = rw (sym e ∙ not-true r t)

  pub body-other : not r ≡ false → (h.kind ≡ 2 → ⊥) → 0 ≡ new_body v h
  unfolding new_body
  body-other t f = rw (sym e ∙ not-false r t, ne_eqb h.kind 2 f)

  pub body-ef : not r ≡ false → h.kind ≡ 2 → h.size ≡ new_body v h
  unfolding new_body
  body-ef t f = rw (sym e ∙ not-false r t, eq-eqb h.kind 2 f)

-- moving down or not, the header stays
same_head : (n : ℕ) (img pool : List ℕ) → Sized img n → Laid n (start_at img) (body_at img) (length pool)
    → (g : Option ℕ) → SameHeader img (place_image g n img)
same_head n img pool sized laid (Some p) = record { long = refl; bytes = λ k l. refl }
same_head n img pool sized laid None = after-head n img pool sized laid

-- m is the count that was asked for, by the version that was read
module _ (n v m : ℕ) (img pool : List ℕ) (h : Head) (count : n ≡ count_of img) (known : v ≡ version_of img) (size : m ≡ new_body v h) where
  same : new_body (version_of img) h ≡ m
  same = sym (size ∙ ap (λ (x : ℕ). new_body x h) known)

  -- without a body
  module _ (z : m ≡ 0) where
    pub made_bodiless : (s : ℕ) (name rule y : List ℕ) → y ≡ created img s h name rule → y ≡ made img s h name rule
    unfolding made
    made_bodiless s name rule y f = rw (eq-eqb (new_body (version_of img) h) 0 (same ∙ z)) f

    pub filled_bodiless : pool ≡ filled img pool h
    unfolding filled
    filled_bodiless = rw (eq-eqb (new_body (version_of img) h) 0 (same ∙ z))

  -- with one
  module _ (sized : Sized img n) (laid : Laid n (start_at img) (body_at img) (length pool)) (roomy : Roomy img pool h) (z : m ≡ 0 → ⊥) where
    some : 0 < m
    some = ⊎_elim (λ x. x) (λ x. absurd (z (omega arith))) (lt-or 0 m)

    asked : 0 < new_body (version_of img) h
    asked = rw same some

    short : length pool < 65536
    short = roomy.short asked

    room : sum_below n (body_at img) + m ≤ length pool
    room = rw (count, sym same) (roomy.room asked)

    pub make-fits : (Sized img n × ((length pool < 65536) × (0 < m)))
        × (Laid n (start_at img) (body_at img) (length pool) × (sum_below n (body_at img) + m ≤ length pool))
    make-fits = ((sized, (short, some)), (laid, room))

    gap : new_gap img h ≡ gap_for n img (length pool) m
    unfolding new_gap
    gap = rw (same, ← count, ← roomy.long asked)

    -- r is where the room was made, x and y are image and pool after it
    module _ (r : Room) (x y : List ℕ) (placed : Placed (gap_for n img (length pool) m) n m img pool r x y) where
      head : SameHeader img x
      head = rw placed.image (same_head n img pool sized laid (gap_for n img (length pool) m))

      -- .. which still has slot s, and fields as long for a name and a rule
      pub enter_fits : (s name rule : ℕ) → Within img s → (name ≤ 16) × (rule ≤ longest_rule (version_of img))
          → Within x s × ((name ≤ 16) × (rule ≤ longest_rule (version_of x)))
      enter_fits s name rule w l =
          (omega (arith, head.long, w), (l.0, rw (same_version img x (same_front img x head)) l.1))

      pub start-low : r.start < 65536
      unfolding gap_for
      start-low =
          omega (arith, placed.start, place-room n m img pool sized laid room (gap_for n img (length pool) m) refl, short)

      pub made_bodied : (s : ℕ) (name rule u w : List ℕ) → u ≡ created x s h name rule → w ≡ set_start u s r.start
          → w ≡ made img s h name rule
      unfolding made
      made_bodied s name rule u w f g =
          rw (ne_eqb (new_body (version_of img) h) 0 (λ t. z (sym same ∙ t)), gap, ← count, ← placed.image, ← placed.start, ← f) g

      pub filled_bodied : y ≡ filled img pool h
      unfolding filled
      filled_bodied = rw (ne_eqb (new_body (version_of img) h) 0 (λ t. z (sym same ∙ t)), gap, ← count, same) placed.bytes

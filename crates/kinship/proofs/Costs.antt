-- What a file costs a directory, by whether it is its child; the sum of it over the slots passed.
use mathlib.Core.Path.{◌≡◌, sym, ap, ◌∙◌}
use mathlib.Core.Bool.{Bool, true, false, not}
use mathlib.Core.List.{List}
use Prim.Native.Nat.{ℕ, ◌+◌, ◌-◌, ◌≤◌}
use native.Mathlib.Omega.{arith}
use lib.Dec.{leb}
use borrow.Author.Tests.{not-true, not-false}
use Rattle.laws.specs.Walks.{sum_below}
use Rattle.laws.proofs.Sums.{sum-start, sum_more}
use Rattle.sound.specs.Table.{view_at, charge_of, charged}
use Rattle.sound.specs.Kinship.{is_child, room_for, total_for, fits_room}

module _ (img : List ℕ) (d s : ℕ) (r : Bool) (e : r ≡ is_child (view_at img) d s) where
  pub costs_nothing : not r ≡ true → 0 ≡ charge_of d s (view_at img s)
  unfolding charge_of is_child
  costs_nothing t = rw (sym e ∙ not-true r t)

  pub costs_size : (z : ℕ) → not r ≡ false → z ≡ (view_at img s).size → z + 64 ≡ charge_of d s (view_at img s)
  unfolding charge_of is_child
  costs_size z t f = rw (sym e ∙ not-false r t, f)

-- what the files below slot s cost directory d
unfoldable pub charged_below : List ℕ → ℕ → ℕ → ℕ
charged_below img d s = sum_below s (λ k. charge_of d k (view_at img k))

pub charged-start : (img : List ℕ) (d : ℕ) → 0 ≡ charged_below img d 0
unfolding charged_below
charged-start img d = sym (sum-start _)

pub charged_more :
    (img : List ℕ) (d s sum z : ℕ) → sum ≡ charged_below img d s → z ≡ charge_of d s (view_at img s) → sum + z ≡ charged_below img d (s + 1)
unfolding charged_below
charged_more img d s sum z e f = omega (arith, sum_more (λ k. charge_of d k (view_at img k)) s)

pub charged-end : (img : List ℕ) (n d s sum : ℕ) → s ≤ n → n ≤ s → sum ≡ charged_below img d s → sum ≡ charged n (view_at img) d
unfolding charged_below charged
charged-end img n d s sum a b e = let q : s ≡ n = omega arith in e ∙ ap (λ (k : ℕ). sum_below k (λ k. charge_of d k (view_at img k))) q

-- the room: total less charge
pub room_is : (img : List ℕ) (n d total charge : ℕ) → total ≡ (view_at img d).size → charge ≡ charged n (view_at img) d
    → total - charge ≡ room_for n (view_at img) d
unfolding room_for total_for
room_is img n d total charge e f = rw (e, f)

pub fits_is : (img : List ℕ) (n d size room : ℕ) → room ≡ room_for n (view_at img) d → leb (size + 64) room ≡ fits_room n (view_at img) d size
unfolding fits_room
fits_is img n d size room e = ap (λ (z : ℕ). leb (size + 64) z) e

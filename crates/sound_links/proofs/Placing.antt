-- One law for each way out of `placed_at`: what was read and answered stands in it as plain numbers.
use mathlib.Core.Path.{◌≡◌}
use mathlib.Core.Bool.{Bool, true, false, not}
use mathlib.Core.List.{List}
use Prim.Native.Nat.{ℕ, ◌+◌, ◌<◌, ◌≤◌}
use lib.Dec.{eqb}
use borrow.Author.Tests.{eq-eqb, ne_eqb, lt-ltb, le-ltb}
use Rattle.laws.proofs.Chains.{implies-no, implies-yes}
use Rattle.image.specs.Layout.{rec_at, kind_of, parent_of, level_of}
use Rattle.sound.specs.Table.{view_at, is_file}
use Rattle.sound.specs.Kin.{placed_at}
use Rattle.kinship.proofs.Files.{no-file, a_file}

module _ (img : List ℕ) (s : ℕ) (f : Bool) (e : f ≡ is_file (view_at img) s) where
  module _ (n : ℕ) where
    pub placed-free : not f ≡ true → true ≡ placed_at n (view_at img) s
    unfolding placed_at
    placed-free t = implies-no _ _ (no-file img s f e t)

    module _ (t : not f ≡ false) (p : ℕ) (q : p ≡ parent_of (rec_at img s)) where
      pub placed-high : n ≤ p → false ≡ placed_at n (view_at img) s
      unfolding placed_at
      placed-high h = implies-yes _ _ _ (a_file img s f e t) (rw (← q, le-ltb p n h))

      pub placed-kind : (k : ℕ) → p < n → k ≡ kind_of (rec_at img p) → (k ≡ 1 → ⊥) → false ≡ placed_at n (view_at img) s
      unfolding placed_at
      placed-kind k l g h = implies-yes _ _ _ (a_file img s f e t) (rw (← q, lt-ltb p n l, ← g, ne_eqb k 1 h))

      pub placed-last :
          (k a b : ℕ) (x : Bool) → p < n → k ≡ kind_of (rec_at img p) → k ≡ 1 → a ≡ level_of (rec_at img s) → b ≡ level_of (rec_at img p)
          → x ≡ eqb a (b + 1) → x ≡ placed_at n (view_at img) s
      unfolding placed_at
      placed-last k a b x l g h i j y = implies-yes _ _ _ (a_file img s f e t) (rw (← q, lt-ltb p n l, ← g, eq-eqb k 1 h, ← i, ← j) y)

-- One law for each way out of the functions that look at the root and at what is current: what was read and answered
-- stands in it as plain numbers.
use mathlib.Core.Path.{◌≡◌, ◌∙◌, ap}
use mathlib.Core.Bool.{Bool, true, false}
use mathlib.Core.List.{List}
use Prim.Native.Nat.{ℕ, ◌<◌, ◌≤◌}
use lib.Dec.{eqb, leb}
use borrow.Author.Tests.{eq-eqb, ne_eqb, lt-ltb, le-ltb}
use Rattle.laws.specs.Tests.{implies}
use Rattle.image.specs.Layout.{rec_at, kind_of, parent_of, current_df_of, current_ef_of}
use Rattle.sound.specs.Table.{view_at}
use Rattle.sound.specs.Sound.{currentb}

pub le-last : (z a b : ℕ) {x : Bool} → z ≡ a → x ≡ leb z b → x ≡ leb a b
le-last z a b e h = h ∙ ap (λ (y : ℕ). leb y b) e

-- what is current
module _ (img : List ℕ) (n df : ℕ) (e : df ≡ current_df_of img) where
  pub current-high : n ≤ df → false ≡ currentb n (view_at img) (current_df_of img) (current_ef_of img)
  unfolding currentb
  current-high h = rw (← e, le-ltb df n h)

  module _ (l : df < n) (k : ℕ) (g : k ≡ kind_of (rec_at img df)) where
    pub current-kind : (k ≡ 1 → ⊥) → false ≡ currentb n (view_at img) (current_df_of img) (current_ef_of img)
    unfolding currentb
    current-kind h = rw (← e, lt-ltb df n l, ← g, ne_eqb k 1 h)

    module _ (h : k ≡ 1) (ef : ℕ) (q : ef ≡ current_ef_of img) where
      pub current-none : ef ≡ 0xFFFF → true ≡ currentb n (view_at img) (current_df_of img) (current_ef_of img)
      unfolding currentb implies
      current-none z = rw (← e, lt-ltb df n l, ← g, eq-eqb k 1 h, ← q, eq-eqb ef 0xFFFF z)

      module _ (z : ef ≡ 0xFFFF → ⊥) where
        pub current_far : n ≤ ef → false ≡ currentb n (view_at img) (current_df_of img) (current_ef_of img)
        unfolding currentb implies
        current_far y = rw (← e, lt-ltb df n l, ← g, eq-eqb k 1 h, ← q, ne_eqb ef 0xFFFF z, le-ltb ef n y)

        module _ (y : ef < n) (m : ℕ) (j : m ≡ kind_of (rec_at img ef)) where
          pub current-other : (m ≡ 2 → ⊥) → false ≡ currentb n (view_at img) (current_df_of img) (current_ef_of img)
          unfolding currentb implies
          current-other w = rw (← e, lt-ltb df n l, ← g, eq-eqb k 1 h, ← q, ne_eqb ef 0xFFFF z, lt-ltb ef n y, ← j, ne_eqb m 2 w)

          pub current-last : m ≡ 2 → (p : ℕ) (x : Bool) → p ≡ parent_of (rec_at img ef) → x ≡ eqb p df
              → x ≡ currentb n (view_at img) (current_df_of img) (current_ef_of img)
          unfolding currentb implies
          current-last w p x o v =
              rw (← e, lt-ltb df n l, ← g, eq-eqb k 1 h, ← q, ne_eqb ef 0xFFFF z, lt-ltb ef n y, ← j, eq-eqb m 2 w, ← o) v

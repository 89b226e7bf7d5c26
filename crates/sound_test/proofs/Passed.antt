-- What a test that passed tells: a good header the image's size, the parts `kinb`, `soundb` the record `Sound`.
use mathlib.Core.Path.{◌≡◌, sym, ◌∙◌}
use mathlib.Core.Bool.{Bool, true, false, not}
use mathlib.Core.List.{List}
use Prim.Native.Nat.{ℕ, ◌≤◌}
use native.Mathlib.Omega.{arith}
use lib.ListN.{length}
use borrow.Author.Tests.{not-true, not-false}
use Rattle.image.specs.Layout.{Sized, count_of, current_df_of, current_ef_of}
use Rattle.sound.specs.Table.{View, view_at}
use Rattle.sound.specs.Kin.{rootb, namesb, kinb}
use Rattle.sound.specs.Sound.{Header, headerb, recordsb, currentb, bodiesb, Sound, soundb}
use Rattle.sound.proofs.Says.{header-says, sound-says}
use Rattle.kinship.proofs.Sound.{sized_by}
use Rattle.sound_links.specs.Linked.{linkedb}
use Rattle.sound_links.proofs.Linking.{linked_names}

pub passed : (r b : Bool) → r ≡ b → not r ≡ false → b ≡ true
passed r b e t = sym e ∙ not-false r t

-- what holds between records: the root, the two walks, the names
module _ (n : ℕ) (v : ℕ → View) (a : Bool) (e : a ≡ rootb n v) where
  pub kin-root : not a ≡ true → false ≡ kinb n v
  kin-root t = rw (linked_names n v, ← e, not-true a t)

  module _ (t : not a ≡ false) (b : Bool) (f : b ≡ linkedb n v) where
    pub kin_linked : not b ≡ true → false ≡ kinb n v
    kin_linked u = rw (linked_names n v, ← e, not-false a t, ← f, not-true b u)

    pub kin-last : not b ≡ false → (x : Bool) → x ≡ namesb n v → x ≡ kinb n v
    kin-last u x g = rw (linked_names n v, ← e, not-false a t, ← f, not-false b u) g

pub sound_passed : (img : List ℕ) (r : Bool) → r ≡ soundb img → not r ≡ false → Sound img
sound_passed img r e t = (sound-says img).0 (passed r (soundb img) e t)

module _ (img : List ℕ) (h : Bool) (e : h ≡ headerb img) (t : not h ≡ false) where
  good-header : Header img
  good-header = (header-says img).0 (sym e ∙ not-false h t)

  pub header-some : 16 ≤ length img
  header-some = omega (arith, good-header.long)

  module _ (n : ℕ) (f : n ≡ count_of img) where
    pub header-sized : Sized img n
    header-sized = rw f (sized_by img good-header)

    module _ (r : Bool) (g : r ≡ recordsb img n) where
      pub sound-records : not r ≡ true → false ≡ soundb img
      unfolding soundb
      sound-records u = rw (← e, not-false h t, ← f, ← g, not-true r u)

      module _ (u : not r ≡ false) (k : Bool) (i : k ≡ kinb n (view_at img)) where
        pub sound-kin : not k ≡ true → false ≡ soundb img
        unfolding soundb
        sound-kin w = rw (← e, not-false h t, ← f, ← g, not-false r u, ← i, not-true k w)

        module _ (w : not k ≡ false) (y : Bool) (j : y ≡ currentb n (view_at img) (current_df_of img) (current_ef_of img)) where
          pub sound-current : not y ≡ true → false ≡ soundb img
          unfolding soundb
          sound-current o = rw (← e, not-false h t, ← f, ← g, not-false r u, ← i, not-false k w, ← j, not-true y o)

          pub sound-last : not y ≡ false → (x : Bool) → x ≡ bodiesb img → x ≡ soundb img
          unfolding soundb
          sound-last o x z = rw (← e, not-false h t, ← f, ← g, not-false r u, ← i, not-false k w, ← j, not-false y o) z

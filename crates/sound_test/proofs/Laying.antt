-- One law for each way out of the test of where bodies lie, and that the pool, as long as the total of a good root, is short.
use mathlib.Core.Path.{◌≡◌, sym, ap, ◌∙◌}
use mathlib.Core.Bool.{Bool, true, not}
use mathlib.Core.List.{List}
use Prim.Native.Nat.{ℕ, ◌<◌}
use native.Mathlib.Omega.{arith}
use borrow.Author.Tests.{not-true}
use Rattle.image.specs.Layout.{Sized, has_bodies, version_of, count_of, rec_at, size_of}
use Rattle.pool.specs.Bodies.{start_at, body_of, body_at}
use Rattle.pool.specs.Laid.{laid}
use Rattle.pool.proofs.Clears.{laid_is}
use Rattle.sound.specs.Table.{view_at}
use Rattle.sound.specs.Kin.{kinb}
use Rattle.sound.specs.Sound.{pool_length, bodiesb}
use Rattle.sound.proofs.Says.{kin-says}

-- v is the version that was read, b whether it has bodies
module _ (img : List ℕ) (v : ℕ) (b : Bool) (read : v ≡ version_of img) (asked : b ≡ has_bodies v) (e : not b ≡ true) where
  body-none : (s : ℕ) → body_at img s ≡ 0
  unfolding body_at body_of
  body-none s = rw (sym (ap has_bodies read) ∙ sym asked ∙ not-true b e)

  -- where no slot has a body, none leaves the pool and no two meet
  pub bodies_older : true ≡ bodiesb img
  unfolding bodiesb
  bodies_older =
      sym (laid_is (count_of img) (start_at img) (body_at img) (pool_length img) (record {
        inside = λ t l x. omega (arith, body-none t);
        apart = λ s t k l x y h d. omega (arith, body-none s);
      }))

-- n is how many records there are, z the root's total
module _ (img : List ℕ) (n z : ℕ) (size : z ≡ size_of (rec_at img 0)) where
  pub pool-short : Sized img n → kinb n (view_at img) ≡ true → z < 65536
  pool-short sized kin = omega (arith, sized.most, ((kin-says n (view_at img)).0 kin).root-size)

  pub bodies-laid : n ≡ count_of img → (x : Bool) → x ≡ laid n (start_at img) (body_at img) z → x ≡ bodiesb img
  unfolding bodiesb
  bodies-laid count x h = rw (← count, ← size) h

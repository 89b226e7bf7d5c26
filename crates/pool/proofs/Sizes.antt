-- The size of a body as its code reads it: a law for each way out.
use mathlib.Core.Path.{◌≡◌, sym, ap, ◌∙◌}
use mathlib.Core.List.{List}
use mathlib.Core.Bool.{Bool, true, false, not}
use Prim.Native.Nat.{ℕ}
use borrow.Author.Tests.{eq-eqb, ne_eqb, not-true, not-false}
use Rattle.rules.specs.Descriptor.{ef}
use Rattle.image.specs.Layout.{has_bodies, version_of, rec_at, kind_of, size_of}
use Rattle.pool.specs.Bodies.{body_of, body_at}

-- v is the version that was read, b whether it has bodies, k the kind
module _ (img : List ℕ) (s v : ℕ) (b : Bool) (read : v ≡ version_of img) (asked : b ≡ has_bodies v) where
  pub size_older : not b ≡ true → 0 ≡ body_at img s
  unfolding body_at body_of
  size_older e = rw (sym (ap has_bodies read) ∙ sym asked ∙ not-true b e)

  module _ (has : not b ≡ false) (k : ℕ) (kind : k ≡ kind_of (rec_at img s)) where
    bodies : has_bodies (version_of img) ≡ true
    bodies = sym (ap has_bodies read) ∙ sym asked ∙ not-false b has

    pub size_none : (k ≡ ef → ⊥) → 0 ≡ body_at img s
    unfolding body_at body_of
    size_none h = rw (bodies, ne_eqb (kind_of (rec_at img s)) ef (λ q. h (kind ∙ q)))

    pub size-some : k ≡ ef → (r : ℕ) → r ≡ size_of (rec_at img s) → r ≡ body_at img s
    unfolding body_at body_of
    size-some h r f = rw (bodies, eq-eqb (kind_of (rec_at img s)) ef (sym kind ∙ h)) f

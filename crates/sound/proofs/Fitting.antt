-- Who has room for a file has pool for its body, `body-fits`, from exactly what CREATE checks; and a file without a body joins as before.
use mathlib.Core.Path.{◌≡◌, ap}
use mathlib.Core.List.{List}
use mathlib.Core.Logic.{◌⊎◌, inl, inr}
use Prim.Native.Nat.{ℕ, ◌+◌, ◌<◌, ◌≤◌}
use native.Mathlib.Omega.{arith}
use Rattle.laws.specs.Walks.{sum_below}
use Rattle.laws.proofs.Sums.{sum_change}
use Rattle.laws.proofs.Says.{same_or}
use Rattle.image.specs.declared.Head.{Head}
use Rattle.image.specs.Layout.{version_of, count_of, rec_at, kind_of}
use Rattle.pool.specs.Bodies.{start_at, body_at}
use Rattle.sound.specs.Table.{View, view_of}
use Rattle.sound.specs.Sound.{Sound, pool_length}
use Rattle.sound.specs.Effects.{Creates, created, new_body}
use Rattle.sound.proofs.Front.{files-sound, bodies_kept, body_same}
use Rattle.sound.proofs.Created.{files-created, slot-low, slot-free, count-created, version-created, created-here, created-other}
use Rattle.sound.proofs.Bodied.{body-none, bodies-within}
use Rattle.sound.proofs.MovedDown.{body-made}

module _ (img : List ℕ) (s : ℕ) (h : Head) (name rule : List ℕ) (sound : Sound img) (c : Creates img s h name rule) where
  new : List ℕ
  new = created img s h name rule

  -- slot 0 is the root's, so it is not the new one
  pub not_root : 0 ≡ s → ⊥
  not_root e = omega (arith, sound.kin.root-kind, slot-free img s h name rule sound c, ap (λ (x : ℕ). kind_of (rec_at img x)) e)

  long : pool_length new ≡ pool_length img
  unfolding new
  long = ap (λ (x : View). x.size) (ap view_of (created-other img s h name rule sound c 0 (omega (arith, sound.header.least)) not_root))

  body-here : body_at new s ≡ new_body (version_of img) h
  unfolding new body_at
  body-here = rw (version-created img s h name rule sound c, created-here img s h name rule sound c) (body-made (version_of img) h name rule)

  body-there : (t : ℕ) → t < count_of img → (t ≡ s → ⊥) → (start_at img t ≡ start_at new t) × (body_at img t ≡ body_at new t)
  unfolding new
  body-there t l z = body_same img (created img s h name rule) t (version-created img s h name rule sound c)
      (created-other img s h name rule sound c t l z)

  -- a slot that is free has no body
  free-none : body_at img s ≡ 0
  unfolding body_at
  free-none = body-none (version_of img) (rec_at img s) (λ e. omega (arith, slot-free img s h name rule sound c))

  -- the pool has room for the new body beside all others
  pub body-fits : sum_below (count_of img) (body_at img) + new_body (version_of img) h ≤ pool_length img
  unfolding new
  body-fits =
      let low = slot-low img s h name rule sound c in
      let all = rw (count-created img s h name rule sound c) at (bodies-within new (files-created img s h name rule sound c)) in
      omega (
        arith,
        all,
        long,
        sum_change (count_of img) (body_at img) (body_at new) s low (λ t l z. (body-there t l z).1),
        free-none,
        body-here,
      )

  -- where the new file has no body
  pub sound_bodiless : new_body (version_of img) h ≡ 0 → Sound (created img s h name rule)
  unfolding new
  sound_bodiless e =
      files-sound (created img s h name rule) (files-created img s h name rule sound c)
      (bodies_kept img (created img s h name rule) sound (count-created img s h name rule sound c) long (λ t l x. go t l x (same_or t s)))
    where
      go : (t : ℕ) → t < count_of img → 0 < body_at new t → (t ≡ s) ⊎ (t ≡ s → ⊥)
          → (start_at img t ≡ start_at new t) × (body_at img t ≡ body_at new t)
      go t l x (inr z) = body-there t l z
      go t l x (inl q) = absurd (omega (arith, body-here, ap (body_at new) q))

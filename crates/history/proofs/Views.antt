-- What the records say after CREATE: the new one what its head says, every other what it said, since no view holds the start of a body.
use mathlib.Core.Path.{◌≡◌, refl, ◌∙◌}
use mathlib.Core.List.{List}
use Prim.Native.Nat.{ℕ, ◌<◌}
use native.Mathlib.Omega.{arith}
use lib.Dec.{eqb, ltb}
use lib.ListN.{length, get_or}
use borrow.Author.Tests.{ltb-true}
use Rattle.std.specs.Prelude.{Option, Some, None}
use Rattle.image.specs.declared.Head.{Head}
use Rattle.image.specs.Layout.{version_of, count_of, rec_at, record_bytes, with_start}
use Rattle.image.proofs.Made.{length-made, name-length-made}
use Rattle.image.proofs.Places.{length_record}
use Rattle.image.proofs.Starts.{kind-kept, identifier-kept, parent-kept, level-kept, size-kept, name-kept}
use Rattle.access.proofs.Fits.{fits-short}
use Rattle.pool.specs.Bodies.{body_of, body_at}
use Rattle.sound.specs.Own.{Used}
use Rattle.sound.specs.Table.{view_at, view_of}
use Rattle.sound.specs.Sound.{Sound}
use Rattle.sound.specs.Effects.{Creates, new_body, new_gap, new_bytes, kept_record, other_record}
use Rattle.sound.proofs.Front.{sound-within}
use Rattle.sound.proofs.NewRecords.{view_made, view_made_lem}
use Rattle.sound.proofs.Started.{bodied, has-ef, view_started}
use Rattle.card.proofs.Steps.{cond_by}

-- the six fields stand below the start
view_start : (r : List ℕ) (x : ℕ) → length r ≡ 64 → get_or r 16 0 < 17 → view_of (with_start r x) ≡ view_of r
view_start r x whole short =
    rw (
      kind-kept r x whole,
      identifier-kept r x whole,
      parent-kept r x whole,
      level-kept r x whole,
      size-kept r x whole,
      name-kept r x whole (omega arith),
    )

pub view_new : (img : List ℕ) (s : ℕ) (h : Head) (name rule : List ℕ) → Creates img s h name rule
    → view_of (new_bytes img h name rule) ≡ view_made h name
unfolding new_bytes
view_new img s h name rule k =
    cond_by (λ (r : List ℕ). view_of r ≡ view_made h name) (eqb (new_body (version_of img) h) 0) _ _ (λ q. written)
    (λ q. view_start (record_bytes (version_of img) h name rule) _
    (length-made (version_of img) h name rule k.good.name-short (fits-short (version_of img) h.form rule k.good.formed))
    (omega (arith, name-length-made (version_of img) h name rule k.good.name-short, k.good.name-short)) ∙ written)
  where
    written : view_of (record_bytes (version_of img) h name rule) ≡ view_made h name
    written = view_made_lem (version_of img) h name rule

pub view_other : (img : List ℕ) (h : Head) → Sound img → (t : ℕ) → t < count_of img → view_of (other_record img h t) ≡ view_at img t
unfolding other_record
view_other img h sound t l =
    cond_by (λ (r : List ℕ). view_of r ≡ view_at img t) (eqb (new_body (version_of img) h) 0) _ _ (λ q. refl) (λ q. kept (new_gap img h))
  where
    used : 0 < body_of (version_of img) (rec_at img t) → Used (version_of img) (rec_at img t)
    used x = (sound.records t l).used (λ e. omega (arith, has-ef (version_of img) (rec_at img t) (bodied (version_of img) (rec_at img t) x)))

    kept : (g : Option ℕ) → view_of (kept_record g img t) ≡ view_at img t
    kept (Some p) = unfold kept_record in refl
    kept None = unfold kept_record in cond_by (λ (r : List ℕ). view_of r ≡ view_at img t) (ltb 0 (body_at img t)) _ _
        (λ q. let x : 0 < body_of (version_of img) (rec_at img t) = unfold body_at in ltb-true 0 _ q in
        view_started (version_of img) (rec_at img t) _ (length_record img t (sound-within img sound t l).0) (used x)
        (bodied (version_of img) (rec_at img t) x))
        (λ q. refl)

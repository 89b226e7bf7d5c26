-- The image that a new record goes into (02 Ticket 4): where no gap is long enough, bodies are moved down, and nothing but starts differs.
use mathlib.Core.Path.{◌≡◌, refl, ap}
use mathlib.Core.List.{List}
use mathlib.Core.Bool.{cond}
use mathlib.Core.Logic.{◌⊎◌, inl, inr}
use Prim.Native.Nat.{ℕ, ◌<◌, ◌≤◌}
use native.Mathlib.Omega.{arith}
use lib.Dec.{ltb}
use lib.ListN.{length, replicate, length-replicate}
use borrow.Author.Tests.{lt-ltb, le-ltb}
use Rattle.std.specs.Prelude.{Option, Some, None}
use Rattle.laws.proofs.Says.{lt-or}
use Rattle.image.specs.declared.Head.{Head}
use Rattle.image.specs.Layout.{Sized, version_of, count_of, rec_at}
use Rattle.image.specs.Layout.{record_bytes, with_start}
use Rattle.image.proofs.Made.{kind-made, size-made}
use Rattle.image.proofs.Headers.{SameHeader, same_front, same_count}
use Rattle.pool.specs.Bodies.{body_of, start_at, body_at}
use Rattle.pool.specs.Laid.{Laid}
use Rattle.pool.specs.Packed.{packed_start, packed_image}
use Rattle.pool.specs.Places.{place_image}
use Rattle.pool.proofs.Making.{place-laid}
use Rattle.pool.proofs.After.{after_record, after-other, after-head}
use Rattle.sound.specs.Table.{View, view_at}
use Rattle.sound.specs.Sound.{Sound, pool_length}
use Rattle.sound.specs.Effects.{new_body, kept_record}
use Rattle.sound.proofs.Front.{Files, sound-files, files-sound, sound-sized}
use Rattle.sound.proofs.Started.{Again, stays, moved, Restarted, files_restarted, table_restarted}
use Rattle.sound.proofs.Bodied.{bodies-within}

-- the new record has the new body
pub body-made : (v : ℕ) (h : Head) (name rule : List ℕ) → body_of v (record_bytes v h name rule) ≡ new_body v h
unfolding body_of new_body
body-made v h name rule = rw (kind-made v h name rule, size-made v h name rule)

-- an image after moving down: nothing but starts differs
pub packed_restarted : (img : List ℕ) → Sound img → Restarted img (packed_image (count_of img) img)
packed_restarted img sound = record {
  header = after-head (count_of img) img pool sized laid;
  records = λ t l. go t l (lt-or 0 (body_at img t));
}
  where
    pool : List ℕ
    pool = replicate (pool_length img) 0

    sized : Sized img (count_of img)
    sized = sound-sized img sound

    laid : Laid (count_of img) (start_at img) (body_at img) (length pool)
    laid = rw (length-replicate {A = ℕ} (pool_length img) 0) sound.bodies

    go : (t : ℕ) → t < count_of img → (0 < body_at img t) ⊎ (body_at img t ≤ 0)
        → Again (version_of img) (rec_at img t) (rec_at (packed_image (count_of img) img) t)
    go t l (inl x) = moved (unfold body_at in x) (packed_start (count_of img) (start_at img) (body_at img) t) (after_record (count_of img) img pool sized laid t l x)
    go t l (inr x) = stays (after-other (count_of img) img pool sized laid t l (omega arith))

-- the image that a new record goes into: a sound one, with the table of the old
pub record Cleared (a b : List ℕ) : Type 0 where
  pub sound : Sound b
  pub header : SameHeader a b
  pub table : view_at b ≡ view_at a

module _ (img : List ℕ) (sound : Sound img) where
  pub cleared : (g : Option ℕ) → Cleared img (place_image g (count_of img) img)
  cleared (Some p) = record { sound = sound; header = record { long = refl; bytes = λ k l. refl }; table = refl }
  cleared None = record {
    sound = files-sound (packed_image (count_of img) img) files (rw (count, long) laid);
    header = after.header;
    table = table;
  }
    where
      after : Restarted img (packed_image (count_of img) img)
      after = packed_restarted img sound

      files : Files (packed_image (count_of img) img)
      files = files_restarted img (packed_image (count_of img) img) (sound-files img sound) after

      table : view_at (packed_image (count_of img) img) ≡ view_at img
      table = table_restarted img (packed_image (count_of img) img) (sound-files img sound) after

      count : count_of (packed_image (count_of img) img) ≡ count_of img
      count = same_count img (packed_image (count_of img) img) (same_front img (packed_image (count_of img) img) after.header)

      long : pool_length (packed_image (count_of img) img) ≡ pool_length img
      long = ap (λ (t : ℕ → View). (t 0).size) table

      same : length {A = ℕ} (replicate (pool_length img) 0) ≡ pool_length img
      same = length-replicate {A = ℕ} (pool_length img) 0

      laid : Laid (count_of img) (start_at (packed_image (count_of img) img)) (body_at (packed_image (count_of img) img)) (pool_length img)
      laid =
          rw same at
          (place-laid (count_of img) 0 img (replicate (pool_length img) 0) (sound-sized img sound) (rw same sound.bodies)
          (omega (arith, same, bodies-within img (sound-files img sound))) None)

-- the record that a slot has where bodies were moved down, or not
pub kept_record_lem : (img : List ℕ) (sound : Sound img) (g : Option ℕ) (t : ℕ) → t < count_of img
    → rec_at (place_image g (count_of img) img) t ≡ kept_record g img t
unfolding kept_record
kept_record_lem img sound (Some p) t l = refl
kept_record_lem img sound None t l = go (lt-or 0 (body_at img t))
  where
    pool : List ℕ
    pool = replicate (pool_length img) 0

    laid : Laid (count_of img) (start_at img) (body_at img) (length pool)
    laid = rw (length-replicate {A = ℕ} (pool_length img) 0) sound.bodies

    go : (0 < body_at img t) ⊎ (body_at img t ≤ 0)
        → rec_at (packed_image (count_of img) img) t
        ≡ cond (ltb 0 (body_at img t)) (with_start (rec_at img t) (packed_start (count_of img) (start_at img) (body_at img) t)) (rec_at img t)
    go (inl x) = rw (lt-ltb 0 (body_at img t) x) (after_record (count_of img) img pool (sound-sized img sound) laid t l x)
    go (inr x) = rw (le-ltb 0 (body_at img t) x) (after-other (count_of img) img pool (sound-sized img sound) laid t l (omega arith))

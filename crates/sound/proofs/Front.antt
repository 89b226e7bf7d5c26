-- What carries soundness over a change: an image with a sound one's header is sound when its records are, and bodies lie as they did;
-- and SELECT.
use mathlib.Core.Path.{◌≡◌, sym, ap, ◌∙◌}
use mathlib.Core.List.{List}
use Prim.Native.Nat.{ℕ, ◌<◌, ◌≤◌}
use native.Mathlib.Omega.{arith}
use lib.ListN.{length}
use Rattle.image.specs.Layout.{Sized, Within, rec_at, count_of, version_of, current_df_of, current_ef_of, set_current, start_of}
use Rattle.image.proofs.Headers.{SameFront, same_version, same_count, front_refl, front_trans, front_current, df-current, ef-current}
use Rattle.image.proofs.Headers.{record_current}
use Rattle.pool.specs.Bodies.{body_of, start_at, body_at}
use Rattle.pool.specs.Laid.{Laid}
use Rattle.pool.proofs.Making.{laid_kept}
use Rattle.sound.specs.Table.{View, view_at, view_of}
use Rattle.sound.specs.Own.{Own}
use Rattle.sound.specs.Kin.{Kin}
use Rattle.sound.specs.Sound.{Header, Current, Sound, pool_length}
use Rattle.sound.proofs.Kept.{kin-same}

-- all that a sound image is, but for where bodies lie
pub record Files (img : List ℕ) : Type 0 where
  pub header : Header img
  pub records : (s : ℕ) → s < count_of img → Own (version_of img) (rec_at img s)
  pub kin : Kin (count_of img) (view_at img)
  pub current : Current (count_of img) (view_at img) (current_df_of img) (current_ef_of img)

pub sound-files : (img : List ℕ) → Sound img → Files img
sound-files img sound = record { header = sound.header; records = sound.records; kin = sound.kin; current = sound.current }

pub files-sound : (img : List ℕ) → Files img → Laid (count_of img) (start_at img) (body_at img) (pool_length img) → Sound img
files-sound img f laid = record { header = f.header; records = f.records; kin = f.kin; current = f.current; bodies = laid }

pub header-within : (img : List ℕ) → Header img → (t : ℕ) → t < count_of img → Within img t
header-within img h t l = omega (arith, h.long, h.most)

pub sound-sized : (img : List ℕ) → Sound img → Sized img (count_of img)
sound-sized img sound = record { long = sound.header.long; least = sound.header.least; most = sound.header.most }

pub sound-within : (img : List ℕ) → Sound img → (t : ℕ) → t < count_of img → Within img t
sound-within img sound = header-within img sound.header

pub header_front : (a b : List ℕ) → SameFront a b → Header a → Header b
header_front a b front h =
    let c = same_count a b front in
    record {
      mark_0 = front.start 0 (omega arith) ∙ h.mark_0;
      mark_1 = front.start 1 (omega arith) ∙ h.mark_1;
      mark_2 = front.start 2 (omega arith) ∙ h.mark_2;
      version = rw (same_version a b front) h.version;
      least = rw c h.least;
      most = rw c h.most;
      zeros = λ k l. front.tail k l ∙ h.zeros k l;
      long = rw c (front.long ∙ h.long);
    }

pub current-same : (n : ℕ) (a b : ℕ → View) (df ef : ℕ) → Current n a df ef → ((t : ℕ) → t < n → b t ≡ a t) → Current n b df ef
current-same n a b df ef c same = record {
  df-low = c.df-low;
  df-dir = rw (same df c.df-low) c.df-dir;
  ef-low = c.ef-low;
  ef-file = λ z. rw (same ef (c.ef-low z)) (c.ef-file z);
  ef-child = λ z. rw (same ef (c.ef-low z)) (c.ef-child z);
}

-- an image with a sound one's header is sound when its records are
pub files_front : (a b : List ℕ) → Header a → SameFront a b → ((s : ℕ) → s < count_of a → Own (version_of a) (rec_at b s))
    → Kin (count_of a) (view_at b)
    → Current (count_of a) (view_at b) (current_df_of b) (current_ef_of b) → Files b
files_front a b h front own kin cur =
    let e = same_count a b front in
    record {
      header = header_front a b front h;
      records = rw (same_version a b front)
          (λ s l. own s (rw e at l));
      kin = rw e kin;
      current = rw e cur;
    }

-- .. and so it is with another current DF and EF that may be current
pub files-set :
    (a b : List ℕ) (df ef : ℕ) → Header a → SameFront a b → ((s : ℕ) → s < count_of a → Own (version_of a) (rec_at b s))
    → Kin (count_of a) (view_at b)
    → Current (count_of a) (view_at b) df ef → Files (set_current b df ef)
files-set a b df ef h front own kin cur =
    let fits : 16 ≤ length b = omega (arith, front.long, h.long) in
    let rec : (s : ℕ) → s < count_of a → rec_at (set_current b df ef) s ≡ rec_at b s = λ s l. record_current b df ef fits s
    (omega (arith, front.long, h.long)) in
    let same : (s : ℕ) → s < count_of a → view_at (set_current b df ef) s ≡ view_at b s = λ s l. ap view_of (rec s l) in
    files_front a (set_current b df ef) h (front_trans a b (set_current b df ef) front (front_current b df ef fits))
    (λ s l. rw (rec s l) (own s l))
    (kin-same (count_of a) (view_at b) (view_at (set_current b df ef)) (omega (arith, h.least)) kin same)
    (rw (df-current b df ef fits, ef-current b df ef fits)
    (current-same (count_of a) (view_at b) (view_at (set_current b df ef)) df ef cur same))

-- what a record that stays tells of a body
pub body_same : (a b : List ℕ) (t : ℕ) → version_of b ≡ version_of a → rec_at b t ≡ rec_at a t
    → (start_at a t ≡ start_at b t) × (body_at a t ≡ body_at b t)
unfolding start_at body_at
body_same a b t v r = (sym (ap start_of r), sym (ap (λ (x : ℕ). body_of x (rec_at b t)) v ∙ ap (body_of (version_of a)) r))

-- bodies that are left lie as they did, in a pool as long as it was
pub bodies_kept : (a b : List ℕ) → Sound a → count_of b ≡ count_of a → pool_length b ≡ pool_length a
    → ((t : ℕ) → t < count_of a → 0 < body_at b t → (start_at a t ≡ start_at b t) × (body_at a t ≡ body_at b t))
    → Laid (count_of b) (start_at b) (body_at b) (pool_length b)
bodies_kept a b sound count long same =
    rw (count, long) (laid_kept (count_of a) (start_at a) (body_at a) (start_at b) (body_at b) (pool_length a) sound.bodies same)

module _ (b : List ℕ) (df ef : ℕ) (h : Header b) where
  fits : 16 ≤ length b
  fits = omega (arith, h.long)

  pub count-current : count_of (set_current b df ef) ≡ count_of b
  count-current = same_count b (set_current b df ef) (front_current b df ef fits)

  pub version-current : version_of (set_current b df ef) ≡ version_of b
  version-current = same_version b (set_current b df ef) (front_current b df ef fits)

  pub current_record : (t : ℕ) → t < count_of b → rec_at (set_current b df ef) t ≡ rec_at b t
  current_record t l = record_current b df ef fits t (omega (arith, h.long))

-- SELECT
pub sound-select : (img : List ℕ) (df ef : ℕ) → Sound img → Current (count_of img) (view_at img) df ef → Sound (set_current img df ef)
sound-select img df ef sound cur =
    let h = sound.header in
    files-sound (set_current img df ef) (files-set img img df ef h (front_refl img) sound.records sound.kin cur)
    (bodies_kept img (set_current img df ef) sound (count-current img df ef h)
    (ap (λ (x : View). x.size) (ap view_of (current_record img df ef h 0 (omega (arith, h.least)))))
    (λ t l x. body_same img (set_current img df ef) t (version-current img df ef h) (current_record img df ef h t l)))

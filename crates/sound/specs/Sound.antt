-- When an image is sound (01 "Image"; 02 Ticket 4): the header, each record by itself, what holds between records, what is
-- current, where bodies lie. `soundb` computes it for any bytes; `Sound` says it, sentence by sentence; they agree
-- (proofs/Says, `sound-says`).
use Rattle.std.specs.Prelude.{◌≡◌, List, Bool, true, not, ◌&&◌, ℕ, ◌+◌, ◌*◌, ◌<◌, ◌≤◌, eqb, ltb, leb, length, get_or}
use Rattle.laws.specs.Walks.{all_below}
use Rattle.laws.specs.Tests.{implies}
use Rattle.rules.specs.Descriptor.{df, ef}
use Rattle.image.specs.Layout.{mark_at, known_version, version_of, count_of, current_df_of, current_ef_of, none, rec_at}
use Rattle.pool.specs.Bodies.{start_at, body_at}
use Rattle.pool.specs.Laid.{Laid, laid}
use Rattle.sound.specs.Table.{View, view_at}
use Rattle.sound.specs.Own.{Own, ownb, zerosb}
use Rattle.sound.specs.Kin.{Kin, kinb}

pub record Header (img : List ℕ) : Type 0 where
  -- the buffer is exactly 16 + 64N long, N is 2 to 1,023
  pub long : length img ≡ 16 + 64 * count_of img
  pub least : 2 ≤ count_of img
  pub most : count_of img ≤ 1023
  -- mark `UFT`
  pub mark_0 : mark_at img 0 ≡ 0x55
  pub mark_1 : mark_at img 1 ≡ 0x46
  pub mark_2 : mark_at img 2 ≡ 0x54
  -- version 1, 2 or 3
  pub version : known_version (version_of img) ≡ true
  -- five zero bytes
  pub zeros : (k : ℕ) → k < 5 → get_or img (11 + k) 0 ≡ 0

unfoldable pub headerb : List ℕ → Bool
headerb img =
    eqb (length img) (16 + 64 * count_of img)
    && (leb 2 (count_of img)
    && (leb (count_of img) 1023
    && (eqb (mark_at img 0) 0x55
    && (eqb (mark_at img 1) 0x46
    && (eqb (mark_at img 2) 0x54
    && (known_version (version_of img)
    && zerosb img 11 5))))))

-- each record is good by itself, as the version lays it down
unfoldable pub recordsb : List ℕ → ℕ → Bool
recordsb img n = all_below n (λ s. ownb (version_of img) (rec_at img s))

-- the current DF slot holds a DF; the current EF, if any, is its child EF
pub record Current (n : ℕ) (v : ℕ → View) (d e : ℕ) : Type 0 where
  pub df-low : d < n
  pub df-dir : (v d).kind ≡ df
  pub ef-low : (e ≡ none → ⊥) → e < n
  pub ef-file : (e ≡ none → ⊥) → (v e).kind ≡ ef
  pub ef-child : (e ≡ none → ⊥) → (v e).parent ≡ d

unfoldable pub currentb : ℕ → (ℕ → View) → ℕ → ℕ → Bool
currentb n v d e =
    ltb d n
    && (eqb (v d).kind df
    && (implies (not (eqb e none)) (ltb e n)
    && (implies (not (eqb e none)) (eqb (v e).kind ef)
    && implies (not (eqb e none)) (eqb (v e).parent d))))

-- the pool is as long as the root's total
abbrev pub pool_length : List ℕ → ℕ
pool_length img = (view_at img 0).size

pub record Sound (img : List ℕ) : Type 0 where
  pub header : Header img
  pub records : (s : ℕ) → s < count_of img → Own (version_of img) (rec_at img s)
  pub kin : Kin (count_of img) (view_at img)
  pub current : Current (count_of img) (view_at img) (current_df_of img) (current_ef_of img)
  -- bodies lie in the pool, apart
  pub bodies : Laid (count_of img) (start_at img) (body_at img) (pool_length img)

unfoldable pub bodiesb : List ℕ → Bool
bodiesb img = laid (count_of img) (start_at img) (body_at img) (pool_length img)

unfoldable pub soundb : List ℕ → Bool
soundb img =
    headerb img
    && (recordsb img (count_of img)
    && (kinb (count_of img) (view_at img)
    && (currentb (count_of img) (view_at img) (current_df_of img) (current_ef_of img)
    && bodiesb img)))

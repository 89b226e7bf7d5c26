-- What is proved of sound images and worth reading; each is proved under the same name in small letters (proofs/Says,
-- proofs/Fresh, proofs/FirstVersion, proofs/FullTable).
use Rattle.std.specs.Prelude.{◌≡◌, Bool, true, List, ◌↔◌, ℕ, ◌+◌, ◌*◌, ◌-◌, ◌<◌, ◌≤◌, get_or, None}
use Rattle.laws.specs.Settled.{Settles}
use Rattle.rules.specs.Descriptor.{df}
use Rattle.rules.specs.Rule.{compact_formed}
use Rattle.image.specs.Layout.{count_of, rule_of}
use Rattle.access.specs.Access.{fits_record}
use Rattle.sound.specs.Table.{view_at}
use Rattle.sound.specs.Own.{Used}
use Rattle.sound.specs.Sound.{Sound, soundb}
use Rattle.sound.specs.Kinship.{free_slot, room_for}
use Rattle.sound.specs.Effects.{fresh}

-- the test that is computed for any bytes is true exactly where every sentence of 01 "Image" holds
abbrev pub SoundSays : Type 0
SoundSays = (img : List ℕ) → (soundb img ≡ true) ↔ Sound img

-- and any two answers of `sound_test::sound`, which promises that test, are equal
abbrev pub SoundOnce : Type 0
SoundOnce = (img : List ℕ) → Settles Bool (λ r. r ≡ soundb img)

-- a fresh card of a version is sound: N 2 to 1,023, a total of 1 to 64(N-1), a form and a rule that fit a record of that version
-- (whose form is then known, and the version with it)
abbrev pub SoundFresh : Type 0
SoundFresh = (v n total form : ℕ) (rule : List ℕ) → 2 ≤ n → n ≤ 1023 → 1 ≤ total → total ≤ 64 * (n - 1)
    → fits_record v form rule ≡ true → Sound (fresh v n total form rule)

-- 01's own sentences on a used record of version 1: byte 3 is zero, the rule has at most 16 bytes and is a compact one that is well formed,
-- and the bytes from 50 on are zero
pub record Compact (r : List ℕ) : Type 0 where
  pub zero : get_or r 3 0 ≡ 0
  pub short : get_or r 33 0 ≤ 16
  pub formed : compact_formed (rule_of r) ≡ true
  pub spare : (k : ℕ) → k < 14 → get_or r (50 + k) 0 ≡ 0

abbrev pub FirstVersion : Type 0
FirstVersion = (r : List ℕ) → Used 1 r → Compact r

-- a full table never refuses: where some directory has room for a size and 64, a record is free
abbrev pub SlotExists : Type 0
SlotExists = (img : List ℕ) (d size : ℕ) → Sound img → d < count_of img → (view_at img d).kind ≡ df
    → size + 64 ≤ room_for (count_of img) (view_at img) d → free_slot (count_of img) (view_at img) ≡ None → ⊥

-- The maker (01 "Making and reporting", 02 Ticket 3): its answers in 01's order, and what it leaves of the buffer.
use Rattle.std.specs.Prelude.{◌≡◌, Bool, true, false, cond, ◌&&◌, List, ℕ, ◌+◌, ◌*◌, ◌-◌, ◌/◌, ◌≤◌, eqb, leb, length}
use Rattle.std.specs.Prelude.{Result, Ok, Err}
use Rattle.laws.specs.Settled.{Settles}
use Rattle.image.specs.Layout.{Sized, known_version}
use Rattle.access.specs.Access.{fits_record}
use Rattle.sound.specs.Sound.{Sound}
use Rattle.sound.specs.Effects.{fresh}
use Rattle.maker.specs.declared.Edition.{Edition}
use Rattle.maker.specs.declared.MakeError.{MakeError}
use Rattle.maker.specs.declared.MakeError.TheVariants.{BadLength, BadTotal, BadRule}

-- the number of slots that so many bytes may have
unfoldable pub slots_in : ℕ → ℕ
slots_in long = (long - 16) / 64

-- a length of 16 + 64N, N 2 to 1,023 (else 2)
unfoldable pub fits_length : ℕ → Bool
fits_length long = leb 2 (slots_in long) && (leb (slots_in long) 1023 && eqb long (16 + 64 * slots_in long))

-- .. and a version that is known (else 2 too)
unfoldable pub fits_buffer : ℕ → Edition → Bool
fits_buffer long e = fits_length long && known_version e.version

-- a total of 1 to 64(N-1) (else 3)
unfoldable pub fits_total : ℕ → ℕ → Bool
fits_total n total = leb 1 total && leb total (64 * (n - 1))

-- the checks, in that order; the last: a form that the version has, and a rule of that form which fits a record of it (else 4)
unfoldable pub made_of : List ℕ → Edition → ℕ → ℕ → List ℕ → Result Unit MakeError
made_of img e total form rule =
    cond (fits_buffer (length img) e)
    (cond (fits_total (slots_in (length img)) total)
    (cond (fits_record e.version form rule) (Ok tt) (Err BadRule))
    (Err BadTotal))
    (Err BadLength)

-- 01's number for each answer
abbrev pub made_number : Result Unit MakeError → ℕ
made_number (Ok done) = 0
made_number (Err BadLength) = 2
made_number (Err BadTotal) = 3
made_number (Err BadRule) = 4

-- the whole buffer afterwards: a fresh image, or the buffer as it came
abbrev pub left_by : Result Unit MakeError → List ℕ → Edition → ℕ → ℕ → List ℕ → List ℕ
left_by (Ok done) img e total form rule = fresh e.version (slots_in (length img)) total form rule
left_by (Err refused) img e total form rule = img

-- WHAT THE MAKER PROMISES: its answer, which is 01's number, and the whole buffer afterwards
abbrev pub MakerPromises : List ℕ → Edition → ℕ → ℕ → List ℕ → Result Unit MakeError → List ℕ → Type 0
MakerPromises img e total form rule r left =
    (r ≡ made_of img e total form rule)
    × (left ≡ left_by r img e total form rule)
    × (made_number r
    ≡ cond (fits_buffer (length img) e) (cond (fits_total (slots_in (length img)) total) (cond (fits_record e.version form rule) 0 4) 3) 2)

-- that settles answer and buffer (proofs/Buffers, `made_once`)
abbrev pub MadeOnce : Type 0
MadeOnce = (img : List ℕ) (e : Edition) (total form : ℕ) (rule : List ℕ)
    → Settles (Result Unit MakeError × List ℕ) (λ p. MakerPromises img e total form rule p.0 p.1)

-- and what it makes is sound (`sound-made`)
abbrev pub SoundMade : Type 0
SoundMade = (img : List ℕ) (e : Edition) (total form : ℕ) (rule : List ℕ) → made_of img e total form rule ≡ Ok tt
    → Sound (left_by (Ok tt) img e total form rule)

-- its answers are 01's numbers, in 01's order: 2 for a length that isn't 16 + 64N with N 2 to 1,023, or a version that isn't known; 3 for
-- a total outside 1 to 64(N-1); 4 for a form that the version does not have, a rule too long for it or not well formed; each with the
-- buffer as it came; else 0, and a fresh card (`maker_answers`)
pub record MakerNumbers (img : List ℕ) (e : Edition) (total form : ℕ) (rule : List ℕ) (r : Result Unit MakeError) (left : List ℕ)
    : Type 0 where
  pub two : ((n : ℕ) → Sized img n → ⊥) → (made_number r ≡ 2) × (left ≡ img)
  pub two-version : known_version e.version ≡ false → (made_number r ≡ 2) × (left ≡ img)
  pub three : (n : ℕ) → Sized img n → known_version e.version ≡ true → ((1 ≤ total) × (total ≤ 64 * (n - 1)) → ⊥)
      → (made_number r ≡ 3) × (left ≡ img)
  pub four : (n : ℕ) → Sized img n → known_version e.version ≡ true → (1 ≤ total) × (total ≤ 64 * (n - 1))
      → fits_record e.version form rule ≡ false → (made_number r ≡ 4) × (left ≡ img)
  pub none : (n : ℕ) → Sized img n → known_version e.version ≡ true → (1 ≤ total) × (total ≤ 64 * (n - 1))
      → fits_record e.version form rule ≡ true → (made_number r ≡ 0) × (left ≡ fresh e.version n total form rule)

abbrev pub MakerAnswers : Type 0
MakerAnswers = (img : List ℕ) (e : Edition) (total form : ℕ) (rule : List ℕ) (r : Result Unit MakeError) (left : List ℕ)
    → MakerPromises img e total form rule r left → MakerNumbers img e total form rule r left

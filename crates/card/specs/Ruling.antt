-- Where the rule that decides on a file stands, as a public call tells it (02 Ticket 7), for any image, pool and slot.
use Rattle.std.specs.Prelude.{ℕ, ◌≡◌, cond, ◌&&◌, not, List, eqb, ltb, Option, None, Result, Ok, Err}
use Rattle.image.specs.Layout.{count_of, rec_at, kind_of}
use Rattle.sound.specs.Sound.{soundb}
use Rattle.referred.specs.declared.Place.{Place}
use Rattle.referred.specs.Deciding.{place_of, Bounded, PlaceLies}
use Rattle.card.specs.declared.CardError.{CardError}
use Rattle.card.specs.declared.CardError.TheVariants.{Damaged, WrongPool}
use Rattle.card.specs.Command.{pool_fits}

-- where a rule stands, nowhere being None; or that image and pool are no card
abbrev pub Ruling : Type 0
Ruling = Result (Option Place) CardError

-- 1 where the image isn't sound, 6 where the pool has a wrong length; else where the rule of the file in slot s stands, and nowhere where
-- that slot is past the last or free
unfoldable pub ruling_of : List ℕ → List ℕ → ℕ → Ruling
ruling_of img pool s =
    cond (soundb img)
    (cond (pool_fits img pool)
    (cond (ltb s (count_of img) && not (eqb (kind_of (rec_at img s)) 0)) (Ok (place_of (count_of img) img pool s)) (Ok None))
    (Err WrongPool)) (Err Damaged)

abbrev pub ruling_number : Ruling → ℕ
ruling_number (Ok p) = 0
ruling_number (Err Damaged) = 1
ruling_number (Err WrongPool) = 6

-- a place that is told lies within its slice, for any image and pool (proofs/Ruled, `ruling_lies`)
abbrev pub RulingLies : Type 0
RulingLies = (img pool : List ℕ) (s : ℕ) (p : Option Place) → ruling_of img pool s ≡ Ok p → PlaceLies img pool p

-- its place is one that numbers of 32 bits hold
abbrev pub RulingBounded : Ruling → Type 0
RulingBounded (Ok p) = Bounded p
RulingBounded (Err e) = Unit

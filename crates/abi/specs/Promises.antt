-- What each C function promises: its number, and what it leaves of a buffer that is lent to be written. Each settles its
-- result (proofs/Settled, `each_settles`).
use Rattle.std.specs.Prelude.{◌≡◌, true, false, cond, List, [], ◌∷◌, ◌⊎◌, ◌↔◌, ℕ, length, get_or}
use Rattle.std.specs.Prelude.{Err}
use Rattle.laws.specs.Settled.{Settles}
use Rattle.maker.specs.declared.Edition.{Edition}
use Rattle.sound.specs.Sound.{soundb}
use Rattle.maker.specs.Making.{made_number, made_of, left_by}
use Rattle.maker.specs.Reporting.{reported_number, numbers_of, reported_of}
use Rattle.verdict.specs.declared.State.{State}
use Rattle.card.specs.declared.CardError.TheVariants.{WrongPool}
use Rattle.card.specs.declared.CommandError.TheVariants.{Card, Short}
use Rattle.card.specs.Command.{answer_number, answer_word, answer_told, answer_security, pool_fits, reply_of, image_of, pool_of}
use Rattle.card.specs.Command.{response_of}
use Rattle.card.specs.Ruling.{ruling_number, ruling_of}
use Rattle.abi.specs.Numbers.{packed, told_numbers, ruling_numbers}

abbrev pub HullMake : List ℕ → Edition → ℕ → ℕ → List ℕ → ℕ → List ℕ → Type 0
HullMake img e total form rule r left =
    (r ≡ made_number (made_of img e total form rule)) × (left ≡ left_by (made_of img e total form rule) img e total form rule)

-- a command: its number, the image, the pool, the response and the three numbers
pub record HullCommand (img pool c : List ℕ) (st : State) (response : List ℕ) (r : ℕ) (left kept answered numbers : List ℕ) : Type 0 where
  pub result : r ≡ packed (reply_of img pool c st (length response))
  pub image : left ≡ image_of img pool c st (length response)
  pub pool_is : kept ≡ pool_of img pool c st (length response)
  pub response_is : answered ≡ response_of img pool c st response
  pub numbers_are : numbers ≡ told_numbers (reply_of img pool c st (length response))

abbrev pub HullReport : List ℕ → ℕ → List ℕ → Type 0
HullReport img r numbers = (r ≡ reported_number (reported_of img)) × (numbers ≡ numbers_of (reported_of img))

-- whether the image is sound: 1 or 0
abbrev pub HullSound : List ℕ → ℕ → Type 0
HullSound img r = r ≡ cond (soundb img) 1 0

-- where the rule that decides on the file in a slot stands: the answer, and three numbers
abbrev pub HullRule : List ℕ → List ℕ → ℕ → ℕ → List ℕ → Type 0
HullRule img pool slot r numbers =
    (r ≡ ruling_number (ruling_of img pool slot)) × (numbers ≡ ruling_numbers (ruling_of img pool slot))

pub record EachSettles : Type 0 where
  pub make : (img : List ℕ) (e : Edition) (total form : ℕ) (rule : List ℕ)
      → Settles (ℕ × List ℕ) (λ p. HullMake img e total form rule p.0 p.1)
  pub command : (img pool c : List ℕ) (st : State) (response : List ℕ)
      → Settles (ℕ × (List ℕ × (List ℕ × (List ℕ × List ℕ))))
      (λ p. HullCommand img pool c st response p.0 p.1.0 p.1.1.0 p.1.1.1.0 p.1.1.1.1)
  pub report : (img : List ℕ) → Settles (ℕ × List ℕ) (λ p. HullReport img p.0 p.1)
  pub sound : (img : List ℕ) → Settles ℕ (HullSound img)
  pub rule : (img pool : List ℕ) (slot : ℕ) → Settles (ℕ × List ℕ) (λ p. HullRule img pool slot p.0 p.1)

-- the numbers that C sees (`hull_numbers`): a command on a damaged image gives 65536, one whose data don't fit 327680, one with a pool of a
-- wrong length 393216, each with three zeros, any other its word and how many bytes were told; the second number is 1 or 2 exactly with
-- 6982, and else 0; hull_sound gives 1 for a sound image and 0 for any other; hull_rule gives 1 for a damaged image and 6 for a pool of a
-- wrong length, each with three zeros. Those of hull_make and hull_report are the maker's and the report's (maker/specs, `MakerAnswers`,
-- `ReportAnswers`)
pub record HullNumbers : Type 0 where
  pub damaged : (img pool c : List ℕ) (st : State) (response : List ℕ) (r : ℕ) (left kept answered numbers : List ℕ)
      → HullCommand img pool c st response r left kept answered numbers → soundb img ≡ false
      → (r ≡ 65536) × (numbers ≡ 0 ∷ 0 ∷ 0 ∷ [])
  pub short : (img pool c : List ℕ) (st : State) (response : List ℕ) (r : ℕ) (left kept answered numbers : List ℕ)
      → HullCommand img pool c st response r left kept answered numbers → reply_of img pool c st (length response) ≡ Err Short
      → (r ≡ 327680) × (numbers ≡ 0 ∷ 0 ∷ 0 ∷ [])
  pub wrong : (img pool c : List ℕ) (st : State) (response : List ℕ) (r : ℕ) (left kept answered numbers : List ℕ)
      → HullCommand img pool c st response r left kept answered numbers → reply_of img pool c st (length response) ≡ Err (Card WrongPool)
      → (r ≡ 393216) × (numbers ≡ 0 ∷ 0 ∷ 0 ∷ [])
  pub word : (img pool c : List ℕ) (st : State) (response : List ℕ) (r : ℕ) (left kept answered numbers : List ℕ)
      → HullCommand img pool c st response r left kept answered numbers → answer_number (reply_of img pool c st (length response)) ≡ 0
      → (r ≡ answer_word (reply_of img pool c st (length response)))
      × (numbers
      ≡ answer_told (reply_of img pool c st (length response)) ∷ answer_security (reply_of img pool c st (length response)) ∷ 0 ∷ [])
  pub security : (img pool c : List ℕ) (st : State) (response : List ℕ) (r : ℕ) (left kept answered numbers : List ℕ)
      → HullCommand img pool c st response r left kept answered numbers
      → (((get_or numbers 1 0 ≡ 1) ⊎ (get_or numbers 1 0 ≡ 2)) ↔ (r ≡ 0x6982)) × ((r ≡ 0x6982 → ⊥) → get_or numbers 1 0 ≡ 0)
  pub sound : (img : List ℕ) (r : ℕ) → HullSound img r → soundb img ≡ true → r ≡ 1
  pub unsound : (img : List ℕ) (r : ℕ) → HullSound img r → soundb img ≡ false → r ≡ 0
  pub unruled : (img pool : List ℕ) (slot r : ℕ) (numbers : List ℕ) → HullRule img pool slot r numbers → soundb img ≡ false
      → (r ≡ 1) × (numbers ≡ 0 ∷ 0 ∷ 0 ∷ [])
  pub misruled : (img pool : List ℕ) (slot r : ℕ) (numbers : List ℕ) → HullRule img pool slot r numbers → soundb img ≡ true
      → pool_fits img pool ≡ false → (r ≡ 6) × (numbers ≡ 0 ∷ 0 ∷ 0 ∷ [])

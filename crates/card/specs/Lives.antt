-- The life-cycle byte over a call (02 Ticket 1): who writes which byte. Each statement is proved in proofs/Lives under the same name
-- in small letters.
use Rattle.std.specs.Prelude.{ℕ, ◌<◌, ◌≡◌, true, cond, List, [], ◌∷◌, ◌⊎◌, eqb}
use Rattle.image.specs.Layout.{version_of, count_of}
use Rattle.sound.specs.Table.{view_at}
use Rattle.sound.specs.Kinship.{free_slot}
use Rattle.create_data.specs.Grammar.{DfData, EfData, first}
use Rattle.verdict.specs.declared.State.{State}
use Rattle.verdict.specs.Applied.{sent_data}
use Rattle.judge_target.specs.Target.{life_at, slot_in}
use Rattle.apdu.specs.Apdu.{instruction}
use Rattle.card.specs.Command.{answer_word, reply_of, image_of}
use Rattle.card.specs.Obeyed.{is_one_of}

-- ACTIVATE, DEACTIVATE and the three TERMINATEs, and the byte that each writes
abbrev pub LifeCommand : ℕ → Type 0
LifeCommand i = is_one_of i (0x44 ∷ 0x04 ∷ 0xE8 ∷ 0xE6 ∷ 0xFE ∷ []) ≡ true

abbrev pub written_by : ℕ → ℕ
written_by i = cond (eqb i 0x44) 0x05 (cond (eqb i 0x04) 0x04 0x0C)

-- our own transitions write 05, 04 and 0C, never 06 or 07: over a life-cycle command the byte of any file stays, or is the command's
-- own; whatever the image
abbrev pub TransitionsWrite : Type 0
TransitionsWrite = (img pool c : List ℕ) (st : State) (lent s : ℕ) → s < count_of img → LifeCommand (instruction c)
    → (life_at (image_of img pool c st lent) s ≡ life_at img s) ⊎ (life_at (image_of img pool c st lent) s ≡ written_by (instruction c))

-- .. so 06 and 07 come from CREATE alone: no other command brings a file to either
abbrev pub OnlyCreated : Type 0
OnlyCreated = (img pool c : List ℕ) (st : State) (lent s : ℕ) → s < count_of img → (instruction c ≡ 0xE0 → ⊥)
    → (life_at (image_of img pool c st lent) s ≡ 0x06) ⊎ (life_at (image_of img pool c st lent) s ≡ 0x07)
    → life_at (image_of img pool c st lent) s ≡ life_at img s

-- CREATE keeps the byte as given: where it says 9000, the new file holds the byte of object 8A
abbrev pub KeptAsGiven : Type 0
KeptAsGiven = (img pool c : List ℕ) (st : State) (lent : ℕ) → instruction c ≡ 0xE0 → answer_word (reply_of img pool c st lent) ≡ 0x9000
    → let new : ℕ = life_at (image_of img pool c st lent) (slot_in (free_slot (count_of img) (view_at img))) in
    ((t : DfData (version_of img) (sent_data c)) → new ≡ first t.life)
    × ((t : EfData (version_of img) (sent_data c)) → new ≡ first t.life)

-- A file made again (02 Tickets 2 and 4): what SELECT told of it, sent in a CREATE FILE on another card, makes the same record there, but
-- for parent, level and the start of its body. Each statement is proved in proofs/ under the same name in small letters.
use Rattle.std.specs.Prelude.{◌≡◌, true, cond, List, [], ◌∷◌, ◌++◌, ℕ, ◌+◌, ◌/◌, ◌%◌, ◌<◌, ◌≤◌, eqb, length, take}
use Rattle.laws.specs.Lists.{Bytes, splice}
use Rattle.numbers.specs.Numbers.{be16}
use Rattle.rules.specs.declared.Right.{Right}
use Rattle.rules.specs.declared.Right.TheVariants.{CreateDf, CreateEf}
use Rattle.rules.specs.declared.Sets.{Sets}
use Rattle.rules.specs.Descriptor.{df}
use Rattle.rules.specs.Life.{new_life, life_of, activated, terminated}
use Rattle.image.specs.Layout.{version_of, count_of, current_df_of, rec_at, kind_of, life_cycle_of, identifier_of, size_of, name_of}
use Rattle.access.specs.Access.{compact}
use Rattle.sound.specs.Table.{File, view_at, up}
use Rattle.pool.specs.Places.{gap_for, place_at}
use Rattle.sound.specs.Sound.{Sound, pool_length}
use Rattle.sound.specs.Kinship.{free_slot, room_for}
use Rattle.sound.specs.Effects.{fresh}
use Rattle.fcp.specs.Template.{template_of}
use Rattle.fcp.specs.Again.{Sends, started_at}
use Rattle.verdict.specs.declared.State.{State}
use Rattle.judge_target.specs.Target.{life_at, allowed_at, slot_in}
use Rattle.apdu.specs.Apdu.{instruction}
use Rattle.access.specs.declared.Decision.{Decision}
use Rattle.access.specs.declared.Decision.TheVariants.{Granted}
use Rattle.card.specs.Command.{with_word}
use Rattle.card.specs.Command.{PoolFits, reply_of, image_of, response_of}
use Rattle.card.specs.Conditions.{FreeName, found}

-- CREATE FILE with the data s
abbrev pub create_of : List ℕ → List ℕ
create_of s = 0x00 ∷ 0xE0 ∷ 0x00 ∷ 0x00 ∷ length s ∷ s

-- the right that it takes to create the file with record r
abbrev pub right_of : List ℕ → Right
right_of r = cond (eqb (kind_of r) df) CreateDf CreateEf

-- a SELECT that told n bytes
pub record Told (img pool c : List ℕ) (st : State) (response : List ℕ) (n : ℕ) : Type 0 where
  pub select : instruction c ≡ 0xA4
  pub word : ℕ
  pub security : Decision
  pub reply : reply_of img pool c st (length response) ≡ with_word word n security
  pub some : 1 ≤ n

-- what it told, at the start of the response
abbrev pub told_by : List ℕ → List ℕ → List ℕ → State → List ℕ → ℕ → List ℕ
told_by img pool c st response n = take n (response_of img pool c st response)

-- THE OTHER CARD and its pool, on which the file with record r is to be made again: what the ticket asks of it, sentence by sentence.
-- Variants are none yet
pub record Welcomes (img other pool r : List ℕ) (st : State) : Type 0 where
  -- it is of the same version
  pub version : version_of other ≡ version_of img
  -- no other channel is open
  pub alone : st.channels / 2 % 8 ≡ 0
  -- the pool has its right length
  pub pool-fits : PoolFits other pool
  -- the current directory is empty ..
  pub empty : (s : ℕ) → s < count_of other → File (view_at other) s → (view_at other s).parent ≡ current_df_of other → ⊥
  -- .. and activated
  pub active : life_of (life_at other (current_df_of other)) ≡ activated
  -- none above is terminated
  pub above : (k : ℕ) → 1 ≤ k → k ≤ (view_at other (current_df_of other)).level
      → life_of (life_at other (up (view_at other) k (current_df_of other))) ≡ terminated → ⊥
  -- rights and room suffice
  pub right : allowed_at other pool (current_df_of other) (right_of r) st.sets ≡ true
  pub room : size_of r + 64 ≤ room_for (count_of other) (view_at other) (current_df_of other)
  -- neither it nor a directory above has that identifier
  pub identifier : (k : ℕ) → k ≤ (view_at other (current_df_of other)).level
      → (view_at other (up (view_at other) k (current_df_of other))).identifier ≡ identifier_of r → ⊥
  -- nor any file that name
  pub name : FreeName other (name_of r)

-- the slot that the new file gets
abbrev pub new_slot : List ℕ → ℕ
new_slot other = slot_in (free_slot (count_of other) (view_at other))

-- where its body starts, if it has one: in the lowest gap that fits it; where none does, above all bodies, which were moved down
abbrev pub new_start : List ℕ → List ℕ → ℕ
new_start other r = place_at (gap_for (count_of other) other (pool_length other) (size_of r)) (count_of other) other

-- RE-CREATION, from call to call: if the life cycle is one that CREATE takes, what SELECT told of a file, with a C6 after 81 for a DF,
-- gives 9000 there, and the new record is the old one but for parent, level and, where it has a body, the start. Nothing welcomes a root: a
-- directory above, the other card's root, has its identifier. An image's elements are bytes, as of any buffer; that it is sound doesn't
-- say so
abbrev pub MadeAgain : Type 0
MadeAgain = (img pool c : List ℕ) (st : State) (response : List ℕ) (n : ℕ) (sent other bodies : List ℕ) (state : State) (buffer : List ℕ)
    → Bytes img → Sound img → Told img pool c st response n → new_life (life_cycle_of (rec_at img (found img c))) ≡ true
    → Sends (rec_at img (found img c)) (told_by img pool c st response n) sent
    → Sound other → Welcomes img other bodies (rec_at img (found img c)) state
    → (reply_of other bodies (create_of sent) state (length buffer) ≡ with_word 0x9000 0 Granted)
    × (rec_at (image_of other bodies (create_of sent) state (length buffer)) (new_slot other)
    ≡ splice (started_at (version_of img) (rec_at img (found img c)) (new_start other (rec_at img (found img c)))) 6
    (be16 (current_df_of other) ++ be16 ((view_at other (current_df_of other)).level + 1)))

-- what was told is the template of the file that was found
abbrev pub SelectTold : Type 0
SelectTold = (img pool c : List ℕ) (st : State) (response : List ℕ) (n : ℕ) → Sound img → Told img pool c st response n
    → told_by img pool c st response n ≡ template_of (rec_at img (found img c))

-- the other card can be had: every file of any card but its root is welcome on a fresh card of that version and 1,023 slots whose root
-- allows everything, with any pool of its total
abbrev pub allowing : List ℕ
allowing = 0x7F ∷ 0 ∷ 0 ∷ 0 ∷ 0 ∷ 0 ∷ 0 ∷ 0 ∷ []

abbrev pub largest : ℕ → List ℕ
largest v = fresh v 1023 65408 compact allowing

abbrev pub WelcomeSomewhere : Type 0
WelcomeSomewhere = (img : List ℕ) (s : ℕ) (x : Sets) (bodies : List ℕ)
    → Sound img → s < count_of img → (kind_of (rec_at img s) ≡ 0 → ⊥) → (s ≡ 0 → ⊥) → length bodies ≡ 65408
    → Sound (largest (version_of img)) × Welcomes img (largest (version_of img)) bodies (rec_at img s) (record { sets = x; channels = 0 })

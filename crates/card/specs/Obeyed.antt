-- Demand 2, command by command: on a sound image with its pool a command succeeds exactly when all its conditions hold, and then has that
-- word, leaves that image and that pool and tells that; otherwise it gives the word of the first condition that fails, and image, pool and
-- response are as they came. Each statement is proved in proofs/Obeyed or proofs/Touched under the same name in small letters.
use Rattle.std.specs.Prelude.{◌≡◌, Bool, true, false, cond, ◌||◌, List, [], ◌∷◌, ◌⊎◌, ℕ, ◌+◌, ◌≤◌, eqb, length, get_or, Err}
use Rattle.laws.specs.Lists.{splice}
use Rattle.rules.specs.declared.Sets.{Sets}
use Rattle.rules.specs.Descriptor.{df, ef}
use Rattle.rules.specs.declared.life_cycle.Life.{Life}
use Rattle.rules.specs.Life.{same_life, life_of, deactivated, terminated}
use Rattle.image.specs.declared.Head.{Head}
use Rattle.image.specs.Layout.{version_of, count_of, current_df_of, current_ef_of, none, rec_at, set_current, set_life}
use Rattle.sound.specs.Table.{view_at}
use Rattle.sound.specs.Sound.{Sound}
use Rattle.sound.specs.Kinship.{free_slot}
use Rattle.sound.specs.Effects.{made, filled, deleted, wiped}
use Rattle.template.specs.Objects.{bytes_at}
use Rattle.create_data.specs.declared.NewFile.{NewFile}
use Rattle.create_data.specs.declared.Data.{Data}
use Rattle.std.specs.Prelude.{Option, Some, None}
use Rattle.create_data.specs.declared.Data.TheVariants.{Df, Ef}
use Rattle.verdict.specs.declared.State.{State}
use Rattle.verdict.specs.Applied.{sent_data}
use Rattle.fcp.specs.Template.{template_of}
use Rattle.access.specs.declared.Decision.TheVariants.{Granted}
use Rattle.judge_security.specs.Security.{step_j}
use Rattle.judge_target.specs.Target.{current_file, life_at, slot_in}
use Rattle.apdu.specs.Apdu.{class_byte, instruction}
use Rattle.card.specs.declared.CommandError.TheVariants.{Short}
use Rattle.card.specs.Command.{Reply, with_word}
use Rattle.card.specs.Command.{PoolFits, reply_of, image_of, pool_of, response_of}
use Rattle.card.specs.Conditions.{Ask, Met, Refused, unknown_asks, select_asks, create_asks, delete_asks, activate_asks}
use Rattle.pool.specs.Bodies.{start_at}
use Rattle.card.specs.Conditions.{start_in, le, reading, record_at, read_binary_asks, update_binary_asks, read_record_asks}
use Rattle.card.specs.Conditions.{update_record_asks}
use Rattle.card.specs.Conditions.{deactivate_asks, terminate_ef_asks, terminate_df_asks, terminate_card_asks, found, new_of, named_child}

-- a refusal tells nothing; the one without a word is answer 5; that of step J says what it decided (02 Ticket 6)
abbrev pub refusal : List ℕ → List ℕ → List ℕ → Sets → ℕ → Reply
refusal img pool c x w = cond (eqb w 0x0000) (Err Short) (with_word w 0 (cond (eqb w 0x6982) (step_j img pool c x) Granted))

pub record Obeys (img pool c : List ℕ) (st : State) (response : List ℕ) (asks : List Ask) (word : ℕ) (left kept answer : List ℕ)
    : Type 0 where
  pub met : Met asks
      → (reply_of img pool c st (length response) ≡ with_word word (length answer) Granted)
      × (image_of img pool c st (length response) ≡ left)
      × (pool_of img pool c st (length response) ≡ kept) × (response_of img pool c st response ≡ splice response 0 answer)
  pub refused : (w : ℕ) → Refused asks w
      → (reply_of img pool c st (length response) ≡ refusal img pool c st.sets w) × (image_of img pool c st (length response) ≡ img)
      × (pool_of img pool c st (length response) ≡ pool) × (response_of img pool c st response ≡ response)
  -- and there is no third case
  pub always : Met asks ⊎ ((w : ℕ) × Refused asks w)

-- SELECT: 6283 for a deactivated file, 6285 for a terminated one, else 9000; a DF becomes current with no EF, an EF becomes
-- current EF
abbrev pub word_for : Option Life → ℕ
word_for class = cond (same_life class deactivated) 0x6283 (cond (same_life class terminated) 0x6285 0x9000)

abbrev pub selecting : List ℕ → ℕ → List ℕ
selecting img s = cond (eqb (view_at img s).kind df) (set_current img s none) (set_current img (current_df_of img) s)

-- .. and tells its template, where P2 asks for it (02 Ticket 2)
abbrev pub telling : List ℕ → List ℕ → ℕ → List ℕ
telling img c s = cond (eqb (get_or c 3 0) 0x04) (template_of (rec_at img s)) []

abbrev pub SelectObeys : Type 0
SelectObeys = (img pool c : List ℕ) (st : State) (response : List ℕ) → Sound img → PoolFits img pool → instruction c ≡ 0xA4
    → Obeys img pool c st response (select_asks img c (length response)) (word_for (life_of (life_at img (found img c))))
    (selecting img (found img c)) pool (telling img c (found img c))

-- CREATE: the new record in the lowest free slot, in the current DF and one level down, as its data s describe it
abbrev pub new_head : List ℕ → ℕ → NewFile → Head
new_head img kind x = record {
  kind = kind;
  descriptor = x.descriptor;
  life = x.life;
  form = x.form;
  identifier = x.identifier;
  parent = current_df_of img;
  level = (view_at img (current_df_of img)).level + 1;
  record_length = x.record_length;
  size = x.size;
}

abbrev pub creating : List ℕ → List ℕ → ℕ → Option Data → List ℕ
creating img s slot None = img
creating img s slot (Some (Df x)) = made img slot (new_head img df x) (bytes_at s x.name) (bytes_at s x.rule)
creating img s slot (Some (Ef x)) = made img slot (new_head img ef x) (bytes_at s x.name) (bytes_at s x.rule)

-- .. and its body, all FF, where it has one (02 Ticket 4)
abbrev pub filling : List ℕ → List ℕ → Option Data → List ℕ
filling img pool None = pool
filling img pool (Some (Df x)) = filled img pool (new_head img df x)
filling img pool (Some (Ef x)) = filled img pool (new_head img ef x)

abbrev pub CreateObeys : Type 0
CreateObeys = (img pool c : List ℕ) (st : State) (response : List ℕ) → Sound img → PoolFits img pool → instruction c ≡ 0xE0
    → Obeys img pool c st response (create_asks img pool c st) 0x9000
    (creating img (sent_data c) (slot_in (free_slot (count_of img) (view_at img))) (new_of img c)) (filling img pool (new_of img c)) []

-- DELETE: the child and all beneath it become zero records, their bytes of the pool 00; a deleted current EF becomes none
abbrev pub DeleteObeys : Type 0
DeleteObeys = (img pool c : List ℕ) (st : State) (response : List ℕ) → Sound img → PoolFits img pool → instruction c ≡ 0xE4
    → Obeys img pool c st response (delete_asks img pool c st) 0x9000 (deleted img (named_child img c))
    (wiped img pool (named_child img c)) []

-- the life-cycle commands write one byte, and say 9000
abbrev pub ActivateObeys : Type 0
ActivateObeys = (img pool c : List ℕ) (st : State) (response : List ℕ) → Sound img → PoolFits img pool → instruction c ≡ 0x44
    → Obeys img pool c st response (activate_asks img pool c st) 0x9000 (set_life img (current_file img) 0x05) pool []

abbrev pub DeactivateObeys : Type 0
DeactivateObeys = (img pool c : List ℕ) (st : State) (response : List ℕ) → Sound img → PoolFits img pool → instruction c ≡ 0x04
    → Obeys img pool c st response (deactivate_asks img pool c st) 0x9000 (set_life img (current_file img) 0x04) pool []

abbrev pub TerminateEfObeys : Type 0
TerminateEfObeys = (img pool c : List ℕ) (st : State) (response : List ℕ) → Sound img → PoolFits img pool → instruction c ≡ 0xE8
    → Obeys img pool c st response (terminate_ef_asks img pool c st) 0x9000 (set_life img (current_ef_of img) 0x0C) pool []

abbrev pub TerminateDfObeys : Type 0
TerminateDfObeys = (img pool c : List ℕ) (st : State) (response : List ℕ) → Sound img → PoolFits img pool → instruction c ≡ 0xE6
    → Obeys img pool c st response (terminate_df_asks img pool c st) 0x9000 (set_life img (current_df_of img) 0x0C) pool []

abbrev pub TerminateCardObeys : Type 0
TerminateCardObeys = (img pool c : List ℕ) (st : State) (response : List ℕ) → Sound img → PoolFits img pool → instruction c ≡ 0xFE
    → Obeys img pool c st response (terminate_card_asks img pool c st) 0x9000 (set_life img 0 0x0C) pool []

-- READ and UPDATE, on a card that has bodies (02 Ticket 4): a READ tells bytes of the current EF's body, an UPDATE overwrites them with its
-- data; nothing else changes
abbrev pub ReadBinaryObeys : Type 0
ReadBinaryObeys = (img pool c : List ℕ) (st : State) (response : List ℕ) → Sound img → PoolFits img pool → version_of img ≡ 3
    → instruction c ≡ 0xB0
    → Obeys img pool c st response (read_binary_asks img pool c st (length response)) 0x9000 img pool (reading img pool (start_in c) (le c))

abbrev pub UpdateBinaryObeys : Type 0
UpdateBinaryObeys = (img pool c : List ℕ) (st : State) (response : List ℕ) → Sound img → PoolFits img pool → version_of img ≡ 3
    → instruction c ≡ 0xD6
    → Obeys img pool c st response (update_binary_asks img pool c st) 0x9000 img
    (splice pool (start_at img (current_ef_of img) + start_in c) (sent_data c)) []

abbrev pub ReadRecordObeys : Type 0
ReadRecordObeys = (img pool c : List ℕ) (st : State) (response : List ℕ) → Sound img → PoolFits img pool → version_of img ≡ 3
    → instruction c ≡ 0xB2
    → Obeys img pool c st response (read_record_asks img pool c st (length response)) 0x9000 img pool
    (reading img pool (record_at img (get_or c 2 0)) (le c))

abbrev pub UpdateRecordObeys : Type 0
UpdateRecordObeys = (img pool c : List ℕ) (st : State) (response : List ℕ) → Sound img → PoolFits img pool → version_of img ≡ 3
    → instruction c ≡ 0xDC
    → Obeys img pool c st response (update_record_asks img pool c st) 0x9000 img
    (splice pool (start_at img (current_ef_of img) + record_at img (get_or c 2 0)) (sent_data c)) []

-- a number is one of a list
abbrev pub is_one_of : ℕ → List ℕ → Bool
is_one_of x [] = false
is_one_of x (y ∷ rest) = eqb x y || is_one_of x rest

-- the instructions of a version: 01's, and those on bodies where it has bodies
abbrev pub instructions_of : ℕ → List ℕ
instructions_of v =
    0xA4 ∷ 0xE0 ∷ 0xE4 ∷ 0x44 ∷ 0x04 ∷ 0xE8 ∷ 0xE6 ∷ 0xFE ∷ cond (eqb v 3) (0xB0 ∷ 0xD6 ∷ 0xB2 ∷ 0xDC ∷ []) []

-- every other instruction: it never succeeds, and is 6D00 where the steps before hold
abbrev pub OthersRefused : Type 0
OthersRefused = (img pool c : List ℕ) (st : State) (response : List ℕ) → Sound img → PoolFits img pool
    → is_one_of (instruction c) (instructions_of (version_of img)) ≡ false
    → Obeys img pool c st response (unknown_asks c) 0x6D00 img pool []

-- so the commands on bodies are 6D00 on older cards, which have none (02 Ticket 4): READ and UPDATE BINARY, READ and UPDATE RECORD
abbrev pub OlderHaveNone : Type 0
OlderHaveNone = (img pool c : List ℕ) (st : State) (response : List ℕ) → Sound img → (version_of img ≡ 1) ⊎ (version_of img ≡ 2)
    → 4 ≤ length c → class_byte c ≡ 0x00
    → is_one_of (instruction c) (0xB0 ∷ 0xD6 ∷ 0xB2 ∷ 0xDC ∷ []) ≡ true
    → (reply_of img pool c st (length response) ≡ with_word 0x6D00 0 Granted) × (image_of img pool c st (length response) ≡ img)
    × (pool_of img pool c st (length response) ≡ pool) × (response_of img pool c st response ≡ response)

-- Demands 1 and 2, as statements over what a call gives (specs/Command). Each is proved in proofs/Answered, proofs/Silent (demand 1, and
-- what is told), proofs/Pooled or proofs/Demands under the same name in small letters. What each command asks and does stands in
-- specs/Obeyed.
use Rattle.std.specs.Prelude.{◌≡◌, true, false, List, [], ◌∷◌, ◌⊎◌, ℕ, ◌+◌, ◌<◌, ◌≤◌, length, get_or, Some, Err}
use Rattle.laws.specs.Lists.{splice}
use Rattle.laws.specs.Settled.{Settles}
use Rattle.image.specs.Layout.{has_bodies, form_of, version_of, rec_at, free_bytes, kind_of, count_of, current_df_of, current_ef_of}
use Rattle.access.specs.declared.Decision.TheVariants.{Granted}
use Rattle.access.specs.Access.{compact}
use Rattle.sound.specs.Table.{view_at}
use Rattle.sound.specs.Sound.{Sound, soundb}
use Rattle.sound.specs.Kinship.{terminated_at, child_named, at_or_beneath}
use Rattle.verdict.specs.declared.State.{State}
use Rattle.verdict.specs.Words.{done, file_deactivated, file_terminated}
use Rattle.pool.specs.Bodies.{body_of}
use Rattle.verdict.specs.Applied.{Verdict, word_of, applied_of, pooled_of}
use Rattle.judge_target.specs.Steps.{all_hold}
use Rattle.apdu.specs.Apdu.{instruction, sent_identifier}
use Rattle.judge.specs.Judge.{judge_of}
use Rattle.effect.specs.Told.{told}
use Rattle.card.specs.declared.CardError.TheVariants.{WrongPool}
use Rattle.card.specs.declared.CommandError.TheVariants.{Card, Short}
use Rattle.card.specs.Command.{Reply, with_word}
use Rattle.card.specs.Command.{answer_number, answer_word, answer_told, PoolFits, longest_answer, due_of, reply_of, image_of, pool_of}
use Rattle.card.specs.Command.{response_of, CommandPromises}
use Rattle.card.specs.Steps.{all_steps, effect_of, first_failing}
use Rattle.card.specs.Obeyed.{refusal, is_one_of}
use Rattle.card.specs.After.{record_after, current_after, df_after, ef_after}

-- everything is as it came
pub record AllStays (img pool c : List ℕ) (st : State) (response : List ℕ) : Type 0 where
  pub image : image_of img pool c st (length response) ≡ img
  pub bodies : pool_of img pool c st (length response) ≡ pool
  pub answered : response_of img pool c st response ≡ response

-- Demand 1: a damaged image is refused as answer 1 with word 0000; image, pool and response are as they came
abbrev pub DamagedRefused : Type 0
DamagedRefused = (img pool c : List ℕ) (st : State) (response : List ℕ) → soundb img ≡ false
    → (answer_number (reply_of img pool c st (length response)) ≡ 1) × (answer_word (reply_of img pool c st (length response)) ≡ 0x0000)
    × AllStays img pool c st response

-- 02 Ticket 4: after that, a pool of a wrong length as answer 6 with word 0000, whatever the command; image, pool and response are as
-- they came. Cards of versions without bodies take every pool
abbrev pub WrongPoolRefused : Type 0
WrongPoolRefused = (img pool c : List ℕ) (st : State) (response : List ℕ) → soundb img ≡ true
    → (((PoolFits img pool → ⊥) → (answer_number (reply_of img pool c st (length response)) ≡ 6)
    × (answer_word (reply_of img pool c st (length response)) ≡ 0x0000) × AllStays img pool c st response)
    × (PoolFits img pool → answer_number (reply_of img pool c st (length response)) ≡ 6 → ⊥))

abbrev pub OlderFit : Type 0
OlderFit = (img pool : List ℕ) → (version_of img ≡ 1) ⊎ (version_of img ≡ 2) → PoolFits img pool

-- .. a sound one with its pool is answer 0, or 5 with word 0000 where the response is shorter than what the command tells
abbrev pub SoundAnswered : Type 0
SoundAnswered = (img pool c : List ℕ) (st : State) (lent : ℕ) → soundb img ≡ true → PoolFits img pool
    → (length (told img pool c (judge_of img pool c st)) ≤ lent → answer_number (reply_of img pool c st lent) ≡ 0)
    × (lent < length (told img pool c (judge_of img pool c st))
    → (answer_number (reply_of img pool c st lent) ≡ 5) × (answer_word (reply_of img pool c st lent) ≡ 0x0000))

-- 9000, 6283 or 6285
abbrev pub Succeeds : ℕ → Type 0
Succeeds w = (w ≡ done) ⊎ ((w ≡ file_deactivated) ⊎ (w ≡ file_terminated))

-- Demand 1: any word but 9000, 6283 or 6285 leaves image, pool and response as they came, whatever the image; no byte is told
abbrev pub OtherWordsLeave : Type 0
OtherWordsLeave = (img pool c : List ℕ) (st : State) (response : List ℕ)
    → (Succeeds (answer_word (reply_of img pool c st (length response))) → ⊥)
    → AllStays img pool c st response × (answer_told (reply_of img pool c st (length response)) ≡ 0)

-- all words that a call can give: those of 01's table and of 02, and no other, so never 63 0X, 65 81 or 6F XX; 0000 is for the answers
-- 1, 5 and 6
abbrev pub words_of_table : List ℕ
words_of_table =
    0x9000 ∷ 0x6283 ∷ 0x6285 ∷ 0x6700 ∷ 0x6981 ∷ 0x6982 ∷ 0x6985 ∷ 0x6986 ∷ 0x6A80 ∷ 0x6A82 ∷ 0x6A83 ∷ 0x6A84 ∷ 0x6A89 ∷ 0x6A8A ∷ 0x6B00
    ∷ 0x6D00 ∷ 0x6E00 ∷ []

abbrev pub OnlyTheseWords : Type 0
OnlyTheseWords = (img pool c : List ℕ) (st : State) (lent : ℕ) → soundb img ≡ true
    → ((answer_number (reply_of img pool c st lent) ≡ 0) × (is_one_of (answer_word (reply_of img pool c st lent)) words_of_table ≡ true))
    ⊎ ((reply_of img pool c st lent ≡ Err Short) ⊎ (reply_of img pool c st lent ≡ Err (Card WrongPool)))

-- 6283 and 6285 come from SELECT alone
abbrev pub WarnsInSelect : Type 0
WarnsInSelect = (img pool c : List ℕ) (st : State) (lent : ℕ)
    → (answer_word (reply_of img pool c st lent) ≡ 0x6283) ⊎ (answer_word (reply_of img pool c st lent) ≡ 0x6285) → instruction c ≡ 0xA4

-- every command but READ and SELECT, and SELECT with another P2 than 04, leaves the response and is never answer 5, on any image
abbrev pub OthersTellNothing : Type 0
OthersTellNothing = (img pool c : List ℕ) (st : State) (response : List ℕ) → (instruction c ≡ 0xA4 → get_or c 3 0 ≡ 0x04 → ⊥)
    → (instruction c ≡ 0xB0 → ⊥) → (instruction c ≡ 0xB2 → ⊥)
    → (response_of img pool c st response ≡ response) × (answer_told (reply_of img pool c st (length response)) ≡ 0)
    × (reply_of img pool c st (length response) ≡ Err Short → ⊥)

-- a response of 37 bytes and as many as the version's longest rule is never too short where there are no bodies: 53 bytes on version 1, 67
-- on version 2; on version 3 one of 256 (a READ asks by one byte, which the bytes of a command are)
abbrev pub LongEnough : Type 0
LongEnough = (img pool c : List ℕ) (st : State) (lent : ℕ) → (has_bodies (version_of img) ≡ true → get_or c 4 0 < 256)
    → longest_answer (version_of img) ≤ lent → reply_of img pool c st lent ≡ Err Short → ⊥

-- the response keeps its length, and every byte past what was told
pub record PastStays (response answered : List ℕ) (n : ℕ) : Type 0 where
  pub long : length answered ≡ length response
  pub within : n ≤ length response
  pub past : (k : ℕ) → n ≤ k → get_or answered k 0 ≡ get_or response k 0

abbrev pub ResponseStays : Type 0
ResponseStays = (img pool c : List ℕ) (st : State) (response : List ℕ)
    → PastStays response (response_of img pool c st response) (answer_told (reply_of img pool c st (length response)))

-- a sound image stays sound; the version and the length of any image stay, and the length of its pool
abbrev pub StaysSound : Type 0
StaysSound = (img pool c : List ℕ) (st : State) (lent : ℕ) → Sound img → Sound (image_of img pool c st lent)

abbrev pub VersionStays : Type 0
VersionStays = (img pool c : List ℕ) (st : State) (lent : ℕ) → version_of (image_of img pool c st lent) ≡ version_of img

abbrev pub LengthStays : Type 0
LengthStays = (img pool c : List ℕ) (st : State) (lent : ℕ) → length (image_of img pool c st lent) ≡ length img

abbrev pub PoolLengthStays : Type 0
PoolLengthStays = (img pool c : List ℕ) (st : State) (lent : ℕ) → length (pool_of img pool c st lent) ≡ length pool

-- .. so what was a pool of the card is one afterwards
abbrev pub PoolStaysFit : Type 0
PoolStaysFit = (img pool c : List ℕ) (st : State) (lent : ℕ) → PoolFits img pool
    → PoolFits (image_of img pool c st lent) (pool_of img pool c st lent)

-- so a card of version 1 stays compact (02 Ticket 3)
abbrev pub StaysCompact : Type 0
StaysCompact = (img pool c : List ℕ) (st : State) (lent s : ℕ) → Sound img → version_of img ≡ 1 → s < count_of img
    → form_of (rec_at (image_of img pool c st lent) s) ≡ compact

-- Demand 2: where all steps hold, the reply is the word of the effect, image and pool have it, and what it tells stands at the start of the
-- response; else the reply is the word of the first that fails, and image, pool and response are as they came
abbrev pub RepliesInOrder : Type 0
RepliesInOrder = (img pool c : List ℕ) (st : State) (response : List ℕ) → Sound img → PoolFits img pool
    → (all_hold (all_steps img pool c st (length response)) ≡ true
    → (reply_of img pool c st (length response)
    ≡ with_word (word_of (effect_of img pool c st)) (length (told img pool c (effect_of img pool c st))) Granted)
    × (image_of img pool c st (length response) ≡ applied_of img c (effect_of img pool c st))
    × (pool_of img pool c st (length response) ≡ pooled_of img pool c (effect_of img pool c st))
    × (response_of img pool c st response ≡ splice response 0 (told img pool c (effect_of img pool c st))))
    × (all_hold (all_steps img pool c st (length response)) ≡ false
    → (reply_of img pool c st (length response) ≡ refusal img pool c st.sets (first_failing (all_steps img pool c st (length response))))
    × AllStays img pool c st response)

-- Demand 2: the word tells success exactly where all steps hold
abbrev pub SucceedsExactly : Type 0
SucceedsExactly = (img pool c : List ℕ) (st : State) (lent : ℕ) → Sound img → PoolFits img pool
    → (all_hold (all_steps img pool c st lent) ≡ true → Succeeds (answer_word (reply_of img pool c st lent)))
    × (Succeeds (answer_word (reply_of img pool c st lent)) → all_hold (all_steps img pool c st lent) ≡ true)

-- Demand 2: the effect is the stated one and no other. Of the header only what is current may change, bytes 7 to 10; every
-- record is told, and with the length every byte
pub record Effected (img c : List ℕ) (v : Verdict) (left : List ℕ) : Type 0 where
  pub long : length left ≡ length img
  pub start : (k : ℕ) → k < 7 → get_or left k 0 ≡ get_or img k 0
  pub current : (k : ℕ) → k < 4 → get_or left (7 + k) 0 ≡ get_or (current_after img v) k 0
  pub tail : (k : ℕ) → k < 5 → get_or left (11 + k) 0 ≡ get_or img (11 + k) 0
  pub records : (t : ℕ) → t < count_of img → rec_at left t ≡ record_after img c v t
  -- as numbers
  pub count : count_of left ≡ count_of img
  pub df : current_df_of left ≡ df_after img v
  pub ef : current_ef_of left ≡ ef_after img v

abbrev pub EffectAndNoOther : Type 0
EffectAndNoOther = (img pool c : List ℕ) (st : State) (lent : ℕ) → Sound img
    → Effected img c (due_of img pool c st lent) (image_of img pool c st lent)

-- every byte of a record is as it was, but for the start of its body, if it has one
pub record SameButStart (v : ℕ) (old new : List ℕ) : Type 0 where
  pub bytes : (k : ℕ) → k < 62 → get_or new k 0 ≡ get_or old k 0
  pub rest : (0 < body_of v old → ⊥) → new ≡ old

-- a call that deletes the file in slot s: a DELETE answered 9000, of it or of one above
pub record Deleting (img pool c : List ℕ) (st : State) (lent s : ℕ) : Type 0 where
  pub delete : instruction c ≡ 0xE4
  pub answered : answer_word (reply_of img pool c st lent) ≡ 0x9000
  pub top : ℕ
  pub child : child_named (count_of img) (view_at img) (current_df_of img) (sent_identifier c) ≡ Some top
  pub over : at_or_beneath (view_at img) top s ≡ true

-- Demand 2: a terminated file stays terminated until it is deleted: over one command, it is deleted, or not one byte of its
-- record changes but for the start of its body, which CREATE may move
abbrev pub TerminatedStays : Type 0
TerminatedStays = (img pool c : List ℕ) (st : State) (lent s : ℕ) → Sound img → s < count_of img → (kind_of (rec_at img s) ≡ 0 → ⊥)
    → terminated_at img s ≡ true
    → (Deleting img pool c st lent s × (rec_at (image_of img pool c st lent) s ≡ free_bytes))
    ⊎ SameButStart (version_of img) (rec_at img s) (rec_at (image_of img pool c st lent) s)

-- a call: the pool, the command, the state, and how long a response is lent; the image after a list of them
pub record Call : Type 0 where
  pub pool : List ℕ
  pub command : List ℕ
  pub state : State
  pub lent : ℕ

abbrev pub image_after : List ℕ → Call → List ℕ
image_after img x = image_of img x.pool x.command x.state x.lent

abbrev pub after : List ℕ → List Call → List ℕ
after img [] = img
after img (x ∷ rest) = after (image_after img x) rest

-- the file in slot s is deleted by one of the calls
abbrev pub DeletedIn : List ℕ → List Call → ℕ → Type 0
DeletedIn img [] s = ⊥
DeletedIn img (x ∷ rest) s = Deleting img x.pool x.command x.state x.lent s ⊎ DeletedIn (image_after img x) rest s

-- .. and over any list of commands
abbrev pub TerminatedForGood : Type 0
TerminatedForGood = (calls : List Call) (img : List ℕ) (s : ℕ) → Sound img → s < count_of img → (kind_of (rec_at img s) ≡ 0 → ⊥)
    → terminated_at img s ≡ true
    → DeletedIn img calls s ⊎ SameButStart (version_of img) (rec_at img s) (rec_at (after img calls) s)

-- any two results that the contract of `card::command` allows are equal
abbrev pub OneResult : Type 0
OneResult = (img pool c : List ℕ) (st : State) (response : List ℕ)
    → Settles (Reply × (List ℕ × (List ℕ × List ℕ)))
    (λ p. CommandPromises img pool c st response p.0 p.1.0 p.1.1.0 p.1.1.1)

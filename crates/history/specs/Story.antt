-- A history: the card's image and the ledger beside it, command by command, each with the pool that it was given; and when CREATE has
-- passed every check before memory (01 "What the statements must tie down").
use Rattle.std.specs.Prelude.{◌≡◌, true, false, cond, List, [], ◌∷◌, ◌↔◌, ◌⊎◌, ℕ, eqb}
use Rattle.image.specs.Layout.{current_df_of}
use Rattle.sound.specs.Sound.{Sound}
use Rattle.create_data.specs.declared.Data.{Data}
use Rattle.std.specs.Prelude.{Option, Some, None}
use Rattle.create_data.specs.declared.Data.TheVariants.{Df, Ef}
use Rattle.create_data.specs.Data.{data_of}
use Rattle.verdict.specs.Words.{done, not_enough_memory}
use Rattle.verdict.specs.Applied.{sent_data}
use Rattle.judge_target.specs.Steps.{Step, all_hold}
use Rattle.judge_target.specs.Target.{new_size}
use Rattle.apdu.specs.Apdu.{instruction, sent_identifier, create_file, delete_file}
use Rattle.card.specs.Command.{answer_word, PoolFits, reply_of}
use Rattle.card.specs.Steps.{steps_of}
use Rattle.card.specs.Demands.{Call, image_after}
use Rattle.history.specs.Ledger.{Ledger, Announced, makes, deletes, neither, entered, opened}

-- what CREATE's data announce, and what a command does, to a card of the version that the maker was told
abbrev pub new_entry : Option Data → Announced
new_entry None = neither
new_entry (Some (Df x)) = makes x.identifier x.size true
new_entry (Some (Ef x)) = makes x.identifier x.size false

unfoldable pub announced : ℕ → List ℕ → Announced
announced v c =
    cond (eqb (instruction c) create_file) (new_entry (data_of v (sent_data c)))
    (cond (eqb (instruction c) delete_file) (deletes (sent_identifier c))
    neither)

-- the word of a call, on an image
abbrev pub word_for : List ℕ → Call → ℕ
word_for img x = answer_word (reply_of img x.pool x.command x.state x.lent)

-- the version that the maker was told, the card, and the ledger beside it
pub record Story : Type 0 where
  pub version : ℕ
  pub image : List ℕ
  pub ledger : Ledger

-- it begins with what the maker left, and the version and the total that it was given
abbrev pub begun : ℕ → List ℕ → ℕ → Story
begun v img total = record { version = v; image = img; ledger = opened total }

-- what the ledger hears of a call: what it announced, if it was answered 9000
unfoldable pub heard : ℕ → List ℕ → Call → Announced
heard v img x = cond (eqb (word_for img x) done) (announced v x.command) neither

abbrev pub hears : Story → Call → Announced
hears st x = heard st.version st.image x

-- one call: the ledger hears it, and which DF slot is current before and after
unfoldable pub next : Story → Call → Story
next st x = record {
  version = st.version;
  image = image_after st.image x;
  ledger = entered st.ledger (hears st x) (current_df_of st.image) (current_df_of (image_after st.image x));
}

-- any list of calls
abbrev pub played : Story → List Call → Story
played st [] = st
played st (x ∷ rest) = played (next st x) rest

-- a list of steps short of the last
abbrev pub but_last : List Step → List Step
but_last [] = []
but_last (s ∷ []) = []
but_last (s ∷ t ∷ rest) = s ∷ but_last (t ∷ rest)

-- a CREATE FILE of which every check before memory passes: its pool is the card's (answer 6), and A to L, of which memory is the last
pub record Ready (img : List ℕ) (x : Call) : Type 0 where
  pub create : instruction x.command ≡ create_file
  pub pool-fits : PoolFits img x.pool
  pub earlier : all_hold (but_last (steps_of img x.pool x.command x.state)) ≡ true

-- the size, or total, that it sends
abbrev pub size_sent : ℕ → Call → ℕ
size_sent v x = new_size (data_of v (sent_data x.command))

-- such CREATEs are just those answered 9000 or 6A84 (proofs/Memory, `ready_exactly`)
abbrev pub ReadyExactly : Type 0
ReadyExactly = (img : List ℕ) (x : Call) → Sound img → instruction x.command ≡ create_file
    → Ready img x ↔ ((word_for img x ≡ done) ⊎ (word_for img x ≡ not_enough_memory))

-- The text of a stream (01 "Replay"): `UFS`, version 1, N, total, then commands each after a 16-bit length; root rule 7F
-- and seven 00; sets full, no other channel.
use Rattle.std.specs.Prelude.{ℕ, zero, suc, ◌+◌, ◌*◌, ◌≡◌, Bool, true, false, cond, ◌&&◌, ◌||◌, List, [], ◌∷◌, ◌++◌, eqb, ltb, leb}
use Rattle.std.specs.Prelude.{length, get_or, replicate, Ok}
use Rattle.laws.specs.Lists.{part}
use Rattle.numbers.specs.Numbers.{u16_at, u32_at}
use Rattle.maker.specs.declared.Edition.{Edition}
use Rattle.image.specs.Layout.{has_bodies, version_of}
use Rattle.access.specs.Access.{compact}
use Rattle.sound.specs.Sound.{soundb}
use Rattle.verdict.specs.declared.State.{State}
use Rattle.maker.specs.Making.{made_of, made_number, left_by}
use Rattle.card.specs.Command.{reply_of, image_of, answer_word}
use Rattle.card.specs.Obeyed.{is_one_of}
use Rattle.card.specs.Demands.{words_of_table}
use Rattle.text.specs.Written.{big}
use Rattle.replay_text.specs.Text.{line_of, bad, cut}

-- sets full, no other channel
abbrev pub full : State
full = record {
  sets = record { messaging = 0xFFFF; external = 0xFFFF; user = 0xFFFF };
  channels = 0;
}

-- the root's rule
abbrev pub root_rule : List ℕ
root_rule = 0x7F ∷ 0 ∷ 0 ∷ 0 ∷ 0 ∷ 0 ∷ 0 ∷ 0 ∷ []

-- a card of version 1, at every level of 02, whose root's rule is compact
abbrev pub first_edition : Edition
first_edition = record { version = 1 }

-- the command whose length stands at `at`, and where the next begins
abbrev pub sent_at : List ℕ → ℕ → List ℕ
sent_at s at = part s (at + 2) (u16_at s at)

abbrev pub end_of : List ℕ → ℕ → ℕ
end_of s at = at + 2 + u16_at s at

-- the length, or the command after it, is cut short
unfoldable pub cut_short : List ℕ → ℕ → Bool
cut_short s at = ltb (length s) (at + 2) || ltb (length s) (end_of s at)

-- a response that is long enough for all that a command tells, and is never shown
abbrev pub lent : ℕ
lent = 67

-- what that command gives on an image, with an empty pool: its word, and the image afterwards
unfoldable pub word_at : List ℕ → ℕ → List ℕ → ℕ
word_at s at img = answer_word (reply_of img [] (sent_at s at) full lent)

unfoldable pub image_at : List ℕ → ℕ → List ℕ → List ℕ
image_at s at img = image_of img [] (sent_at s at) full lent

-- a sound image without bodies, as the fresh card of a stream is one: it takes the empty pool, and the response is long enough
abbrev pub Played : List ℕ → Type 0
Played img = (soundb img ≡ true) × (has_bodies (version_of img) ≡ false)

-- .. so that a command on it is always answered by a word of 01's table, never 0000, and leaves such an image (proofs/Worded,
-- `always_worded`)
abbrev pub AlwaysWorded : Type 0
AlwaysWorded = (s : List ℕ) (at : ℕ) (img : List ℕ) → Played img
    → (is_one_of (word_at s at img) words_of_table ≡ true) × Played (image_at s at img)

-- the lines from `at` on, of commands on one image in turn. A command has two bytes at least, its length, so that as many
-- turns as the stream has bytes are enough
unfoldable pub run_of : ℕ → List ℕ → ℕ → List ℕ → List ℕ
run_of zero s at img = []
run_of (suc turns) s at img =
    cond (ltb at (length s))
    (cond (cut_short s at)
    cut
    (line_of (word_at s at img) ++ run_of turns s (end_of s at) (image_at s at img)))
    []

-- all eleven bytes of a header: the mark, version 1
unfoldable pub good_header : List ℕ → Bool
good_header s =
    leb 11 (length s)
    && (eqb (get_or s 0 0) 0x55 && (eqb (get_or s 1 0) 0x46 && (eqb (get_or s 2 0) 0x53 && eqb (u16_at s 3) 1)))

-- a fresh card made in the buffer img, and the commands on it; or the maker refuses
unfoldable pub perform_of : List ℕ → List ℕ → List ℕ
perform_of s img =
    cond (eqb (made_number (made_of img first_edition (u32_at s 7) compact root_rule)) 0)
    (run_of (length s) s 11
    (left_by (made_of img first_edition (u32_at s 7) compact root_rule) img first_edition (u32_at s 7) compact root_rule))
    bad

-- the card that a stream begins with is one of those on which each command is answered by a word (proofs/Worded, `fresh-played`)
abbrev pub FreshPlayed : Type 0
FreshPlayed = (img : List ℕ) (total : ℕ) → made_of img first_edition total compact root_rule ≡ Ok tt
    → Played (left_by (Ok tt) img first_edition total compact root_rule)

-- over 32,768 bytes; a bad header; a card of N slots
unfoldable pub replay_of : List ℕ → List ℕ
replay_of s =
    cond (ltb 32768 (length s))
    big
    (cond (good_header s) (perform_of s (replicate (16 + 64 * u16_at s 5) 0)) bad)

-- What a verdict gives: its word, and image and pool afterwards, byte for byte. A refusal leaves them as they came.
use Rattle.std.specs.Prelude.{ℕ, List, drop, Result, Ok, Err}
use Rattle.laws.specs.Lists.{splice}
use Rattle.template.specs.Objects.{bytes_at}
use Rattle.image.specs.Layout.{set_life, set_current}
use Rattle.sound.specs.Effects.{made, filled, deleted, wiped}
use Rattle.verdict.specs.declared.Effect.{Effect}
use Rattle.verdict.specs.declared.Effect.TheVariants.{Select, Create, Delete, SetLife, Read, Update}
use Rattle.verdict.specs.Words.{done}

-- what judging answers: the effect that is due, or the word of a refusal
abbrev pub Verdict : Type 0
Verdict = Result Effect ℕ

abbrev pub word_of : Verdict → ℕ
word_of (Err word) = word
word_of (Ok (Select d e word)) = word
word_of (Ok (Create x)) = done
word_of (Ok (Delete s)) = done
word_of (Ok (SetLife s life)) = done
word_of (Ok (Read at n)) = done
word_of (Ok (Update at)) = done

-- the data of CREATE and UPDATE: what follows the five bytes up to Lc
abbrev pub sent_data : List ℕ → List ℕ
sent_data c = drop 5 c

-- the image after a verdict on the command c
abbrev pub applied_of : List ℕ → List ℕ → Verdict → List ℕ
applied_of img c (Err word) = img
applied_of img c (Ok (Select d e word)) = set_current img d e
applied_of img c (Ok (Create x)) = made img x.slot x.head (bytes_at (sent_data c) x.name) (bytes_at (sent_data c) x.rule)
applied_of img c (Ok (Delete s)) = deleted img s
applied_of img c (Ok (SetLife s life)) = set_life img s life
applied_of img c (Ok (Read at n)) = img
applied_of img c (Ok (Update at)) = img

-- .. and the pool
abbrev pub pooled_of : List ℕ → List ℕ → List ℕ → Verdict → List ℕ
pooled_of img pool c (Err word) = pool
pooled_of img pool c (Ok (Select d e word)) = pool
pooled_of img pool c (Ok (Create x)) = filled img pool x.head
pooled_of img pool c (Ok (Delete s)) = wiped img pool s
pooled_of img pool c (Ok (SetLife s life)) = pool
pooled_of img pool c (Ok (Read at n)) = pool
pooled_of img pool c (Ok (Update at)) = splice pool at (sent_data c)

-- One command of a stream: its line, where it ends, whether it is cut short, what it gives.
use native.Mathlib.Omega.{arith}
use mathlib.Core.Path.{◌≡◌, sym, ◌∙◌, ap}
use mathlib.Core.Bool.{Bool, true, false, ◌||◌, true≢false}
use mathlib.Core.List.{List, [], ◌∷◌}
use Prim.Native.Nat.{ℕ, ◌+◌, ◌-◌, ◌<◌, ◌≤◌, ◌/◌, ◌%◌}
use lib.Dec.{ltb}
use lib.ListN.{length, take, drop}
use borrow.Author.Tests.{lt-ltb, le-ltb, ltb-false}
use Rattle.laws.specs.Lists.{part, splice}
use Rattle.numbers.specs.Numbers.{u16_at}
use Rattle.card.specs.Command.{Reply}
use Rattle.card.specs.Command.{reply_of, image_of, answer_word, CommandPromises}
use Rattle.text.specs.Digits.{digit_of}
use Rattle.replay_text.specs.Text.{line_of}
use Rattle.replay_text.specs.Replay.{full, lent, sent_at, end_of, cut_short, word_at, image_at}

pub line_put : (l : List ℕ) (at w a b c d : ℕ) (y : List ℕ) → a ≡ digit_of (w / 4096) → b ≡ digit_of (w / 256 % 16)
    → c ≡ digit_of (w / 16 % 16) → d ≡ digit_of (w % 16) → y ≡ splice l at (a ∷ b ∷ c ∷ d ∷ 10 ∷ []) → y ≡ splice l at (line_of w)
unfolding line_of
line_put l at w a b c d y ea eb ec ed e = rw (← ea, ← eb, ← ec, ← ed) e

or_false : (a b : Bool) → (a || b) ≡ false → b ≡ false
or_false true b e = absurd (true≢false e)
or_false false b e = e

-- a command that is not cut short ends within the stream
pub whole : (s : List ℕ) (at : ℕ) → cut_short s at ≡ false → at + 2 + u16_at s at ≤ length s
unfolding cut_short
whole s at e = ltb-false (length s) (end_of s at) (or_false (ltb (length s) (at + 2)) (ltb (length s) (end_of s at)) e)

pub two-left : (s : List ℕ) (at : ℕ) → cut_short s at ≡ false → at + 2 ≤ length s
two-left s at e = omega (arith, whole s at e)

pub cut-length : (s : List ℕ) (at : ℕ) → length s < at + 2 → true ≡ cut_short s at
unfolding cut_short
cut-length s at h = ap (λ (t : Bool). t || ltb (length s) (end_of s at)) (sym (lt-ltb (length s) (at + 2) h))

pub cut-command : (s : List ℕ) (at to : ℕ) → at + 2 ≤ length s → to ≡ end_of s at → ltb (length s) to ≡ cut_short s at
unfolding cut_short
cut-command s at to h e =
    ap (λ (n : ℕ). ltb (length s) n) e
    ∙ ap (λ (t : Bool). t || ltb (length s) (end_of s at)) (sym (le-ltb (length s) (at + 2) h))

-- the part of the stream from at + 2 to where the command ends
pub sent-part : (s : List ℕ) (at to : ℕ) → to ≡ end_of s at → take (to - (at + 2)) (drop (at + 2) s) ≡ sent_at s at
unfolding part
sent-part s at to e =
    let f : to - (at + 2) ≡ u16_at s at = omega (arith, e) in
    ap (λ (n : ℕ). take n (drop (at + 2) s)) f

-- r is what the card answered, the case k, with a response o that is long enough
pub stepped : {img c o left z y : List ℕ} {r k : Reply} → CommandPromises img [] c full o r left z y → r ≡ k → length o ≡ lent
    → (answer_word k ≡ answer_word (reply_of img [] c full lent)) × (left ≡ image_of img [] c full lent)
stepped {img} {c} p e l = (
  ap answer_word (sym e ∙ p.reply) ∙ ap (λ (n : ℕ). answer_word (reply_of img [] c full n)) l,
  p.image ∙ ap (λ (n : ℕ). image_of img [] c full n) l,
)

pub turned-image : (s : List ℕ) (at : ℕ) (img c y : List ℕ) → c ≡ sent_at s at → y ≡ image_of img [] c full lent → y ≡ image_at s at img
unfolding image_at
turned-image s at img c y e h = h ∙ ap (λ (x : List ℕ). image_of img [] x full lent) e

pub turned_out : (s : List ℕ) (at : ℕ) (img c out y : List ℕ) (put w : ℕ) → c ≡ sent_at s at → w ≡ answer_word (reply_of img [] c full lent)
    → y ≡ splice out put (line_of w) → y ≡ splice out put (line_of (word_at s at img))
unfolding word_at
turned_out s at img c out y put w e h g =
    g ∙ ap (λ (n : ℕ). splice out put (line_of n)) (h ∙ ap (λ (x : List ℕ). answer_word (reply_of img [] x full lent)) e)

-- What one call gives, for any image, pool, command, state and response: the reply, and every byte of the image, of the pool and of the
-- response afterwards. `lent` is how many bytes the response has.
use Rattle.std.specs.Prelude.{ℕ, ◌+◌, ◌<◌, ◌≡◌, Bool, true, cond, List, eqb, leb, length, false, Result, Ok, Err}
use Rattle.laws.specs.Lists.{splice}
use Rattle.laws.specs.Tests.{implies}
use Rattle.image.specs.Layout.{has_bodies, longest_rule, version_of, count_of}
use Rattle.sound.specs.Sound.{soundb, pool_length}
use Rattle.verdict.specs.declared.State.{State}
use Rattle.verdict.specs.Applied.{word_of, applied_of, pooled_of, Verdict}
use Rattle.access.specs.declared.Decision.{Decision}
use Rattle.access.specs.Decision.{decision_number}
use Rattle.judge.specs.Judge.{judge_of}
use Rattle.judge_security.specs.Security.{denial_of}
use Rattle.effect.specs.Told.{told}
use Rattle.card.specs.declared.Answer.{Answer}
use Rattle.card.specs.declared.CardError.{CardError}
use Rattle.card.specs.declared.CardError.TheVariants.{Damaged, WrongPool}
use Rattle.card.specs.declared.CommandError.{CommandError}
use Rattle.card.specs.declared.CommandError.TheVariants.{Card, Short}

-- the reply to a command: its answer, or why there is none
abbrev pub Reply : Type 0
Reply = Result Answer CommandError

-- .. an answer, by its word, how many bytes were told and what a security refusal lacks
abbrev pub with_word : ℕ → ℕ → Decision → Reply
with_word w n d = Ok (record { word = w; told = n; security = d })

-- 01's number and word for each reply, how many bytes were told, and what a security refusal lacks: 0 and the word of the command; 1 and
-- 0000 where the image isn't sound; 5 and 0000 where the response is too short (02 Ticket 2); 6 and 0000 where the pool has a wrong length
-- (02 Ticket 4)
abbrev pub answer_number : Reply → ℕ
answer_number (Ok a) = 0
answer_number (Err (Card Damaged)) = 1
answer_number (Err Short) = 5
answer_number (Err (Card WrongPool)) = 6

abbrev pub answer_word : Reply → ℕ
answer_word (Ok a) = a.word
answer_word (Err e) = 0x0000

abbrev pub answer_told : Reply → ℕ
answer_told (Ok a) = a.told
answer_told (Err e) = 0

-- 02's number on security (02 Ticket 6): 0 no security refusal, 1 lacking, 2 closed
abbrev pub answer_security : Reply → ℕ
answer_security (Ok a) = decision_number a.security
answer_security (Err e) = 0

-- the check before all others of a command: where files have bodies, the pool is as long as the root's total; else any pool will do
unfoldable pub pool_fits : List ℕ → List ℕ → Bool
pool_fits img pool = implies (has_bodies (version_of img)) (eqb (length pool) (pool_length img))

-- .. which is to say
abbrev pub PoolFits : List ℕ → List ℕ → Type 0
PoolFits img pool = has_bodies (version_of img) ≡ true → length pool ≡ pool_length img

-- what the checks before all others tell of an image and a pool: a card of so many slots, or what makes them none, soundness first
abbrev pub Checked : List ℕ → List ℕ → Result ℕ CardError → Type 0
Checked img pool (Ok n) = (soundb img ≡ true) × ((pool_fits img pool ≡ true) × (n ≡ count_of img))
Checked img pool (Err Damaged) = soundb img ≡ false
Checked img pool (Err WrongPool) = (soundb img ≡ true) × (pool_fits img pool ≡ false)

-- the last check: what the verdict tells fits the response
unfoldable pub fits : List ℕ → List ℕ → List ℕ → State → ℕ → Bool
fits img pool c st lent = leb (length (told img pool c (judge_of img pool c st))) lent

-- the verdict that stands: where one of these two checks fails, a refusal without a word
unfoldable pub due_of : List ℕ → List ℕ → List ℕ → State → ℕ → Verdict
due_of img pool c st lent =
    cond (pool_fits img pool) (cond (fits img pool c st lent) (judge_of img pool c st) (Err 0x0000)) (Err 0x0000)

-- the longest data on a card of a version: a template, or what one READ asks for
unfoldable pub longest_answer : ℕ → ℕ
longest_answer v = cond (has_bodies v) 256 (37 + longest_rule v)

-- soundness first, then the pool's length; then the command is judged, tells, and has its effect
unfoldable pub reply_of : List ℕ → List ℕ → List ℕ → State → ℕ → Reply
reply_of img pool c st lent =
    let due : Verdict = due_of img pool c st lent in
    cond (soundb img)
    (cond (pool_fits img pool)
    (cond (fits img pool c st lent)
    (with_word (word_of due) (length (told img pool c due)) (denial_of img pool c st.sets due)) (Err Short)) (Err (Card WrongPool)))
    (Err (Card Damaged))

unfoldable pub image_of : List ℕ → List ℕ → List ℕ → State → ℕ → List ℕ
image_of img pool c st lent = cond (soundb img) (applied_of img c (due_of img pool c st lent)) img

unfoldable pub pool_of : List ℕ → List ℕ → List ℕ → State → ℕ → List ℕ
pool_of img pool c st lent = cond (soundb img) (pooled_of img pool c (due_of img pool c st lent)) pool

-- what is told stands at the start of the response; the bytes past it stay
unfoldable pub response_of : List ℕ → List ℕ → List ℕ → State → List ℕ → List ℕ
response_of img pool c st response =
    cond (soundb img) (splice response 0 (told img pool c (due_of img pool c st (length response)))) response

-- WHAT A CALL PROMISES: the reply, with its number, its word, how many bytes were told and what a security refusal lacks; every byte of
-- image, pool and response afterwards
pub record CommandPromises (img pool c : List ℕ) (st : State) (response : List ℕ) (r : Reply) (left kept answered : List ℕ) : Type 0 where
  pub reply : r ≡ reply_of img pool c st (length response)
  pub image : left ≡ image_of img pool c st (length response)
  pub pool_is : kept ≡ pool_of img pool c st (length response)
  pub response_is : answered ≡ response_of img pool c st response
  pub number : answer_number r
      ≡ cond (soundb img) (cond (pool_fits img pool) (cond (fits img pool c st (length response)) 0 5) 6) 1
  pub word : answer_word r ≡ cond (soundb img) (word_of (due_of img pool c st (length response))) 0x0000
  pub bytes : answer_told r ≡ cond (soundb img) (length (told img pool c (due_of img pool c st (length response)))) 0
  pub security : answer_security r
      ≡ cond (soundb img) (decision_number (denial_of img pool c st.sets (due_of img pool c st (length response)))) 0
  -- so few that every number holds them
  pub few : answer_told r < 65536

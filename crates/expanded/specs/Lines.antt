-- Rules on both sides of each line that 02 Ticket 3 draws. Asked is CREATE EF, b2 of the AM byte, with user authentication 1 done.
use Rattle.std.specs.Prelude.{ℕ, zero, suc, ◌≡◌, refl, cond, List, [], ◌∷◌, ◌++◌, length}
use Rattle.rules.specs.declared.Right.TheVariants.{CreateEf}
use Rattle.rules.specs.declared.Sets.{Sets}
use Rattle.rules.specs.Condition.{met, one_of, holds_of}
use Rattle.expanded.specs.Object.{objects_from, objects_of, every, some, several}
use Rattle.expanded.specs.Condition.{formed_plain, is_template, formed, sc_of, holds_plain, holds}
use Rattle.expanded.specs.Expanded.{is_am, am_after, in_place, goes_on, expanded_formed, opens, opens_one, expanded_grants}

pub data Answer : Type 0 where
  granted : Answer
  denied : Answer
  malformed : Answer

abbrev pub done : Sets
done = record { messaging = 0; external = 0; user = 0x0002 }

-- a rule that grants is told as granted even where it is malformed, so that none does so unseen
abbrev pub answer : List ℕ → Answer
answer rule = cond (expanded_grants rule CreateEf done) granted (cond (expanded_formed rule) denied malformed)

-- conditions: 90, 97, 9E with an SC byte that holds (11) and with one that does not (12)
abbrev pub always : List ℕ
always = 0x90 ∷ 0x00 ∷ []

abbrev pub never : List ℕ
never = 0x97 ∷ 0x00 ∷ []

abbrev pub holding : List ℕ
holding = 0x9E ∷ 0x01 ∷ 0x11 ∷ []

abbrev pub failing : List ℕ
failing = 0x9E ∷ 0x01 ∷ 0x12 ∷ []

-- templates: A0 or AF over conditions, and always in so many templates
abbrev pub template : ℕ → List ℕ → List ℕ
template tag conditions = tag ∷ length conditions ∷ conditions

abbrev pub deep : ℕ → List ℕ
deep zero = always
deep (suc n) = template 0xA0 (never ++ deep n)

-- conditions so many times
abbrev pub times : ℕ → List ℕ → List ℕ
times zero conditions = []
times (suc n) conditions = conditions ++ times n conditions

-- an AM_DO and its SC_DOs
abbrev pub group : ℕ → List ℕ → List ℕ
group am conditions = 0x80 ∷ 0x01 ∷ am ∷ conditions

-- a rule, and what it answers
abbrev pub rows : List (List ℕ × Answer)
rows =
    -- 90 always, 97 never, 9E an SC byte; an AM byte without the bit
    (group 0x02 always, granted) ∷ (group 0x02 never, denied) ∷ (group 0x02 holding, granted) ∷ (group 0x02 failing, denied)
    ∷ (group 0x04 always, denied)
    -- of several SC_DOs in a row, one suffices
    ∷ (group 0x02 (never ++ holding), granted) ∷ (group 0x02 (never ++ failing), denied)
    -- A0 a template of which one must hold, AF of which all must
    ∷ (group 0x02 (template 0xA0 (failing ++ holding)), granted) ∷ (group 0x02 (template 0xA0 (failing ++ never)), denied)
    ∷ (group 0x02 (template 0xAF (always ++ holding)), granted) ∷ (group 0x02 (template 0xAF (always ++ failing)), denied)
    -- groups are alternatives
    ∷ (group 0x02 never ++ group 0x02 always, granted) ∷ (group 0x04 always ++ group 0x02 never, denied)
    -- templates may nest four deep, and hold at least two conditions
    ∷ (group 0x02 (deep 4), granted) ∷ (group 0x02 (deep 5), malformed) ∷ (group 0x02 (template 0xA0 always), malformed)
    -- 90 and 97 with a value, 9E without one, another tag
    ∷ (group 0x02 (0x90 ∷ 0x01 ∷ 0x00 ∷ []), malformed) ∷ (group 0x02 (0x97 ∷ 0x01 ∷ 0x00 ∷ []), malformed)
    ∷ (group 0x02 (0x9E ∷ 0x00 ∷ []), malformed) ∷ (group 0x02 (template 0xA4 holding), malformed)
    -- a template with no condition, an AM_DO in one; 9E with two bytes
    ∷ (group 0x02 (template 0xAF []), malformed) ∷ (group 0x02 (template 0xA0 (group 0x02 always)), malformed)
    ∷ (group 0x02 (0x9E ∷ 0x02 ∷ 0x11 ∷ 0x11 ∷ []), malformed)
    -- lengths are 00-7F: 63 conditions of two bytes are 7E, 64 are 80
    ∷ (group 0x02 (template 0xAF (times 63 always)), granted) ∷ (group 0x02 (template 0xAF (times 64 always)), malformed)
    -- an inner length past the outer's end: at the rule's end, where the next SC_DO begins, and two bytes of which one is there
    ∷ (group 0x02 (0xA0 ∷ 0x04 ∷ 0x90 ∷ 0x00 ∷ 0x9E ∷ 0x01 ∷ 0x11 ∷ []), malformed)
    ∷ (group 0x02 (0xA0 ∷ 0x04 ∷ 0x90 ∷ 0x00 ∷ 0x9E ∷ 0x01 ∷ always), malformed)
    ∷ (group 0x02 (0xA0 ∷ 0x05 ∷ 0x90 ∷ 0x00 ∷ 0x9E ∷ 0x02 ∷ 0x11 ∷ always), malformed)
    -- a length past the rule's end; a tag alone
    ∷ (group 0x02 (0x9E ∷ 0x02 ∷ 0x11 ∷ []), malformed) ∷ (group 0x02 (0x90 ∷ []), malformed)
    -- an AM_DO with b8, without an SC_DO, before another, behind its SC_DO
    ∷ (group 0x82 always, malformed) ∷ (group 0x02 [], malformed) ∷ (group 0x02 (group 0x02 always), malformed)
    ∷ (always ++ group 0x02 [], malformed)
    -- of no byte, of two; an AM byte 00 asks for an SC_DO too, and opens nothing
    ∷ (0x80 ∷ 0x00 ∷ always, malformed) ∷ (0x80 ∷ 0x02 ∷ 0x02 ∷ 0x02 ∷ always, malformed)
    ∷ (group 0x00 always, denied) ∷ (group 0x00 [], malformed)
    -- no byte
    ∷ ([], malformed)
    ∷ []

abbrev pub answers : List (List ℕ × Answer) → List Answer
answers [] = []
answers (r ∷ rs) = answer r.0 ∷ answers rs

abbrev pub expected : List (List ℕ × Answer) → List Answer
expected [] = []
expected (r ∷ rs) = r.1 ∷ expected rs

pub lines : answers rows ≡ expected rows
unfolding objects_from objects_of every some several formed_plain is_template formed sc_of holds_plain holds met one_of holds_of is_am
    am_after in_place goes_on expanded_formed opens opens_one expanded_grants
lines = refl

-- What a security refusal lacks (02 Ticket 6): the number of a call, as statements over what it gives (specs/Command). Each is proved in
-- proofs/Security under the same name in small letters.
use Rattle.std.specs.Prelude.{◌≡◌, true, List, ◌⊎◌, ◌↔◌, ℕ}
use Rattle.rules.specs.declared.Right.TheVariants.{DeleteSelf, DeleteChild}
use Rattle.rules.specs.declared.Sets.{Sets}
use Rattle.image.specs.Layout.{current_df_of}
use Rattle.access.specs.declared.Decision.TheVariants.{Lacking, Closed}
use Rattle.access.specs.Decision.{IsState}
use Rattle.verdict.specs.declared.State.{State}
use Rattle.apdu.specs.Apdu.{instruction}
use Rattle.judge_target.specs.Target.{decision_at}
use Rattle.judge_security.specs.Security.{holds_j, under}
use Rattle.card.specs.Command.{answer_number, answer_word, answer_security, reply_of}
use Rattle.card.specs.Steps.{steps_of}
use Rattle.card.specs.Conditions.{named_child}

-- the number is 1 or 2 exactly with answer 0 and word 6982, and else it is 0: with every other word, and with the answers 1, 5 and 6
abbrev pub NumberExactly : Type 0
NumberExactly = (img pool c : List ℕ) (st : State) (lent : ℕ)
    → (((answer_security (reply_of img pool c st lent) ≡ 1) ⊎ (answer_security (reply_of img pool c st lent) ≡ 2))
    ↔ ((answer_number (reply_of img pool c st lent) ≡ 0) × (answer_word (reply_of img pool c st lent) ≡ 0x6982)))
    × ((answer_word (reply_of img pool c st lent) ≡ 0x6982 → ⊥) → answer_security (reply_of img pool c st lent) ≡ 0)

-- step J of this command on this image passes, had just these sets been authenticated
abbrev pub PassesJ : List ℕ → List ℕ → List ℕ → State → Sets → Type 0
PassesJ img pool c st y = holds_j (steps_of img pool c (under st y)) ≡ true

-- WHAT THE NUMBER SAYS of a call that is refused with 6982, whatever the command: 1 exactly if some state would have made step J pass, 2
-- exactly if none would
abbrev pub LacksExactly : Type 0
LacksExactly = (img pool c : List ℕ) (st : State) (lent : ℕ) → answer_word (reply_of img pool c st lent) ≡ 0x6982
    → ((answer_security (reply_of img pool c st lent) ≡ 1) ↔ ((y : Sets) × (IsState y × PassesJ img pool c st y)))
    × ((answer_security (reply_of img pool c st lent) ≡ 2) ↔ ((y : Sets) → PassesJ img pool c st y → ⊥))

-- .. and told by nothing but replies: 1 exactly if the same call under some state gives another word (0000 of answer 5 among them), 2
-- exactly if it gives 6982 under every one
abbrev pub OtherStates : Type 0
OtherStates = (img pool c : List ℕ) (st : State) (lent : ℕ) → answer_word (reply_of img pool c st lent) ≡ 0x6982
    → ((answer_security (reply_of img pool c st lent) ≡ 1)
    ↔ ((y : Sets) × (IsState y × (answer_word (reply_of img pool c (under st y) lent) ≡ 0x6982 → ⊥))))
    × ((answer_security (reply_of img pool c st lent) ≡ 2) ↔ ((y : Sets) → answer_word (reply_of img pool c (under st y) lent) ≡ 0x6982))

-- DELETE's two rules, the child's own and its directory's: lacking wins over closed
abbrev pub DeleteLacks : Type 0
DeleteLacks = (img pool c : List ℕ) (st : State) (lent : ℕ) → instruction c ≡ 0xE4 → answer_word (reply_of img pool c st lent) ≡ 0x6982
    → ((answer_security (reply_of img pool c st lent) ≡ 1)
    ↔ ((decision_at img pool (named_child img c) DeleteSelf st.sets ≡ Lacking)
    ⊎ (decision_at img pool (current_df_of img) DeleteChild st.sets ≡ Lacking)))
    × ((answer_security (reply_of img pool c st lent) ≡ 2)
    ↔ ((decision_at img pool (named_child img c) DeleteSelf st.sets ≡ Closed)
    × (decision_at img pool (current_df_of img) DeleteChild st.sets ≡ Closed)))

-- What a rule decides, of three (02 Ticket 6): it grants; it is lacking, where some security state would open it; it is closed, where none
-- would. A security state is any value of the three sets. Each theorem is proved in proofs/Decided under the same name in small letters.
use Rattle.std.specs.Prelude.{ℕ, ◌<◌, ◌≡◌, Bool, true, false, cond, ◌||◌, List, ◌⊎◌, ◌↔◌}
use Rattle.rules.specs.declared.Right.{Right}
use Rattle.rules.specs.declared.Sets.{Sets}
use Rattle.rules.specs.Condition.{Wider}
use Rattle.access.specs.declared.Decision.{Decision}
use Rattle.access.specs.declared.Decision.TheVariants.{Granted, Lacking, Closed}
use Rattle.access.specs.Access.{granted_of}

-- 02's number for each: 0 no security refusal, 1 lacking, 2 closed
abbrev pub decision_number : Decision → ℕ
decision_number Granted = 0
decision_number Lacking = 1
decision_number Closed = 2

abbrev pub is_granted : Decision → Bool
is_granted Granted = true
is_granted Lacking = false
is_granted Closed = false

-- a security state: three sets of sixteen bits
pub record IsState (y : Sets) : Type 0 where
  pub messaging : y.messaging < 65536
  pub external : y.external < 65536
  pub user : y.user < 65536

-- WHAT A DECISION SAYS, over all security states
pub record Decides (form : ℕ) (rule : List ℕ) (right : Right) (x : Sets) (d : Decision) : Type 0 where
  -- the rule grants, under what has been authenticated
  pub granted : (d ≡ Granted) ↔ (granted_of form rule right x ≡ true)
  -- it does not, and some state would open it
  pub lacking : (d ≡ Lacking)
      ↔ ((granted_of form rule right x ≡ false) × ((y : Sets) × (IsState y × (granted_of form rule right y ≡ true))))
  -- no state opens it, nor would any larger sets
  pub closed : (d ≡ Closed) ↔ ((y : Sets) → granted_of form rule right y ≡ false)

-- all that could be authenticated
abbrev pub full : Sets
full = record { messaging = 0xFFFF; external = 0xFFFF; user = 0xFFFF }

-- the decision, as it is computed: conditions ask for authentication and never for its absence (`MoreOpens`), so the full sets tell whether
-- any state opens the rule
unfoldable pub decision_of : ℕ → List ℕ → Right → Sets → Decision
decision_of form rule right x = cond (granted_of form rule right x) Granted (cond (granted_of form rule right full) Lacking Closed)

-- what a state opens, a wider one opens: conditions are monotone, nested ones too
abbrev pub MoreOpens : Type 0
MoreOpens = (form : ℕ) (rule : List ℕ) (right : Right) (x y : Sets) → Wider x y
    → granted_of form rule right x ≡ true → granted_of form rule right y ≡ true

-- it is the decision that was meant, for a rule of any form and length, and there is no other
abbrev pub DecisionSays : Type 0
DecisionSays = (form : ℕ) (rule : List ℕ) (right : Right) (x : Sets) → Decides form rule right x (decision_of form rule right x)

abbrev pub OneDecision : Type 0
OneDecision = (form : ℕ) (rule : List ℕ) (right : Right) (x : Sets) (d e : Decision)
    → Decides form rule right x d → Decides form rule right x e → d ≡ e

-- "granted" is what it was
abbrev pub GrantedStays : Type 0
GrantedStays = (form : ℕ) (rule : List ℕ) (right : Right) (x : Sets)
    → is_granted (decision_of form rule right x) ≡ granted_of form rule right x

-- where one of two rules suffices: lacking wins over closed
abbrev pub either : Decision → Decision → Decision
either Granted e = Granted
either Lacking Granted = Granted
either Lacking Lacking = Lacking
either Lacking Closed = Lacking
either Closed e = e

-- .. it grants where one does, is lacking where one is and none grants, and closed where both are
abbrev pub EitherSays : Type 0
EitherSays = (a b : Decision)
    → (is_granted (either a b) ≡ (is_granted a || is_granted b))
    × ((either a b ≡ Lacking) ↔ ((is_granted (either a b) ≡ false) × ((a ≡ Lacking) ⊎ (b ≡ Lacking))))
    × ((either a b ≡ Closed) ↔ ((a ≡ Closed) × (b ≡ Closed)))

-- 02 Ticket 7 over one call: the rule that a command asks is read in the pool as it is when the command comes. Each is proved in
-- proofs/Rules under the same name in small letters. Which file counts and what denies stands in referred/specs/Ticket.
use Rattle.std.specs.Prelude.{ℕ, ◌*◌, ◌-◌, ◌≤◌, ◌≡◌, true, List, None}
use Rattle.laws.specs.Lists.{part}
use Rattle.rules.specs.declared.Right.{Right}
use Rattle.rules.specs.declared.Sets.{Sets}
use Rattle.image.specs.Layout.{count_of, rec_at, record_length_of, size_of}
use Rattle.access.specs.declared.Decision.TheVariants.{Closed}
use Rattle.access.specs.Access.{expanded, granted_of}
use Rattle.access.specs.Decision.{decision_of}
use Rattle.pool.specs.Bodies.{body_bytes}
use Rattle.sound.specs.Sound.{Sound}
use Rattle.referred.specs.Padding.{Padded}
use Rattle.referred.specs.Deciding.{named_record_of, is_linear, place_of}
use Rattle.referred.specs.Ticket.{Names}
use Rattle.judge_target.specs.Target.{rule_at, allowed_at, decision_at}
use Rattle.card.specs.Command.{PoolFits}

-- record number i of the file in slot t, as its body holds it at this moment
abbrev pub record_now : List ℕ → List ℕ → ℕ → ℕ → List ℕ
record_now img pool t i = part (body_bytes img pool t) ((i - 1) * record_length_of (rec_at img t)) (record_length_of (rec_at img t))

-- the rule of slot s names a record of the linear fixed EF in slot t, another file; r is the rule that this record now holds
pub record Ruled (img pool : List ℕ) (s t : ℕ) (r : List ℕ) : Type 0 where
  pub names : Names (count_of img) img s t
  pub other : t ≡ s → ⊥
  pub linear : is_linear (rec_at img t) ≡ true
  pub first : 1 ≤ named_record_of (rec_at img s)
  pub last : named_record_of (rec_at img s) * record_length_of (rec_at img t) ≤ size_of (rec_at img t)
  pub held : Padded (record_now img pool t (named_record_of (rec_at img s))) r

-- DEMAND 2 READS THE RULE AT THE MOMENT OF THE COMMAND: every right of the ruled file is what that rule grants, and lacks what it lacks
abbrev pub RuleOfTheMoment : Type 0
RuleOfTheMoment = (img pool : List ℕ) (s t : ℕ) (r : List ℕ) → Sound img → PoolFits img pool → Ruled img pool s t r
    → (rule_at img pool s ≡ r)
    × ((right : Right) (x : Sets)
    → (allowed_at img pool s right x ≡ granted_of expanded r right x) × (decision_at img pool s right x ≡ decision_of expanded r right x))

-- and where the search denies, every right is closed
abbrev pub DenialsClosed : Type 0
DenialsClosed = (img pool : List ℕ) (s : ℕ) (right : Right) (x : Sets)
    → place_of (count_of img) img pool s ≡ None → decision_at img pool s right x ≡ Closed

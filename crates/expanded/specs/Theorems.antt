-- The two writings of a rule (02 Ticket 3): "a compact rule with any SC byte and its expanded writing decide alike, at any length".
use Rattle.std.specs.Prelude.{ℕ, ◌≡◌, true, List, []}
use Rattle.rules.specs.declared.Right.{Right}
use Rattle.rules.specs.declared.Sets.{Sets}
use Rattle.rules.specs.Group.{some_group}
use Rattle.rules.specs.Rule.{compact_grants}
use Rattle.expanded.specs.Expanded.{expanded_formed, expanded_grants}
use Rattle.expanded.specs.Writing.{expanded_writing, has_sc}

-- any bytes, of any length, as a compact rule: for every right and all sets
abbrev pub WritingDecides : Type 0
WritingDecides = (rule : List ℕ) (right : Right) (x : Sets) → expanded_grants (expanded_writing rule) right x ≡ compact_grants rule right x

-- the writing is well formed unless it is empty
abbrev pub WritingFormed : Type 0
WritingFormed = (rule : List ℕ) → (expanded_writing rule ≡ [] → ⊥) → expanded_formed (expanded_writing rule) ≡ true

-- and that exactly where some group has an SC byte: AM bytes 00 alone deny everything, and their writing is empty
abbrev pub WritingFormedWhere : Type 0
WritingFormedWhere = (rule : List ℕ) → expanded_formed (expanded_writing rule) ≡ some_group (has_sc rule) rule

-- Both sides of each line of what a rule decides (02 Ticket 6), computed: rules of either form under some sets, each with 02's number of
-- its decision; then which referred rules are well formed (02 Ticket 7). Proved in proofs/Lines, `decisions_told` and `references_told`.
use Rattle.std.specs.Prelude.{ℕ, ◌≡◌, true, false, List, [], ◌∷◌, ◌++◌}
use Rattle.rules.specs.declared.Right.TheVariants.{Activate, Deactivate}
use Rattle.rules.specs.declared.Sets.{Sets}
use Rattle.access.specs.Access.{compact, expanded, referred, well_formed}
use Rattle.access.specs.Decision.{full, decision_number, decision_of}

abbrev pub nobody : Sets
nobody = record { messaging = 0; external = 0; user = 0 }

-- user 1 and nothing else; external 2 and nothing else
abbrev pub user1 : Sets
user1 = record { messaging = 0; external = 0; user = 0x0002 }

abbrev pub external2 : Sets
external2 = record { messaging = 0; external = 0x0004; user = 0 }

-- the right to activate, b5, by a compact rule; by an expanded one of these SC_DOs
abbrev pub by_bytes : List ℕ → Sets → ℕ
by_bytes rule x = decision_number (decision_of compact rule Activate x)

abbrev pub by_objects : List ℕ → Sets → ℕ
by_objects conditions x = decision_number (decision_of expanded (0x80 ∷ 0x01 ∷ 0x10 ∷ conditions) Activate x)

-- an SC byte alone: always, never, user 1
abbrev pub SingleBytes : Type 0
SingleBytes =
    (by_bytes (0x10 ∷ 0x00 ∷ []) nobody ∷ by_bytes (0x10 ∷ 0xFF ∷ []) nobody ∷ by_bytes (0x10 ∷ 0xFF ∷ []) full
    ∷ by_bytes (0x10 ∷ 0x11 ∷ []) nobody ∷ by_bytes (0x10 ∷ 0x11 ∷ []) external2 ∷ by_bytes (0x10 ∷ 0x11 ∷ []) user1
    ∷ [])
    ≡ 0 ∷ 2 ∷ 2 ∷ 1 ∷ 1 ∷ 0 ∷ []

-- n = 15 is closed, n = 14 lacks; no condition named is closed, and so is a right that no group has
abbrev pub NeverOpened : Type 0
NeverOpened =
    (by_bytes (0x10 ∷ 0x1F ∷ []) nobody ∷ by_bytes (0x10 ∷ 0x1F ∷ []) full ∷ by_bytes (0x10 ∷ 0x9F ∷ []) full
    ∷ by_bytes (0x10 ∷ 0x1E ∷ []) nobody ∷ by_bytes (0x10 ∷ 0x01 ∷ []) full ∷ by_bytes (0x10 ∷ 0x80 ∷ []) nobody
    ∷ by_bytes (0x00 ∷ []) full ∷ decision_number (decision_of compact (0x10 ∷ 0x00 ∷ []) Deactivate full)
    ∷ [])
    ≡ 2 ∷ 2 ∷ 2 ∷ 1 ∷ 2 ∷ 2 ∷ 2 ∷ 2 ∷ []

-- all of external 2 and user 2, with one of them; one of them, with none; groups are alternatives, and a closed one closes no other
abbrev pub SeveralBytes : Type 0
SeveralBytes =
    (by_bytes (0x10 ∷ 0xB2 ∷ []) external2 ∷ by_bytes (0x10 ∷ 0x32 ∷ []) nobody ∷ by_bytes (0x10 ∷ 0x32 ∷ []) external2
    ∷ by_bytes (0x10 ∷ 0xFF ∷ 0x10 ∷ 0x11 ∷ []) nobody ∷ by_bytes (0x10 ∷ 0xFF ∷ 0x10 ∷ 0x1F ∷ []) full
    ∷ [])
    ≡ 1 ∷ 1 ∷ 0 ∷ 1 ∷ 2 ∷ []

-- expanded: 90, 97, a 9E of user 1 and one of n = 15
abbrev pub SingleObjects : Type 0
SingleObjects =
    (by_objects (0x90 ∷ 0x00 ∷ []) nobody ∷ by_objects (0x97 ∷ 0x00 ∷ []) full
    ∷ by_objects (0x9E ∷ 0x01 ∷ 0x11 ∷ []) nobody ∷ by_objects (0x9E ∷ 0x01 ∷ 0x11 ∷ []) user1
    ∷ by_objects (0x9E ∷ 0x01 ∷ 0x1F ∷ []) nobody ∷ by_objects (0x97 ∷ 0x00 ∷ 0x9E ∷ 0x01 ∷ 0x11 ∷ []) nobody
    ∷ [])
    ≡ 0 ∷ 2 ∷ 1 ∷ 0 ∷ 2 ∷ 1 ∷ []

abbrev pub both_with : List ℕ → List ℕ
both_with other = 0xAF ∷ 0x05 ∷ 0x9E ∷ 0x01 ∷ 0x11 ∷ other

abbrev pub one_with : List ℕ → List ℕ
one_with other = 0xA0 ∷ 0x05 ∷ 0x9E ∷ 0x01 ∷ 0x11 ∷ other

-- of AF all must be openable, of A0 one: user 1 with 97 and with 90; one in the other; a template of one condition is malformed
abbrev pub Nested : Type 0
Nested =
    (by_objects (both_with (0x97 ∷ 0x00 ∷ [])) nobody ∷ by_objects (both_with (0x90 ∷ 0x00 ∷ [])) nobody
    ∷ by_objects (one_with (0x97 ∷ 0x00 ∷ [])) nobody ∷ by_objects (one_with (0x97 ∷ 0x00 ∷ [])) user1
    ∷ by_objects (0xAF ∷ 0x09 ∷ one_with (0x97 ∷ 0x00 ∷ []) ++ (0x97 ∷ 0x00 ∷ [])) user1
    ∷ by_objects (0xA0 ∷ 0x09 ∷ both_with (0x97 ∷ 0x00 ∷ []) ++ (0x97 ∷ 0x00 ∷ [])) full
    ∷ by_objects (0xA0 ∷ 0x09 ∷ both_with (0x90 ∷ 0x00 ∷ []) ++ (0x97 ∷ 0x00 ∷ [])) nobody
    ∷ by_objects (0xAF ∷ 0x02 ∷ 0x90 ∷ 0x00 ∷ []) full
    ∷ [])
    ≡ 2 ∷ 1 ∷ 1 ∷ 0 ∷ 2 ∷ 2 ∷ 1 ∷ 2 ∷ []

abbrev pub DecisionsTold : Type 0
DecisionsTold = SingleBytes × NeverOpened × SeveralBytes × SingleObjects × Nested

-- a reference has three bytes, and no more or less; asked itself it is closed, whatever they are
abbrev pub ReferencesTold : Type 0
ReferencesTold =
    ((well_formed referred [] ∷ well_formed referred (0x6F ∷ 0x06 ∷ []) ∷ well_formed referred (0x6F ∷ 0x06 ∷ 0x01 ∷ [])
    ∷ well_formed referred (0x6F ∷ 0x06 ∷ 0x01 ∷ 0x01 ∷ []) ∷ well_formed referred (0x00 ∷ 0x00 ∷ 0x00 ∷ [])
    ∷ [])
    ≡ false ∷ false ∷ true ∷ false ∷ true ∷ [])
    × ((decision_number (decision_of referred (0x6F ∷ 0x06 ∷ 0x01 ∷ []) Activate full)
    ∷ decision_number (decision_of referred (0x10 ∷ 0x00 ∷ 0x00 ∷ []) Activate full)
    ∷ [])
    ≡ 2 ∷ 2 ∷ [])

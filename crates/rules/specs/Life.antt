-- The life-cycle byte (01 "Image", offset 2): soundness and commands speak of its class alone, never of the
-- byte. specs/Bytes lists which bytes are in each.
use Rattle.std.specs.Prelude.{ℕ, Bool, true, false, not, cond, ◌&&◌, ◌||◌, eqb, Option, Some, None}
use Rattle.rules.specs.declared.life_cycle.Life.{Life}
use Rattle.rules.specs.declared.life_cycle.Life.TheVariants.{Creation, Initialisation, Activated, Deactivated, Terminated}

-- the classes; none for a byte that is no life cycle
abbrev pub no_life : Option Life
no_life = None

abbrev pub creation : Option Life
creation = Some Creation

abbrev pub initialisation : Option Life
initialisation = Some Initialisation

abbrev pub activated : Option Life
activated = Some Activated

abbrev pub deactivated : Option Life
deactivated = Some Deactivated

abbrev pub terminated : Option Life
terminated = Some Terminated

-- two classes are the same one
abbrev pub same_life : Option Life → Option Life → Bool
same_life None None = true
same_life (Some Creation) (Some Creation) = true
same_life (Some Initialisation) (Some Initialisation) = true
same_life (Some Activated) (Some Activated) = true
same_life (Some Deactivated) (Some Deactivated) = true
same_life (Some Terminated) (Some Terminated) = true
same_life _ _ = false

-- the bytes that the card itself writes
abbrev pub activated_byte : ℕ
activated_byte = 0x05

abbrev pub deactivated_byte : ℕ
deactivated_byte = 0x04

abbrev pub terminated_byte : ℕ
terminated_byte = 0x0C

-- a line for each byte; in the operational states, 04 to 07, bit 2 is open (02 Ticket 1)
unfoldable pub life_of : ℕ → Option Life
life_of x =
    cond (eqb x 0x01) creation
    (cond (eqb x 0x03) initialisation
    (cond (eqb x 0x04) deactivated
    (cond (eqb x 0x05) activated
    (cond (eqb x 0x06) deactivated
    (cond (eqb x 0x07) activated
    (cond (eqb x 0x0C) terminated no_life))))))

abbrev pub is_activated : ℕ → Bool
is_activated x = same_life (life_of x) activated

abbrev pub is_deactivated : ℕ → Bool
is_deactivated x = same_life (life_of x) deactivated

abbrev pub is_terminated : ℕ → Bool
is_terminated x = same_life (life_of x) terminated

-- a record may hold it
unfoldable pub known_life : ℕ → Bool
known_life x = not (same_life (life_of x) no_life)

-- CREATE FILE takes it: any known one but a terminated
unfoldable pub new_life : ℕ → Bool
new_life x = known_life x && not (is_terminated x)

-- ACTIVATE FILE takes it to activated: creation, initialisation or deactivated
unfoldable pub can_activate : ℕ → Bool
can_activate x = same_life (life_of x) creation || (same_life (life_of x) initialisation || same_life (life_of x) deactivated)

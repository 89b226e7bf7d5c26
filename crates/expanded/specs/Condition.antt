-- Conditions of an expanded rule, SC_DOs (02 Ticket 3): 90 always, 97 never, 9E an SC byte, A0 a template of which one must hold,
-- AF of which all must. Templates may nest four deep and hold at least two conditions: the number that falls is how many
-- templates may still stand inside one another.
use Rattle.std.specs.Prelude.{ℕ, zero, suc, Bool, true, false, cond, ◌&&◌, length, get_or, List, eqb}
use Rattle.rules.specs.declared.Sets.{Sets}
use Rattle.rules.specs.Condition.{holds_of}
use Rattle.expanded.specs.Object.{Object, object, cut, objects_of, every, some, several}

-- 90 and 97 hold nothing, 9E an SC byte
unfoldable pub formed_plain : ℕ → List ℕ → Bool
formed_plain tag v =
    cond (eqb tag 0x90) (eqb (length v) 0)
    (cond (eqb tag 0x97) (eqb (length v) 0)
    (cond (eqb tag 0x9E) (eqb (length v) 1) false))

-- conditions stand in A0 and in AF
unfoldable pub is_template : ℕ → Bool
is_template tag = cond (eqb tag 0xA0) true (eqb tag 0xAF)

-- an object is a well formed condition, nested so deep at most: a template holds at least two, each one less deep
unfoldable pub formed : ℕ → Object → Bool
formed zero (object tag v) = formed_plain tag v
formed zero cut = false
formed (suc left) (object tag v) =
    cond (is_template tag) (several (objects_of v) && every (formed left) (objects_of v)) (formed_plain tag v)
formed (suc left) cut = false

-- the SC byte; FF, never, where it isn't there
unfoldable pub sc_of : List ℕ → ℕ
sc_of v = cond (eqb (length v) 1) (get_or v 0 0) 0xFF

-- 90 always, 97 never, 9E by its SC byte
unfoldable pub holds_plain : Sets → ℕ → List ℕ → Bool
holds_plain x tag v =
    cond (eqb tag 0x90) true
    (cond (eqb tag 0x9E) (holds_of (sc_of v) x) false)

-- a condition holds, under what has been authenticated: of A0 one must, of AF all
unfoldable pub holds : ℕ → Sets → Object → Bool
holds zero x (object tag v) = holds_plain x tag v
holds zero x cut = false
holds (suc left) x (object tag v) =
    cond (eqb tag 0xA0) (some (holds left x) (objects_of v))
    (cond (eqb tag 0xAF) (every (holds left x) (objects_of v))
    (holds_plain x tag v))
holds (suc left) x cut = false

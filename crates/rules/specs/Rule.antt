-- A compact rule: which are well formed, and what one decides (01 "Descriptor and rules").
use Rattle.std.specs.Prelude.{ℕ, Bool, not, ◌||◌, List, length, get_or, ltb}
use Rattle.rules.specs.declared.Right.{Right}
use Rattle.rules.specs.declared.Right.TheVariants.{DeleteSelf, Terminate, Activate, Deactivate, CreateDf, CreateEf, DeleteChild}
use Rattle.rules.specs.declared.Right.TheVariants.{Update, Read}
use Rattle.rules.specs.declared.Sets.{Sets}
use Rattle.rules.specs.Condition.{holds_of}
use Rattle.rules.specs.Group.{slots_of, next_of, some_group}

-- the group at `at` has b8 of its AM byte set, or runs past the end of the rule
unfoldable pub malformed_at : List ℕ → ℕ → Bool
malformed_at rule at = ltb 127 (get_or rule at 0) || ltb (length rule) (next_of rule at)

-- AM b8 set is malformed; groups fill the rule exactly
unfoldable pub compact_formed : List ℕ → Bool
compact_formed rule = not (some_group (malformed_at rule) rule)

-- the group at `at` has a condition in slot k, and it holds
unfoldable pub holds_at : List ℕ → ℕ → Sets → ℕ → Bool
holds_at rule k x at = holds_of (get_or (slots_of rule at) k 0) x

-- groups are alternatives; a bit in no group is denied
unfoldable pub allows_of : List ℕ → ℕ → Sets → Bool
allows_of rule k x = some_group (holds_at rule k x) rule

-- the slot of a right's bit: for a DF b7 delete self, b6 terminate, b5 activate, b4 deactivate, b3 create DF,
-- b2 create EF, b1 delete child; for an EF b7-b4 are the same, b2 update and b1 read (02 Ticket 4)
abbrev pub slot_of : Right → ℕ
slot_of DeleteSelf = 0
slot_of Terminate = 1
slot_of Activate = 2
slot_of Deactivate = 3
slot_of CreateDf = 4
slot_of CreateEf = 5
slot_of DeleteChild = 6
slot_of Update = 5
slot_of Read = 6

-- what a compact rule decides on a right
unfoldable pub compact_grants : List ℕ → Right → Sets → Bool
compact_grants rule right x = allows_of rule (slot_of right) x

-- An expanded rule (02 Ticket 3): groups of an AM_DO with tag 80, then one or more SC_DOs. Which are well formed, and what one
-- decides. Groups are alternatives; house: of several SC_DOs in a row, one suffices.
use Rattle.std.specs.Prelude.{ℕ, ◌/◌, ◌%◌, Bool, false, not, cond, ◌&&◌, ◌||◌, List, [], ◌∷◌, length, get_or, eqb, ltb}
use Rattle.rules.specs.declared.Right.{Right}
use Rattle.rules.specs.declared.Right.TheVariants.{DeleteSelf, Terminate, Activate, Deactivate, CreateDf, CreateEf, DeleteChild}
use Rattle.rules.specs.declared.Right.TheVariants.{Update, Read}
use Rattle.rules.specs.declared.Sets.{Sets}
use Rattle.expanded.specs.Object.{Object, object, cut, objects_of}
use Rattle.expanded.specs.Condition.{formed, holds}

-- an AM_DO: 80 01 and an AM byte with b8 clear
unfoldable pub is_am : Object → Bool
is_am (object tag v) = cond (eqb tag 0x80) (cond (eqb (length v) 1) (ltb (get_or v 0 0) 128) false) false
is_am cut = false

-- the AM byte that counts after an object: that of an AM_DO, else the one so far
unfoldable pub am_after : ℕ → Object → ℕ
am_after am (object tag v) = cond (is_am (object tag v)) (get_or v 0 0) am
am_after am cut = am

-- an object where it may stand: an AM_DO where no SC_DO is due, else an SC_DO, nested four deep at most
unfoldable pub in_place : Bool → Object → Bool
in_place due o = cond (is_am o) (not due) (formed 4 o)

-- objects that may go on a rule; after an AM_DO an SC_DO is due
unfoldable pub goes_on : Bool → List Object → Bool
goes_on due [] = not due
goes_on due (o ∷ os) = in_place due o && goes_on (is_am o) os

-- a rule begins with the tag of an AM_DO
unfoldable pub expanded_formed : List ℕ → Bool
expanded_formed rule = eqb (get_or rule 0 0) 0x80 && goes_on false (objects_of rule)

-- the bit of a right in an AM byte, as a number: b7 delete self .. b1 delete child; in an EF b2 update, b1 read
abbrev pub bit_of : Right → ℕ
bit_of DeleteSelf = 64
bit_of Terminate = 32
bit_of Activate = 16
bit_of Deactivate = 8
bit_of CreateDf = 4
bit_of CreateEf = 2
bit_of DeleteChild = 1
bit_of Update = 2
bit_of Read = 1

-- the AM byte has the bit, and the object is a condition that holds
unfoldable pub opens : ℕ → Sets → ℕ → Object → Bool
opens bit x am o = cond (eqb (am / bit % 2) 1) (holds 4 x o) false

-- one of the objects opens what the bit stands for, under the AM byte before it
unfoldable pub opens_one : ℕ → Sets → ℕ → List Object → Bool
opens_one bit x am [] = false
opens_one bit x am (o ∷ os) = opens bit x am o || opens_one bit x (am_after am o) os

-- what a rule decides on a right; a malformed rule grants nothing
unfoldable pub expanded_grants : List ℕ → Right → Sets → Bool
expanded_grants rule right x = expanded_formed rule && opens_one (bit_of right) x 0 (objects_of rule)

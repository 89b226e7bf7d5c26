-- Who is whose child, what lies beneath a directory, what is above a file, and the searches, counts and sums
-- over them that commands and the report ask for (01 "Making and reporting", "SELECT", "CREATE", "DELETE").
use Rattle.std.specs.Prelude.{◌≡◌, List, [], Bool, not, ◌&&◌, ℕ, suc, ◌+◌, ◌-◌, ◌<◌, ◌≤◌, eqb, leb, Option}
use Rattle.laws.specs.Walks.{all_below, first_below, count_below}
use Rattle.laws.specs.Lists.{same_list}
use Rattle.laws.specs.Tests.{implies}
use Rattle.rules.specs.Life.{is_terminated}
use Rattle.image.specs.Layout.{rec_at, life_cycle_of}
use Rattle.sound.specs.Table.{View, is_file, view_at, up, upward, has_identifier, payer, charged}

-- slot s holds a child of directory d
unfoldable pub is_child : (ℕ → View) → ℕ → ℕ → Bool
is_child v d s = is_file v s && eqb (v s).parent d

-- .. with identifier x
unfoldable pub is_child_named : (ℕ → View) → ℕ → ℕ → ℕ → Bool
is_child_named v d x s = is_child v d s && eqb (v s).identifier x

-- the lowest slot of a child of d with identifier x; a sound image has at most one
unfoldable pub child_named : ℕ → (ℕ → View) → ℕ → ℕ → Option ℕ
child_named n v d x = first_below n (is_child_named v d x)

-- the lowest slot whose record is free
unfoldable pub free_slot : ℕ → (ℕ → View) → Option ℕ
free_slot n v = first_below n (λ s. eqb (v s).kind 0)

-- slot s holds d itself or a file beneath it: as many steps up as there are levels between them stands d
unfoldable pub at_or_beneath : (ℕ → View) → ℕ → ℕ → Bool
at_or_beneath v d s = not (eqb (v s).kind 0) && (leb (v d).level (v s).level && eqb (up v ((v s).level - (v d).level) s) d)

-- slot s holds a file beneath d
unfoldable pub beneath : (ℕ → View) → ℕ → ℕ → Bool
beneath v d s = at_or_beneath v d s && not (eqb s d)

-- .. which is to say: so many steps up from s, one or more, stands d
pub record StepsUp (v : ℕ → View) (d s : ℕ) : Type 0 where
  pub steps : ℕ
  pub some : 0 < steps
  pub most : steps ≤ (v s).level
  pub over : up v steps s ≡ d

-- how many direct children d has; how many files lie beneath it
unfoldable pub children_of : ℕ → (ℕ → View) → ℕ → ℕ
children_of n v d = count_below n (is_child v d)

unfoldable pub files_beneath : ℕ → (ℕ → View) → ℕ → ℕ
files_beneath n v d = count_below n (beneath v d)

-- what directory d may charge in all, and the room that is left
unfoldable pub total_for : (ℕ → View) → ℕ → ℕ
total_for v d = (v (payer d)).size

unfoldable pub room_for : ℕ → (ℕ → View) → ℕ → ℕ
room_for n v d = total_for v d - charged n v (payer d)

-- the file in slot s is terminated; it or a directory above it is
unfoldable pub terminated_at : List ℕ → ℕ → Bool
terminated_at img s = is_terminated (life_cycle_of (rec_at img s))

unfoldable pub terminated_up : List ℕ → ℕ → Bool
terminated_up img s = upward (view_at img) (terminated_at img) (suc (view_at img s).level) s

-- s or a directory above it has identifier x
unfoldable pub named_up : (ℕ → View) → ℕ → ℕ → Bool
named_up v x s = upward v (has_identifier v x) (suc (v s).level) s

-- no child of d has identifier x, nor d, nor a directory above it (else 6A89)
unfoldable pub identifier_free : ℕ → (ℕ → View) → ℕ → ℕ → Bool
identifier_free n v d x = all_below n (λ s. not (is_child_named v d x s)) && not (named_up v x d)

-- no record has that name, if it is one (else 6A8A)
unfoldable pub name_free : ℕ → (ℕ → View) → List ℕ → Bool
name_free n v name = implies (not (same_list name [])) (all_below n (λ s. not (same_list (v s).name name)))

-- d has room for a size and 64 (else 6A84)
unfoldable pub fits_room : ℕ → (ℕ → View) → ℕ → ℕ → Bool
fits_room n v d size = leb (size + 64) (room_for n v d)

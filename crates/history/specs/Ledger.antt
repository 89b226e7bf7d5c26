-- The ledger kept beside the card (01 "What the statements must tie down"): what a history has created and not
-- deleted since. It is written from the maker's call and from commands answered 9000; of the image it is played
-- only which DF slot is current, before and after a command; it never reads a record.
use Rattle.std.specs.Prelude.{Bool, false, not, cond, ◌&&◌, ◌||◌, List, [], ◌∷◌, ℕ, zero, suc, ◌+◌, ◌-◌, eqb, length}
use Rattle.laws.specs.Walks.{any_below, if_so}
use Rattle.sound.specs.Table.{payer}

-- a file that was created and lives: the slot of the directory that it was created in, its identifier, its size (a
-- DF's total), and for a DF the slot that it got, which was the current one afterwards. An EF has 0 there: slot 0
-- is the root's and is never given out
pub record Entry : Type 0 where
  pub dir : ℕ
  pub identifier : ℕ
  pub size : ℕ
  pub own : ℕ

-- the root's total, and every file but the root
pub record Ledger : Type 0 where
  pub total : ℕ
  pub files : List Entry

-- the sum of f over the entries; whether some entry has p; the first that has, or an entry of zeros; those that have
unfoldable pub sum_over : (Entry → ℕ) → List Entry → ℕ
sum_over f [] = 0
sum_over f (e ∷ l) = f e + sum_over f l

unfoldable pub some_of : (Entry → Bool) → List Entry → Bool
some_of p [] = false
some_of p (e ∷ l) = p e || some_of p l

unfoldable pub first_entry : (Entry → Bool) → List Entry → Entry
first_entry p [] = record { dir = 0; identifier = 0; size = 0; own = 0 }
first_entry p (e ∷ l) = cond (p e) e (first_entry p l)

unfoldable pub keep : (Entry → Bool) → List Entry → List Entry
keep p [] = []
keep p (e ∷ l) = cond (p e) (e ∷ keep p l) (keep p l)

-- the entry is that of the directory in slot d
abbrev pub is_own : ℕ → Entry → Bool
is_own d e = eqb e.own d

-- the directory in slot d lives: the root, and each that was created and not deleted since
unfoldable pub lives_in : Ledger → ℕ → Bool
lives_in l d = eqb d 0 || some_of (is_own d) l.files

-- the total announced for it
unfoldable pub total_in : Ledger → ℕ → ℕ
total_in l d = cond (eqb d 0) l.total (first_entry (is_own d) l.files).size

-- what an entry costs directory d: size plus 64, if it was created directly in it
abbrev pub cost_to : ℕ → Entry → ℕ
cost_to d e = if_so (eqb (payer e.dir) d) (e.size + 64)

-- what all files cost it
unfoldable pub charged_in : Ledger → ℕ → ℕ
charged_in l d = sum_over (cost_to d) l.files

-- DEMAND 3: its room is its announced total, less size plus 64 for each file that history created directly in it and
-- hasn't deleted since
unfoldable pub room_in : Ledger → ℕ → ℕ
room_in l d = total_in l d - charged_in l d

-- the directory above d, the root being above itself; the one k steps up
unfoldable pub above_in : Ledger → ℕ → ℕ
above_in l d = cond (eqb d 0) 0 (first_entry (is_own d) l.files).dir

unfoldable pub up_in : Ledger → ℕ → ℕ → ℕ
up_in l zero d = d
up_in l (suc k) d = above_in l (up_in l k d)

-- directory d is c, or lies beneath it: c stands so many steps up, at most as many as there are entries
unfoldable pub beneath_in : Ledger → ℕ → ℕ → Bool
beneath_in l c d = any_below (suc (length l.files)) (λ k. eqb (up_in l k d) c)

-- the entry is the file x of directory d
unfoldable pub is_named : ℕ → ℕ → Entry → Bool
is_named d x e = eqb e.dir d && eqb e.identifier x

-- the file x of directory d
unfoldable pub file_in : Ledger → ℕ → ℕ → Entry
file_in l d x = first_entry (is_named d x) l.files

-- directory t is the file x of directory d, or lies beneath it; nothing lies beneath an EF
unfoldable pub within : Ledger → ℕ → ℕ → ℕ → Bool
within l d x t = not (eqb (file_in l d x).own 0) && beneath_in l (file_in l d x).own t

-- the entry goes with the file x of directory d: it is that file, or was created in it or beneath it
unfoldable pub goes_with : Ledger → ℕ → ℕ → Entry → Bool
goes_with l d x e = is_named d x e || within l d x e.dir

-- what a command announces: a new file (identifier, size or total, whether it is a DF), a deletion, or neither
pub data Announced : Type 0 where
  makes : ℕ → ℕ → Bool → Announced
  deletes : ℕ → Announced
  neither : Announced

-- the ledger after a command answered 9000, `before` and `after` being the current DF slots before and after it
unfoldable pub entered : Ledger → Announced → ℕ → ℕ → Ledger
entered l (makes x size is_df) before after =
    record { total = l.total; files = record { dir = before; identifier = x; size = size; own = cond is_df after 0 } ∷ l.files }
entered l (deletes x) before after = record { total = l.total; files = keep (λ e. not (goes_with l before x e)) l.files }
entered l neither before after = l

-- the command deletes directory d, or one above it
unfoldable pub strikes : Ledger → Announced → ℕ → ℕ → Bool
strikes l (makes x size is_df) before d = false
strikes l (deletes x) before d = within l before x d
strikes l neither before d = false

-- the ledger of a fresh card, from the maker's total
unfoldable pub opened : ℕ → Ledger
opened total = record { total = total; files = [] }

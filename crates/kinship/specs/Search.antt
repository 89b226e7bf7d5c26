-- What a search has passed over, the search that only SELECT makes, and what the search for a name needs of an image.
use Rattle.std.specs.Prelude.{◌≡◌, Bool, true, false, ◌&&◌, List, ℕ, ◌<◌, ◌≤◌, eqb, get_or, Option, Some, None}
use Rattle.laws.specs.Walks.{first_below}
use Rattle.rules.specs.Descriptor.{df}
use Rattle.image.specs.Layout.{rec_at, Sized, identifier_of, parent_of}
use Rattle.image.specs.Kin.{kin_word}
use Rattle.sound.specs.Table.{View}
use Rattle.sound.specs.Kinship.{is_child_named}

-- where r says so, no record from a on and below b has that word of identifier and parent
pub record Foreign (img : List ℕ) (word a b : ℕ) (r : Bool) : Type 0 where
  pub none : r ≡ true → (k : ℕ) → a ≤ k → k < b → kin_word (identifier_of (rec_at img k)) (parent_of (rec_at img k)) ≡ word → ⊥

-- no slot from a on and below b, which is at most n, holds a child of d with identifier x
pub record PassedOver (v : ℕ → View) (n d x a b : ℕ) : Type 0 where
  pub low : a ≤ b
  pub high : b ≤ n
  pub none : (k : ℕ) → a ≤ k → k < b → is_child_named v d x k ≡ false

-- what a search was told that asks only where a child of d with identifier x may stand: `Asked s r` says that r was the answer of slot s
-- each such child below b was asked, and was not taken
pub record NoneAsked (v : ℕ → View) (d x : ℕ) (Asked : ℕ → Bool → Type 0) (b : ℕ) : Type 0 where
  pub none : (k : ℕ) → k < b → is_child_named v d x k ≡ true → Asked k false

-- slot s was taken, and no lower slot of such a child was
pub record FirstAsked (v : ℕ → View) (n d x : ℕ) (Asked : ℕ → Bool → Type 0) (s : ℕ) : Type 0 where
  pub low : s < n
  pub here : Asked s true
  pub before : NoneAsked v d x Asked s

abbrev pub FirstKin : (ℕ → View) → ℕ → ℕ → ℕ → (ℕ → Bool → Type 0) → Option ℕ → Type 0
FirstKin v n d x Asked None = NoneAsked v d x Asked n
FirstKin v n d x Asked (Some s) = FirstAsked v n d x Asked s

-- a DF that is a child of d, with identifier x
unfoldable pub is_df_named : (ℕ → View) → ℕ → ℕ → ℕ → Bool
is_df_named v d x s = eqb (v s).kind df && is_child_named v d x s

unfoldable pub df_named : ℕ → (ℕ → View) → ℕ → ℕ → Option ℕ
df_named n v d x = first_below n (is_df_named v d x)

-- every record's name stands within its field
pub record NamesFit (img : List ℕ) (n : ℕ) : Type 0 where
  pub sized : Sized img n
  pub short : (s : ℕ) → s < n → get_or (rec_at img s) 16 0 ≤ 16

-- The files of a card as a table of views: what each record says that other records look at (01 "Image").
use Rattle.std.specs.Prelude.{◌≡◌, Bool, not, ◌&&◌, List, ℕ, zero, suc, ◌+◌, eqb}
use Rattle.laws.specs.Walks.{any_below, sum_below, if_so}
use Rattle.image.specs.Layout.{rec_at, kind_of, identifier_of, parent_of, level_of, size_of, name_of}

pub record View : Type 0 where
  pub kind : ℕ
  pub identifier : ℕ
  pub parent : ℕ
  pub level : ℕ
  pub size : ℕ
  pub name : List ℕ

abbrev pub view_of : List ℕ → View
view_of r = record {
  kind = kind_of r;
  identifier = identifier_of r;
  parent = parent_of r;
  level = level_of r;
  size = size_of r;
  name = name_of r;
}

abbrev pub view_at : List ℕ → ℕ → View
view_at img s = view_of (rec_at img s)

-- slot s holds a file other than the root, which is nobody's child or sibling
abbrev pub File : (ℕ → View) → ℕ → Type 0
File v s = ((v s).kind ≡ 0 → ⊥) × (s ≡ 0 → ⊥)

abbrev pub is_file : (ℕ → View) → ℕ → Bool
is_file v s = not (eqb (v s).kind 0) && not (eqb s 0)

-- the slot k steps up from s
unfoldable pub up : (ℕ → View) → ℕ → ℕ → ℕ
up v zero s = s
up v (suc k) s = (v (up v k s)).parent

-- p holds of one of the n slots on the way up from s, s itself being the first
unfoldable pub upward : (ℕ → View) → (ℕ → Bool) → ℕ → ℕ → Bool
upward v p n s = any_below n (λ k. p (up v k s))

-- the file in slot s has identifier x
abbrev pub has_identifier : (ℕ → View) → ℕ → ℕ → Bool
has_identifier v x s = eqb (v s).identifier x

-- the directory that pays for what stands in directory d: d itself
abbrev pub payer : ℕ → ℕ
payer d = d

-- what the file in slot s, whose record says x, costs directory d: its size and 64
unfoldable pub charge_of : ℕ → ℕ → View → ℕ
charge_of d s x = if_so ((not (eqb x.kind 0) && not (eqb s 0)) && eqb (payer x.parent) d) (x.size + 64)

-- what all files of the card cost directory d
unfoldable pub charged : ℕ → (ℕ → View) → ℕ → ℕ
charged n v d = sum_below n (λ s. charge_of d s (v s))

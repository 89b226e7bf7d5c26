-- What walks up, sums and DELETE need of an image; what a walk up finds that asks each slot on the way.
use Rattle.std.specs.Prelude.{◌≡◌, List, ℕ, suc, ◌+◌, ◌<◌, ◌≤◌, Option, Some, None}
use Rattle.rules.specs.Descriptor.{df}
use Rattle.image.specs.Layout.{Sized}
use Rattle.sound.specs.Table.{View, view_at, up, charged}

-- slot s holds a file
pub record Stands (img : List ℕ) (n s : ℕ) : Type 0 where
  pub low : s < n
  pub used : (view_at img s).kind ≡ 0 → ⊥

-- every file's parent slot holds a file, and a file below level 0 is one level deeper than its parent
pub record Rooted (img : List ℕ) (n : ℕ) : Type 0 where
  pub sized : Sized img n
  pub parent : (s : ℕ) → Stands img n s → Stands img n (view_at img s).parent
  pub level : (s : ℕ) → Stands img n s → 0 < (view_at img s).level → (view_at img s).level ≡ (view_at img (view_at img s).parent).level + 1

-- every file stands in a DF, the root in itself: so nothing lies beneath an EF
pub record Housed (img : List ℕ) (n : ℕ) : Type 0 where
  pub dir : (s : ℕ) → Stands img n s → (view_at img (view_at img s).parent).kind ≡ df

-- what its children cost directory d is within its total
pub record Paid (img : List ℕ) (n d : ℕ) : Type 0 where
  pub within : charged n (view_at img) d ≤ (view_at img d).size

-- What a walk up from s was told that asks each slot on the way: `Asked t r` says that r was the answer of slot t.

-- none of the first i slots on the way had an answer
pub record NoneUp (v : ℕ → View) (s : ℕ) (Asked : ℕ → Option ℕ → Type 0) (i : ℕ) : Type 0 where
  pub none : (k : ℕ) → k < i → Asked (up v k s) None

-- x is the answer of the first slot on the way that had one
pub record SomeUp (v : ℕ → View) (s : ℕ) (Asked : ℕ → Option ℕ → Type 0) (x : ℕ) : Type 0 where
  pub steps : ℕ
  pub low : steps < suc (v s).level
  pub here : Asked (up v steps s) (Some x)
  pub before : NoneUp v s Asked steps

abbrev pub FirstUp : (ℕ → View) → ℕ → (ℕ → Option ℕ → Type 0) → Option ℕ → Type 0
FirstUp v s Asked None = NoneUp v s Asked (suc (v s).level)
FirstUp v s Asked (Some x) = SomeUp v s Asked x

-- Whether slot s holds a file other than the root: f is what `search::is_file` answered.
use mathlib.Core.Path.{◌≡◌, sym, ◌∙◌}
use mathlib.Core.Bool.{Bool, true, false, not}
use mathlib.Core.List.{List}
use Prim.Native.Nat.{ℕ}
use borrow.Author.Tests.{not-true, not-false}
use Rattle.sound.specs.Table.{view_at, is_file}

module _ (img : List ℕ) (s : ℕ) (f : Bool) (e : f ≡ is_file (view_at img) s) where
  pub no-file : not f ≡ true → is_file (view_at img) s ≡ false
  no-file t = sym e ∙ not-true f t

  pub a_file : not f ≡ false → is_file (view_at img) s ≡ true
  a_file t = sym e ∙ not-false f t

-- Each of the twelve values stands within the nine bytes.
use mathlib.Core.Path.{◌≡◌, refl}
use mathlib.Core.List.{List, [], ◌∷◌}
use Prim.Native.Nat.{ℕ, zero, suc, ◌≤◌}
use native.Mathlib.Omega.{arith}
use lib.ListN.{length, get_or}
use Rattle.std.specs.List.{AllByRecursion}
use Rattle.std.specs.Prelude.{Option, None, unwrap_or}
use Rattle.template.specs.declared.Span.{Span}
use Rattle.template.specs.declared.Objects.{Objects}
use Rattle.template.specs.Objects.{nowhere, InData}
use Rattle.create_data.proofs.judge.tests.judges_an_object_at_place_0.Goals as goal

module _ (n : ℕ) where
  abbrev Stands : Option Span → Type 0
  Stands x = ((unwrap_or x nowhere).start ≤ (unwrap_or x nowhere).end) × ((unwrap_or x nowhere).end ≤ n)

  -- behind the last there is none, which stands at 0
  at : (l : List (Option Span)) → AllByRecursion Stands l → (k : ℕ) → Stands (get_or l k None)
  at [] e k = (omega arith, omega arith)
  at (x ∷ l) e zero = e.0
  at (x ∷ l) e (suc k) = at l e.1 k

all-in_data : (s : List ℕ) (o : Objects) → length o.values ≡ 12 → AllByRecursion (Stands (length s)) o.values → InData s o
all-in_data s o l e = record { values_long = l; low = λ k. (at (length s) o.values e k).0; high = λ k. (at (length s) o.values e k).1 }

pub invariant_of-sent : goal.invariant_of-sent
invariant_of-sent g c = record { held = all-in_data _ _ refl (omega arith) }

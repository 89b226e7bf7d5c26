-- What CREATE and DELETE are about, as it was read and found.
use mathlib.Core.Path.{◌≡◌, sym, ap, ◌∙◌}
use mathlib.Core.List.{List}
use Prim.Native.Nat.{ℕ}
use Rattle.std.specs.Prelude.{Option, Some, None, unwrap_or}
use Rattle.sound.specs.Table.{view_at}
use Rattle.sound.specs.Kinship.{child_named}
use Rattle.kinship.specs.Climb.{Stands}
use Rattle.judge_target.specs.Judgeable.{Judgeable}
use Rattle.judge_target.specs.Target.{slot_in}
use Rattle.judge_target.proofs.FromSound.{child_stands}

-- the child that was found, or the root where there is none
module _ (img : List ℕ) (n d x : ℕ) (j : Judgeable img n d) {r : Option ℕ} (e : r ≡ child_named n (view_at img) d x) where
  pub child-slot : {s : ℕ} → s ≡ unwrap_or r 0 → (s ≡ slot_in (child_named n (view_at img) d x)) × Stands img n s
  child-slot q = (q ∙ ap slot_in e, rw q (stands r e))
    where
      stands : (f : Option ℕ) → f ≡ child_named n (view_at img) d x → Stands img n (slot_in f)
      stands (Some t) g = child_stands img n d x t (sym g)
      stands None g = j.root

-- What a file costs, and whom.
use mathlib.Core.Path.{◌≡◌}
use mathlib.Core.Logic.{⊎_elim}
use Prim.Native.Nat.{ℕ, ◌+◌}
use borrow.Author.Tests.{eq-eqb, ne_eqb}
use Rattle.laws.proofs.Says.{same_or}
use Rattle.laws.proofs.Sums.{sum-none}
use Rattle.sound.specs.Table.{View, charge_of, charged}
use Rattle.sound.specs.Kin.{Kin}

-- a free record costs nothing
pub charge_free : (d s : ℕ) (x : View) → x.kind ≡ 0 → charge_of d s x ≡ 0
unfolding charge_of
charge_free d s x e = rw (eq-eqb x.kind 0 e)

-- a file costs its parent its size and 64, and no other directory anything
pub charge_child : (d s : ℕ) (x : View) → (x.kind ≡ 0 → ⊥) → (s ≡ 0 → ⊥) → x.parent ≡ d → charge_of d s x ≡ x.size + 64
unfolding charge_of
charge_child d s x a b e = rw (ne_eqb x.kind 0 a, ne_eqb s 0 b, eq-eqb x.parent d e)

pub charge_stranger : (d s : ℕ) (x : View) → ((x.kind ≡ 0 → ⊥) → (s ≡ 0 → ⊥) → x.parent ≡ d → ⊥) → charge_of d s x ≡ 0
unfolding charge_of
charge_stranger d s x f = ⊎_elim
    (λ e. rw (eq-eqb x.kind 0 e))
    (λ u. rw (ne_eqb x.kind 0 u) (⊎_elim (λ e. rw (eq-eqb s 0 e)) (λ z. rw (ne_eqb s 0 z, ne_eqb x.parent d (f u z))) (same_or s 0)))
    (same_or x.kind 0)

-- only a directory has children
pub charged-none : (n : ℕ) (v : ℕ → View) → Kin n v → (d : ℕ) → ((v d).kind ≡ 1 → ⊥) → charged n v d ≡ 0
unfolding charged
charged-none n v kin d f =
    sum-none n _ (λ s l. charge_stranger d s (v s) (λ u z e. f (rw e at (kin.placed s l (u, z)).dir)))

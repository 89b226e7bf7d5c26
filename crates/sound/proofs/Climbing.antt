-- The way up from a file: each step ends at a used record, one level higher.
use mathlib.Core.Path.{◌≡◌, refl, sym, ap, ◌∙◌}
use mathlib.Core.Bool.{Bool, true, not}
use mathlib.Core.Logic.{◌↔◌}
use Prim.Native.Nat.{ℕ, zero, suc, ◌+◌, ◌<◌, ◌≤◌}
use native.Mathlib.Omega.{arith}
use Rattle.laws.proofs.Walks.{all-not}
use Rattle.laws.proofs.Says.{not-says, all-says, eq-says}
use Rattle.sound.specs.Table.{View, File, up, upward, has_identifier}
use Rattle.sound.specs.Kin.{Placed, Kin}

-- the slot k steps up: it is used, and so many levels up
pub record Reached (n : ℕ) (v : ℕ → View) (s k : ℕ) : Type 0 where
  pub low : up v k s < n
  pub used : (v (up v k s)).kind ≡ 0 → ⊥
  pub level : (v (up v k s)).level + k ≡ (v s).level

module _ (n : ℕ) (v : ℕ → View) (level : (v 0).level ≡ 0) (placed : (s : ℕ) → s < n → File v s → Placed n v s) where
  -- a used record above level 0 is a file other than the root
  pub not-root_by : (s : ℕ) → ((v s).kind ≡ 0 → ⊥) → 0 < (v s).level → File v s
  not-root_by s u l = (u, λ e. omega (arith, ap (λ (x : ℕ). (v x).level) e, level))

  pub reached_by : (s : ℕ) → s < n → ((v s).kind ≡ 0 → ⊥) → (k : ℕ) → k ≤ (v s).level → Reached n v s k
  unfolding up
  reached_by s l u zero h = record { low = l; used = u; level = omega arith }
  reached_by s l u (suc k) h =
      let r = reached_by s l u k (omega arith) in
      let p = placed (up v k s) r.low (not-root_by (up v k s) r.used (omega (arith, r.level))) in
      record { low = p.low; used = λ e. omega (arith, p.dir); level = omega (arith, p.up, r.level) }

module _ (n : ℕ) (v : ℕ → View) (kin : Kin n v) where
  pub not_root : (s : ℕ) → ((v s).kind ≡ 0 → ⊥) → 0 < (v s).level → File v s
  not_root = not-root_by n v kin.root-level kin.placed

  pub reached : (s : ℕ) → s < n → ((v s).kind ≡ 0 → ⊥) → (k : ℕ) → k ≤ (v s).level → Reached n v s k
  reached = reached_by n v kin.root-level kin.placed

pub up_none : (v : ℕ → View) (s : ℕ) → up v 0 s ≡ s
unfolding up
up_none v s = refl

-- one step up first, or last
pub up_shift : (v : ℕ → View) (k s : ℕ) → up v k (v s).parent ≡ up v (suc k) s
unfolding up
up_shift v zero s = refl
up_shift v (suc k) s = ap (λ (x : ℕ). (v x).parent) (up_shift v k s)

-- nothing on the way up has p
pub upward-says : (v : ℕ → View) (p : ℕ → Bool) (n s : ℕ) → (not (upward v p n s) ≡ true) ↔ ((k : ℕ) → k < n → p (up v k s) ≡ true → ⊥)
unfolding upward
upward-says v p n s = (
  (λ h k l. (not-says _).0 ((all-says _ _).0 (all-not n (λ k. p (up v k s)) ∙ h) k l)),
  (λ f. sym (all-not n (λ k. p (up v k s))) ∙ (all-says _ _).1 (λ k l. (not-says _).1 (f k l))),
)

-- the directories above s, counted from s or from its parent
pub above-says : (v : ℕ → View) (x n s : ℕ) → (not (upward v (has_identifier v x) n (v s).parent) ≡ true)
    ↔ ((k : ℕ) → k < n → (v (up v (suc k) s)).identifier ≡ x → ⊥)
above-says v x n s = (
  (λ h k l e. (upward-says v (has_identifier v x) n (v s).parent).0 h k l
      ((eq-says _ _).1 (ap (λ (t : ℕ). (v t).identifier) (up_shift v k s) ∙ e))),
  (λ f. (upward-says v (has_identifier v x) n (v s).parent).1
      (λ k l e. f k l (ap (λ (t : ℕ). (v t).identifier) (sym (up_shift v k s)) ∙ (eq-says _ _).0 e))),
)

-- A full table never refuses: with room for one more file, one more record is free. And how deep a file can lie.
use mathlib.Core.Path.{◌≡◌, refl, sym, ◌∙◌}
use mathlib.Core.Bool.{Bool, true, false, not, ◌&&◌}
use mathlib.Core.Logic.{⊎_elim}
use Prim.Native.Nat.{ℕ, zero, suc, ◌+◌, ◌*◌, ◌<◌, ◌≤◌}
use native.Mathlib.Nat.{zero-add}
use native.Mathlib.Omega.{arith}
use lib.Dec.{eqb}
use borrow.Author.Tests.{eq-eqb, ne_eqb, eqb-false, lt-ltb}
use Rattle.std.specs.Prelude.{None}
use Rattle.laws.specs.Walks.{sum_below, if_so}
use Rattle.laws.proofs.Firsts.{no-first}
use Rattle.laws.proofs.Says.{same_or}
use Rattle.laws.proofs.Sums.{sum_cong, sum-le, sum-add, sum_at, sum_const, sum-has, children_once}
use Rattle.sound.specs.Table.{View, up, File, charge_of, charged}
use Rattle.sound.specs.Kin.{Kin}
use Rattle.image.specs.Layout.{count_of}
use Rattle.sound.specs.Table.{view_at}
use Rattle.sound.specs.Kinship.{free_slot, total_for, room_for}
use Rattle.sound.proofs.Climbing.{Reached, reached, not_root}
use Rattle.sound.proofs.Charges.{charge_child, charged-none}
use Rattle.sound.specs.Theorems.{SlotExists}

-- what a file costs whoever pays for it; the root costs nobody
weight : (ℕ → View) → ℕ → ℕ
weight v c = if_so (not (eqb c 0)) ((v c).size + 64)

split : (p q : Bool) (x : ℕ) → if_so (not p && q) x ≡ if_so q (if_so (not p) x)
split true true x = refl
split true false x = refl
split false true x = refl
split false false x = refl

module _ (n : ℕ) (v : ℕ → View) (kin : Kin n v) (some : 0 < n) where
  -- a file and 64 fit into its parent
  pub inside : (s : ℕ) → s < n → File v s → (v s).size + 64 ≤ (v (v s).parent).size
  unfolding charged
  inside s l f =
      let p = kin.placed s l f in
      let c = sum-has (λ t. charge_of (v s).parent t (v t)) n s l in
      omega (arith, charge_child (v s).parent s (v s) f.0 f.1 refl, kin.charges (v s).parent p.low p.dir)

  deeper : (s : ℕ) → s < n → ((v s).kind ≡ 0 → ⊥) → (k : ℕ) → k ≤ (v s).level → (v s).size + 64 * k ≤ (v (up v k s)).size
  unfolding up
  deeper s l u zero h = omega arith
  deeper s l u (suc k) h =
      let r = reached n v kin s l u k (omega arith) in
      omega (
        arith,
        deeper s l u k (omega arith),
        inside (up v k s) r.low
            (not_root n v kin (up v k s) r.used (omega (arith, r.level))),
      )

  -- the root stands at the top of every way up
  pub root-above : (s : ℕ) → s < n → ((v s).kind ≡ 0 → ⊥) → up v (v s).level s ≡ 0
  root-above s l u = ⊎_elim (λ e. e)
      (λ z. absurd (omega (arith, (kin.placed (up v (v s).level s) r.low (r.used, z)).up, r.level)))
      (same_or (up v (v s).level s) 0)
    where
      r : Reached n v s (v s).level
      r = reached n v kin s l u (v s).level (omega arith)

  -- so a file's size, and 64 for each level, are within the root's total
  pub within-root : (s : ℕ) → s < n → ((v s).kind ≡ 0 → ⊥) → (v s).size + 64 * (v s).level ≤ (v 0).size
  within-root s l u = rw (root-above s l u) at (deeper s l u (v s).level (omega arith))

  -- .. and it lies at most as deep as there are other records
  pub level-low : (s : ℕ) → s < n → ((v s).kind ≡ 0 → ⊥) → (v s).level < n
  level-low s l u = omega (arith, within-root s l u, kin.root-size)

  module _ (d : ℕ) (low : d < n) (dir : (v d).kind ≡ 1) (room : charged n v d + 64 ≤ (v d).size)
      (all : (s : ℕ) → s < n → (v s).kind ≡ 0 → ⊥) where
    paid : (e c : ℕ) → c < n → charge_of e c (v c) ≡ if_so (eqb (v c).parent e) (weight v c)
    unfolding charge_of weight
    paid e c l = rw (ne_eqb (v c).kind 0 (all c l)) (split (eqb c 0) (eqb (v c).parent e) ((v c).size + 64))

    parents : (c : ℕ) → c < n → (v c).parent < n
    parents c l = ⊎_elim (λ e. rw e (omega (arith, kin.root-parent))) (λ z. (kin.placed c l (all c l, z)).low) (same_or c 0)

    -- all that is paid is the weight of all
    paid_once : sum_below n (charged n v) ≡ sum_below n (weight v)
    unfolding charged
    paid_once =
        sum_cong n _ _ (λ e l. sum_cong n (λ c. charge_of e c (v c)) (λ c. if_so (eqb (v c).parent e) (weight v c)) (λ c m. paid e c m))
        ∙ children_once n (λ c. (v c).parent) (weight v) parents

    -- the weight of all, with the root's
    one : (c : ℕ) → weight v c + if_so (eqb 0 c) ((v 0).size + 64) ≡ (v c).size + 64
    unfolding weight
    one c = ⊎_elim (λ e. rw e (zero-add ((v 0).size + 64))) (λ z. rw (ne_eqb c 0 z, ne_eqb 0 c (λ e. z (sym e))) (omega arith)) (same_or c 0)

    weights : sum_below n (weight v) + ((v 0).size + 64) ≡ sum_below n (λ c. (v c).size) + n * 64
    weights =
        let a = sum-add n (weight v) (λ c. if_so (eqb 0 c) ((v 0).size + 64)) in
        let b = sum-add n (λ c. (v c).size) (λ c. 64) in
        let e = sum_cong n _ _ (λ c l. one c) in
        let f = rw (lt-ltb 0 n some) at (sum_at n 0 ((v 0).size + 64)) in
        omega (arith, a, b, e, f, sum_const n 64)

    -- each directory has what is paid into it, and the given one 64 more
    holds : (e : ℕ) → e < n → charged n v e + if_so (eqb d e) 64 ≤ (v e).size
    holds e l = ⊎_elim
        (λ q. rw (← q, eq-eqb d d refl) room)
        (λ z. rw (ne_eqb d e z)
        (⊎_elim (λ k. omega (arith, kin.charges e l k)) (λ k. omega (arith, charged-none n v kin e k)) (same_or (v e).kind 1)))
        (same_or d e)

    pub full-never : ⊥
    full-never =
        let a = sum-le n _ _ holds in
        let b = sum-add n (charged n v) (λ e. if_so (eqb d e) 64) in
        let f = rw (lt-ltb d n low) at (sum_at n d 64) in
        omega (arith, a, b, f, paid_once, weights, kin.root-size)

  -- the search for a free record finds one, if some directory has room for a size of at least 1 and 64
  pub free-found : (d : ℕ) → d < n → (v d).kind ≡ 1 → charged n v d + 64 ≤ (v d).size → free_slot n v ≡ None → ⊥
  unfolding free_slot
  free-found d low dir room e = full-never d low dir room (λ s l. eqb-false (v s).kind 0 ((no-first n (λ t. eqb (v t).kind 0) e).none s l))

  pub full_table : (d size : ℕ) → d < n → (v d).kind ≡ 1 → size + 64 ≤ room_for n v d → free_slot n v ≡ None → ⊥
  unfolding room_for total_for
  full_table d size low dir room e = free-found d low dir (omega arith) e

-- in a sound image, if a directory's room is at least a size and 64, a free slot exists
pub slot_exists : SlotExists
slot_exists img d size sound low dir room e =
    full_table (count_of img) (view_at img) sound.kin (omega (arith, sound.header.least)) d size low dir room e

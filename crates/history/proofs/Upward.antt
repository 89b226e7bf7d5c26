-- The way up from a directory by the ledger is the way up by the records; what lies beneath a file by the one lies
-- beneath it by the other. So an entry goes with a deleted file exactly when its record does.
use mathlib.Core.Path.{◌≡◌, refl, sym, ap, ◌∙◌}
use mathlib.Core.Bool.{Bool, true, false, not, ◌&&◌, ◌||◌, false≢true}
use mathlib.Core.Logic.{◌⊎◌, inl, inr, ⊎_elim}
use Prim.Native.Nat.{ℕ, zero, suc, ◌+◌, ◌-◌, ◌<◌, ◌≤◌}
use native.Mathlib.Omega.{arith}
use lib.Dec.{eqb, ltb}
use lib.ListN.{length}
use borrow.Author.Tests.{eq-eqb, ne_eqb, eqb-true, eqb-false}
use Rattle.laws.specs.Walks.{sum_below, any_below, if_so}
use Rattle.laws.proofs.Says.{same_or, apart, untrue, same_test}
use Rattle.laws.proofs.Walks.{any_at, none_any}
use Rattle.laws.proofs.Sums.{sum-le, sum_swap, sum_at, sum_const, sum-has, sum-none}
use Rattle.rules.specs.Descriptor.{df}
use Rattle.sound.specs.Table.{View, File, up}
use Rattle.sound.specs.Kin.{Kin}
use Rattle.sound.specs.Kinship.{at_or_beneath}
use Rattle.sound.proofs.Says.{AtOrBeneath, beneath-says}
use Rattle.sound.proofs.Climbing.{Reached, reached, not_root, up_none, up_shift}
use Rattle.history.specs.Ledger.{Entry, Ledger, up_in, beneath_in, is_named, file_in, within, goes_with}
use Rattle.history.proofs.Entries.{sum-length}
use Rattle.history.proofs.Agree.{Agrees, entry_of, worth, sum_files, worth_file, only_entry}
use Rattle.history.proofs.Directories.{Dir, dir-used, parent_dir, above_same}

-- a file lies at most as deep as there are files: at each level up to its own stands another
module _ (n : ℕ) (v : ℕ → View) (kin : Kin n v) where
  -- the files whose parent has level j
  at_level : ℕ → Entry → ℕ
  at_level j e = if_so (eqb (v e.dir).level j) 1

  has-level : (x : ℕ) → x < n → ((v x).kind ≡ 0 → ⊥) → (j : ℕ) → j < (v x).level → 1 ≤ sum_files (at_level j) n v
  unfolding sum_files at_level
  has-level x low used j h =
      let k : ℕ = (v x).level - suc j in
      let r = reached n v kin x low used k (omega arith) in
      let s : ℕ = up v k x in
      let f = not_root n v kin s r.used (omega (arith, r.level)) in
      let p = kin.placed s r.low f in
      let e : (v (v s).parent).level ≡ j = omega (arith, p.up, r.level) in
      let w : worth (at_level j) s (v s) ≡ 1 = worth_file (at_level j) s (v s) f.0 f.1 ∙ rw (eq-eqb _ _ e) in
      omega (arith, sum-has (λ t. worth (at_level j) t (v t)) n s r.low, w)

  once : (k s : ℕ) (x : View) → sum_below k (λ j. worth (at_level j) s x) ≤ worth (λ e. 1) s x
  unfolding worth at_level
  once k s x = go (not (eqb x.kind 0) && not (eqb s 0))
    where
      most : (b : Bool) → if_so b 1 ≤ 1
      most true = omega arith
      most false = omega arith

      go : (b : Bool) → sum_below k (λ j. if_so b (if_so (eqb (v x.parent).level j) 1)) ≤ if_so b 1
      go true = omega (arith, sum_at k (v x.parent).level 1, most (ltb (v x.parent).level k))
      go false = omega (arith, sum-none k (λ j. 0) (λ i l. refl))

  levels_few : (x : ℕ) → x < n → ((v x).kind ≡ 0 → ⊥) → (v x).level ≤ sum_files (λ e. 1) n v
  unfolding sum_files
  levels_few x low used =
      let k : ℕ = (v x).level in
      let a = sum-le k (λ j. 1) (λ j. sum_below n (λ s. worth (at_level j) s (v s))) (λ j h. has-level x low used j h) in
      let b = sum_swap k n (λ j s. worth (at_level j) s (v s)) in
      let c = sum-le n (λ s. sum_below k (λ j. worth (at_level j) s (v s))) (λ s. worth (λ e. 1) s (v s)) (λ s h. once k s (v s)) in
      omega (arith, a, b, c, sum_const k 1)

  -- beyond the root stands the root
  up-past : (x : ℕ) → x < n → ((v x).kind ≡ 0 → ⊥) → (j k : ℕ) → k ≡ (v x).level + j → up v k x ≡ 0
  unfolding up
  up-past x low used zero k e =
      let q : k ≡ (v x).level = omega arith in rw q (⊎_elim (λ h. h) (λ z. absurd (deeper z)) (same_or (up v (v x).level x) 0))
    where
      r : Reached n v x (v x).level
      r = reached n v kin x low used (v x).level (omega arith)

      deeper : (up v (v x).level x ≡ 0 → ⊥) → ⊥
      deeper z = omega (arith, (kin.placed (up v (v x).level x) r.low (r.used, z)).up, r.level)
  up-past x low used (suc j) zero e = absurd (omega arith)
  up-past x low used (suc j) (suc k) e = ap (λ (s : ℕ). (v s).parent) (up-past x low used j k (omega arith)) ∙ kin.root-parent

  -- a file lies at or beneath t if it is t, or its parent does
  pub beneath-step : (t s : ℕ) → s < n → File v s → at_or_beneath v t s ≡ (eqb s t || at_or_beneath v t (v s).parent)
  beneath-step t s low file = ⊎_elim (λ e. rw (eq-eqb s t e) (itself e)) (λ z. rw (ne_eqb s t z) (other z)) (same_or s t)
    where
      itself : s ≡ t → at_or_beneath v t s ≡ true
      itself e =
          let q : (v s).level ≡ (v t).level = ap (λ (x : ℕ). (v x).level) e in
          let k : (v s).level - (v t).level ≡ 0 = omega arith in
          (beneath-says v t s).1 (record { used = file.0; deep = omega arith; over = ap (λ (j : ℕ). up v j s) k ∙ up_none v s ∙ e })

      up_one : (v s).level ≡ (v (v s).parent).level + 1
      up_one = (kin.placed s low file).up

      lower : AtOrBeneath v t (v s).parent → AtOrBeneath v t s
      lower b =
          let k : (v s).level - (v t).level ≡ suc ((v (v s).parent).level - (v t).level) = omega (arith, b.deep, up_one) in
          record {
            used = file.0;
            deep = omega (arith, b.deep, up_one);
            over = ap (λ (j : ℕ). up v j s) k
                ∙ sym (up_shift v ((v (v s).parent).level - (v t).level) s) ∙ b.over;
          }

      higher : (s ≡ t → ⊥) → AtOrBeneath v t s → AtOrBeneath v t (v s).parent
      higher z b = more ((v s).level - (v t).level) refl b.over
        where
          more : (k : ℕ) → (v s).level - (v t).level ≡ k → up v k s ≡ t → AtOrBeneath v t (v s).parent
          more zero e o = absurd (z (sym (up_none v s) ∙ o))
          more (suc k) e o =
              let j : (v (v s).parent).level - (v t).level ≡ k = omega (arith, up_one) in
              record {
                used = dir-used (v (v s).parent) (kin.placed s low file).dir;
                deep = omega (arith, up_one);
                over = ap (λ (i : ℕ). up v i (v s).parent) j ∙ up_shift v k s ∙ o;
              }

      other : (s ≡ t → ⊥) → at_or_beneath v t s ≡ at_or_beneath v t (v s).parent
      other z = same_test (at_or_beneath v t s) (at_or_beneath v t (v s).parent)
          (λ h. (beneath-says v t s).1 (lower ((beneath-says v t (v s).parent).0 h)))
          (λ h. untrue _ (λ g. false≢true (sym h ∙ (beneath-says v t (v s).parent).1 (higher z ((beneath-says v t s).0 g)))))

  -- the root lies beneath no file
  pub root_stays : (t : ℕ) → (t ≡ 0 → ⊥) → at_or_beneath v t 0 ≡ false
  root_stays t z = untrue (at_or_beneath v t 0) (λ h. away ((beneath-says v t 0).0 h))
    where
      away : AtOrBeneath v t 0 → ⊥
      away b =
          let k : (v 0).level - (v t).level ≡ 0 = omega (arith, kin.root-level) in
          z (sym b.over ∙ ap (λ (j : ℕ). up v j 0) k ∙ up_none v 0)

module _ (l : Ledger) (n : ℕ) (v : ℕ → View) (ok : Agrees l n v) (kin : Kin n v) (some : 0 < n) where
  -- the same slot stands k steps up, and holds a directory
  pub up_same : (k x : ℕ) → Dir n v x → (up_in l k x ≡ up v k x) × Dir n v (up v k x)
  unfolding up_in up
  up_same zero x d = (refl, d)
  up_same (suc k) x d =
      let r = up_same k x d in
      (rw r.0 (above_same l n v ok kin some (up v k x) r.1), parent_dir l n v ok kin some (up v k x) r.1)

  beneath-same : (c x : ℕ) → (c ≡ 0 → ⊥) → Dir n v x → beneath_in l c x ≡ at_or_beneath v c x
  unfolding beneath_in
  beneath-same c x z d = same_test _ (at_or_beneath v c x) found missed
    where
      used : (v x).kind ≡ 0 → ⊥
      used = dir-used (v x) d.dir

      few : (v x).level ≤ length l.files
      few = omega (arith, levels_few n v kin x d.low used, sum-length l.files, ok.each (λ e. 1))

      found : at_or_beneath v c x ≡ true → any_below (suc (length l.files)) (λ k. eqb (up_in l k x) c) ≡ true
      found h =
          let b = (beneath-says v c x).0 h in
          let k : ℕ = (v x).level - (v c).level in
          any_at (λ k. eqb (up_in l k x) c) (suc (length l.files)) k (omega (arith, few)) (eq-eqb _ _ ((up_same k x d).0 ∙ b.over))

      over : (k : ℕ) → up v k x ≡ c → AtOrBeneath v c x
      over k e = ⊎_elim (λ h. near h) (λ h. absurd (far h)) (two_ways k (v x).level)
        where
          two_ways : (a b : ℕ) → (a ≤ b) ⊎ (b < a)
          two_ways a b = ⊎_elim (λ q. inl (omega arith)) (λ q. ⊎_elim (λ s. inl (omega arith)) (λ s. inr s) (apart a b q)) (same_or a b)

          near : k ≤ (v x).level → AtOrBeneath v c x
          near h =
              let r = reached n v kin x d.low used k h in
              let q : (v c).level + k ≡ (v x).level = ap (λ (s : ℕ). (v s).level + k) (sym e) ∙ r.level in
              let j : (v x).level - (v c).level ≡ k = omega arith in
              record { used = used; deep = omega arith; over = ap (λ (i : ℕ). up v i x) j ∙ e }

          far : (v x).level < k → ⊥
          far h = z (sym e ∙ up-past n v kin x d.low used (k - (v x).level) k (omega arith))

      missed : at_or_beneath v c x ≡ false → any_below (suc (length l.files)) (λ k. eqb (up_in l k x) c) ≡ false
      missed h = none_any (λ k. eqb (up_in l k x) c) (suc (length l.files))
          (λ k m. ne_eqb _ _ (λ e. false≢true (sym h ∙ (beneath-says v c x).1 (over k (sym (up_same k x d).0 ∙ e)))))

  module _ (t : ℕ) (low : t < n) (file : File v t) where
    -- no two files of a directory have one identifier
    named-same : (s : ℕ) → s < n → File v s → is_named (v t).parent (v t).identifier (entry_of s (v s)) ≡ eqb s t
    unfolding is_named
    named-same s h f = same_test _ (eqb s t) (λ e. itself e) (λ e. other e)
      where
        itself : eqb s t ≡ true → (eqb (v s).parent (v t).parent && eqb (v s).identifier (v t).identifier) ≡ true
        itself e = rw (eqb-true s t e, eq-eqb (v t).parent (v t).parent refl, eq-eqb (v t).identifier (v t).identifier refl)

        other : eqb s t ≡ false → (eqb (v s).parent (v t).parent && eqb (v s).identifier (v t).identifier) ≡ false
        other e = go (eqb (v s).parent (v t).parent) refl (eqb (v s).identifier (v t).identifier) refl
          where
            go : (a : Bool) → eqb (v s).parent (v t).parent ≡ a → (b : Bool) → eqb (v s).identifier (v t).identifier ≡ b
                → (a && b) ≡ false
            go false p b q = refl
            go true p false q = refl
            go true p true q = absurd (⊎_elim
                (λ m. kin.siblings t low file s m f (eqb-true _ _ p) (eqb-true _ _ q))
                (λ m. kin.siblings s h f t m file (sym (eqb-true _ _ p)) (sym (eqb-true _ _ q)))
                (apart s t (eqb-false s t e)))

    pub file-same : file_in l (v t).parent (v t).identifier ≡ entry_of t (v t)
    unfolding file_in
    file-same = only_entry l n v ok (is_named (v t).parent (v t).identifier) t low file (named-same t low file ∙ eq-eqb t t refl)
        (λ i k m f. named-same i k f ∙ ne_eqb i t m)

    -- nothing lies beneath an EF
    plain : ((v t).kind ≡ df → ⊥) → (x : ℕ) → Dir n v x → at_or_beneath v t x ≡ false
    plain f x d = untrue (at_or_beneath v t x) (λ e. above ((beneath-says v t x).0 e))
      where
        above : AtOrBeneath v t x → ⊥
        above b = f (ap (λ (s : ℕ). (v s).kind) (sym b.over) ∙ (up_same ((v x).level - (v t).level) x d).1.dir)

    pub within_same : (x : ℕ) → Dir n v x → within l (v t).parent (v t).identifier x ≡ at_or_beneath v t x
    unfolding within
    within_same x d = rw file-same (⊎_elim
        (λ e. rw (eq-eqb (v t).kind df e, ne_eqb t 0 file.1) (beneath-same t x file.1 d))
        (λ f. rw (ne_eqb (v t).kind df f) (sym (plain f x d)))
        (same_or (v t).kind df))

    -- the entry goes exactly if its record does
    pub goes_same : (s : ℕ) → s < n → File v s → goes_with l (v t).parent (v t).identifier (entry_of s (v s)) ≡ at_or_beneath v t s
    unfolding goes_with
    goes_same s h f =
        let p = kin.placed s h f in
        rw (named-same s h f, within_same (v s).parent (record { low = p.low; dir = p.dir })) (sym (beneath-step n v kin t s h f))

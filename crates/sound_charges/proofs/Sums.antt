-- Sums of what files cost their directories: where they start, what one more file adds, and what they say of a
-- directory at the end.
use mathlib.Core.Path.{◌≡◌, refl, sym, ◌∙◌}
use mathlib.Core.Bool.{Bool, true, false, not}
use mathlib.Core.List.{List}
use Prim.Native.Nat.{ℕ, ◌+◌, ◌*◌, ◌<◌, ◌≤◌}
use native.Mathlib.Omega.{arith}
use lib.Dec.{eqb, leb}
use lib.ListN.{get_or, set, replicate, length-set, length-replicate, get_or-replicate}
use lib.Seq.{get_or-set_same, get_or-set_other}
use borrow.Author.Tests.{eq-eqb, ne_eqb, eqb-true, eqb-false, not-true, not-false}
use Rattle.laws.proofs.Chains.{implies-no, implies-yes}
use Rattle.laws.proofs.Sums.{sum-start, sum_more}
use Rattle.image.specs.Layout.{Sized, rec_at, kind_of, size_of}
use Rattle.sound.specs.Table.{View, view_at, is_file, charge_of, charged}
use Rattle.sound.specs.Kin.{charges_at}
use Rattle.sound_charges.specs.Summing.{Summed}

pub summed_none : (v : ℕ → View) → Summed v 0 (replicate 1023 0)
unfolding charged
summed_none v =
    record {
      long = length-replicate {A = ℕ} 1023 0;
      right = λ d l. get_or-replicate {A = ℕ} 1023 d 0 0 l ∙ sym (sum-start (λ s. charge_of d s (v s)));
      small = λ d l. omega (arith, get_or-replicate {A = ℕ} 1023 d 0 0 l);
    }

-- the files below s, and s
charged-next : (v : ℕ → View) (d s : ℕ) → charged (s + 1) v d ≡ charged s v d + charge_of d s (v s)
unfolding charged
charged-next v d s = sum_more (λ k. charge_of d k (v k)) s

module _ (v : ℕ → View) (s : ℕ) (f : Bool) (e : f ≡ is_file v s) (sums : List ℕ) (h : Summed v s sums) where
  -- s costs no directory anything
  nothing : ((d : ℕ) → d < 1023 → charge_of d s (v s) ≡ 0) → Summed v (s + 1) sums
  nothing z =
      record {
        long = h.long;
        right = λ d l. omega (arith, charged-next v d s, h.right d l, z d l);
        small = λ d l. omega (arith, h.small d l);
      }

  -- no file
  pub summed_free : not f ≡ true → Summed v (s + 1) sums
  unfolding charge_of
  summed_free t = nothing (λ d l. rw (sym e ∙ not-true f t))

  module _ (t : not f ≡ false) (p : ℕ) (q : p ≡ (v s).parent) where
    costs_other : (d : ℕ) → (p ≡ d → ⊥) → charge_of d s (v s) ≡ 0
    unfolding charge_of
    costs_other d z = rw (sym e ∙ not-false f t, ← q, ne_eqb p d z)

    costs_own : (d z : ℕ) → p ≡ d → z ≡ (v s).size → charge_of d s (v s) ≡ z + 64
    unfolding charge_of
    costs_own d z g i = rw (sym e ∙ not-false f t, ← q, eq-eqb p d g, i)

    -- a directory that no image has
    pub summed_off : 1023 ≤ p → Summed v (s + 1) sums
    summed_off far = nothing (λ d l. costs_other d (λ g. omega arith))

    -- z is the size
    pub summed_on : p < 1023 → (z : ℕ) → z ≡ (v s).size → z < 4294967296 → Summed v (s + 1) (set sums p (get_or sums p 0 + (z + 64)))
    summed_on near z i low =
        record {
          long = simp length-set h.long;
          right = λ d l. omega (arith, charged-next v d s, (sum d l (eqb p d) refl).0);
          small = λ d l. omega (arith, (sum d l (eqb p d) refl).1);
        }
      where
        sum : (d : ℕ) → d < 1023 → (b : Bool) → eqb p d ≡ b
            → (get_or (set sums p (get_or sums p 0 + (z + 64))) d 0 ≡ charged s v d + charge_of d s (v s))
            × (get_or (set sums p (get_or sums p 0 + (z + 64))) d 0 ≤ (s + 1) * 4294967359)
        sum d l true g =
            let j : p ≡ d = eqb-true p d g in
            let here : get_or (set sums p (get_or sums p 0 + (z + 64))) d 0 ≡ get_or sums d 0 + (z + 64) = rw (← j)
            (get_or-set_same sums p (get_or sums p 0 + (z + 64)) 0 (omega (arith, h.long))) in
            (omega (arith, here, h.right d l, costs_own d z j i), omega (arith, here, h.small d l))
        sum d l false g =
            let j : p ≡ d → ⊥ = eqb-false p d g in
            let there : get_or (set sums p (get_or sums p 0 + (z + 64))) d 0 ≡ get_or sums d 0 = get_or-set_other sums p d
            (get_or sums p 0 + (z + 64)) 0 (λ k. j (sym k)) in
            (omega (arith, there, h.right d l, costs_other d j), omega (arith, there, h.small d l))

-- the sum of one directory, for the addition
pub sum-small : (v : ℕ → View) (s : ℕ) (sums : List ℕ) (p : ℕ) → Summed v s sums → p < 1023 → get_or sums p 0 ≤ s * 4294967359
sum-small v s sums p h l = h.small p l

-- once all records are added, the sum of a directory is what its children cost it
pub sum_is : (img : List ℕ) (n : ℕ) (sums : List ℕ) (d : ℕ) → Summed (view_at img) n sums → Sized img n → d < n
    → get_or sums d 0 ≡ charged n (view_at img) d
sum_is img n sums d h sized l = h.right d (omega (arith, sized.most))

-- a file that is no DF, or a DF whose children cost a; k is its kind, z its size
module _ (img : List ℕ) (n d k : ℕ) (e : k ≡ kind_of (rec_at img d)) where
  pub charges-no : (k ≡ 1 → ⊥) → true ≡ charges_at n (view_at img) d
  unfolding charges_at
  charges-no h = implies-no _ _ (rw (← e) (ne_eqb k 1 h))

  pub charges_is : (a z : ℕ) (x : Bool) → k ≡ 1 → a ≡ charged n (view_at img) d → z ≡ size_of (rec_at img d) → x ≡ leb a z
      → x ≡ charges_at n (view_at img) d
  unfolding charges_at
  charges_is a z x h g i y = implies-yes _ _ _ (rw (← e) (eq-eqb k 1 h)) (rw (← g, ← i) y)

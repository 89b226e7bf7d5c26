-- Marks: what is set, what stays, what the way up finds, and what a walk over all slots knows at its end.
use mathlib.Core.Path.{◌≡◌, refl, sym, ap, ◌∙◌}
use mathlib.Core.Bool.{Bool, true, false, not}
use mathlib.Core.List.{List}
use mathlib.Core.Logic.{⊎_elim}
use Prim.Native.Nat.{ℕ, ◌+◌, ◌<◌, ◌≤◌}
use native.Mathlib.Omega.{arith}
use lib.Dec.{eqb}
use lib.ListN.{get_or, set, replicate, length-set, length-replicate, get_or-replicate}
use lib.Seq.{get_or-set_same, get_or-set_other}
use borrow.Author.Count.{below_none, below_more}
use Rattle.laws.proofs.Chains.{and-on, and_off}
use Rattle.laws.proofs.Says.{same_or}
use Rattle.sound.specs.Table.{View, view_at}
use Rattle.sound.specs.Kinship.{at_or_beneath, beneath}
use Rattle.kinship.specs.Climb.{Rooted, Stands}
use Rattle.subtree.specs.Known.{mark_of, is_open, Known, MarkOrNone, Keeps, Settled}
use Rattle.subtree.proofs.Way.{Passed, beneath-free, beneath-same, beneath-other, beneath-parent, shut_high}

-- a mark is never 0, and tells the test
pub mark_some : (b : Bool) → mark_of b ≡ 0 → ⊥
mark_some true e = omega arith
mark_some false e = omega arith

mark_yes : (b : Bool) → mark_of b ≡ 1 → b ≡ true
mark_yes true e = refl
mark_yes false e = absurd (omega arith)

mark_no : (b : Bool) → (mark_of b ≡ 1 → ⊥) → b ≡ false
mark_no true e = absurd (e refl)
mark_no false e = refl

module _ (v : ℕ → View) (n d : ℕ) (marks : List ℕ) (h : Known v n d marks) (most : n ≤ 1023) (t m : ℕ) (low : t < n)
    (e : m ≡ mark_of (at_or_beneath v d t)) where
  pub known-set : Known v n d (set marks t m)
  known-set = record { long = simp length-set h.long; right = λ k l z. ⊎_elim (λ q. here k q) (λ q. there k l z q) (same_or k t) }
    where
      here : (k : ℕ) → k ≡ t → get_or (set marks t m) k 0 ≡ mark_of (at_or_beneath v d k)
      here k q = rw q (get_or-set_same marks t m 0 (omega (arith, h.long)) ∙ e)

      there : (k : ℕ) → k < n → (get_or (set marks t m) k 0 ≡ 0 → ⊥) → (k ≡ t → ⊥) → get_or (set marks t m) k 0 ≡ mark_of (at_or_beneath v d k)
      there k l z q =
          let same = get_or-set_other marks t k m 0 q in
          same ∙ h.right k l (λ y. z (same ∙ y))

  -- the mark that was set is there, and the others stay
  pub set_known : get_or (set marks t m) t 0 ≡ 0 → ⊥
  set_known y = mark_some (at_or_beneath v d t) (sym (get_or-set_same marks t m 0 (omega (arith, h.long)) ∙ e) ∙ y)

  pub keeps_set : (old : List ℕ) → Keeps old marks → Keeps old (set marks t m)
  keeps_set old g =
      record {
        kept = λ k z y. ⊎_elim (λ q. set_known (rw q at y)) (λ q. g.kept k z (sym (get_or-set_other marks t k m 0 q) ∙ y)) (same_or k t);
      }

pub keeps_all : (marks : List ℕ) → Keeps marks marks
keeps_all marks = record { kept = λ k z. z }

-- the way up from s ends at t: its mark m is known, or it is no deeper than d
module _ (img : List ℕ) (n d s t : ℕ) (h : Passed img n d s t) (marks : List ℕ) where
  pub find_known : (m : ℕ) → Known (view_at img) n d marks → m ≡ get_or marks t 0 → (m ≡ 0 → ⊥) → m ≡ mark_of (at_or_beneath (view_at img) d s)
  find_known m k e z = e ∙ k.right t h.stands.low (λ y. z (e ∙ y)) ∙ ap mark_of h.same

  module _ (high m : ℕ) (r : Bool) (l : high ≡ (view_at img d).level) (e : r ≡ is_open (view_at img) high marks t) (o : r ≡ false)
      (f : m ≡ get_or marks t 0) (z : m ≡ 0) where
    pub find_here : t ≡ d → 1 ≡ mark_of (at_or_beneath (view_at img) d s)
    find_here q = ap mark_of (sym (beneath-same (view_at img) d t h.stands.used q) ∙ h.same)

    pub find_other : (t ≡ d → ⊥) → 2 ≡ mark_of (at_or_beneath (view_at img) d s)
    find_other q =
        ap mark_of
        (sym (beneath-other (view_at img) d t h.stands.used (omega (arith, shut_high (view_at img) high marks t r e o (sym f ∙ z))) q)
        ∙ h.same)

pub parent-fits : (img : List ℕ) (n s p : ℕ) → Rooted img n → Stands img n s → p ≡ (view_at img s).parent → p < 1023
parent-fits img n s p rooted h q = omega (arith, (rooted.parent s h).low, rooted.sized.most)

-- without a climb: l and high are the levels of s and d, p the parent of s
module _ (img : List ℕ) (n d s : ℕ) (h : Stands img n s) (high l : ℕ) (f : high ≡ (view_at img d).level) (e : l ≡ (view_at img s).level) where
  pub once_parent : Rooted img n → (marks : List ℕ) → Known (view_at img) n d marks → high < l → (p : ℕ) → p ≡ (view_at img s).parent
      → MarkOrNone (view_at img) d s (get_or marks p 0)
  once_parent rooted marks k deep p q =
      let up = rooted.parent s h in
      let step : (view_at img s).level ≡ (view_at img (view_at img s).parent).level + 1 = rooted.level s h (omega arith) in
      let same = beneath-parent (view_at img) d s (view_at img s).parent h.used up.used refl step (omega arith) in
      record { right = rw q (λ z. k.right (view_at img s).parent up.low z ∙ ap mark_of same) }

  pub once_here : s ≡ d → MarkOrNone (view_at img) d s 1
  once_here z = record { right = λ y. ap mark_of (sym (beneath-same (view_at img) d s h.used z)) }

  pub once_other : l ≤ high → (s ≡ d → ⊥) → MarkOrNone (view_at img) d s 2
  once_other m z = record { right = λ y. ap mark_of (sym (beneath-other (view_at img) d s h.used (omega arith) z)) }

-- t, which the way up from s passed, gets the mark m of s
module _ (img : List ℕ) (n d s t : ℕ) (rooted : Rooted img n) (h : Passed img n d s t) (marks : List ℕ)
    (k : Known (view_at img) n d marks) (m : ℕ) (e : m ≡ mark_of (at_or_beneath (view_at img) d s)) where
  pub spread-known : Known (view_at img) n d (set marks t m)
  spread-known = known-set (view_at img) n d marks k rooted.sized.most t m h.stands.low (e ∙ ap mark_of (sym h.same))

  pub spread_keeps : (old : List ℕ) → Keeps old marks → Keeps old (set marks t m)
  spread_keeps = keeps_set (view_at img) n d marks k rooted.sized.most t m h.stands.low (e ∙ ap mark_of (sym h.same))

-- one slot more is settled
module _ (v : ℕ → View) (n d s : ℕ) (marks : List ℕ) (h : Settled v n d s marks) where
  pub settled_known : (get_or marks s 0 ≡ 0 → ⊥) → Settled v n d (s + 1) marks
  settled_known z = record { known = h.known; done = below_more (λ (k : ℕ). get_or marks k 0 ≡ 0 → ⊥) s h.done z }

  pub settled_new : n ≤ 1023 → s < n → (l : List ℕ) (m : ℕ) → Known v n d l → Keeps marks l → m ≡ mark_of (at_or_beneath v d s)
      → Settled v n d (s + 1) (set l s m)
  settled_new most low l m k g e =
      record {
        known = known-set v n d l k most s m low e;
        done = below_more (λ (k : ℕ). get_or (set l s m) k 0 ≡ 0 → ⊥) s
            (λ i a. (keeps_set v n d l k most s m low e marks g).kept i (h.done i a))
            (set_known v n d l k most s m low e);
      }

  pub settled_once : n ≤ 1023 → s < n → (m : ℕ) → MarkOrNone v d s m → (m ≡ 0 → ⊥) → Settled v n d (s + 1) (set marks s m)
  settled_once most low m k z = settled_new most low marks m h.known (keeps_all marks) (k.right z)

  pub settled_free : n ≤ 1023 → s < n → (k : ℕ) → k ≡ (v s).kind → k ≡ 0 → Settled v n d (s + 1) (set marks s 2)
  settled_free most low k e z = settled_new most low marks 2 h.known (keeps_all marks) (ap mark_of (sym (beneath-free v d s (sym e ∙ z))))

pub settled_none : (v : ℕ → View) (n d : ℕ) → n ≤ 1023 → Settled v n d 0 (replicate 1023 0)
settled_none v n d most =
    record {
      known = record {
        long = length-replicate {A = ℕ} 1023 0;
        right = λ k l z. absurd (z (get_or-replicate {A = ℕ} 1023 k 0 0 (omega arith)));
      };
      done = below_none _;
    }

pub settled_end : (v : ℕ → View) (n d s : ℕ) (marks : List ℕ) → Settled v n d s marks → s ≤ n → n ≤ s → Settled v n d n marks
settled_end v n d s marks h a b = let e : s ≡ n = omega arith in rw e at h

-- once all are settled, a mark m of slot s tells whether it is at or beneath d
module _ (v : ℕ → View) (n d s : ℕ) (marks : List ℕ) (h : Settled v n d n marks) (low : s < n) where
  told : get_or marks s 0 ≡ mark_of (at_or_beneath v d s)
  told = h.known.right s low (h.done s low)

  pub told-no : (get_or marks s 0 ≡ 1 → ⊥) → false ≡ beneath v d s
  unfolding beneath
  told-no z = and_off (at_or_beneath v d s) (not (eqb s d)) (mark_no (at_or_beneath v d s) (λ y. z (told ∙ y))) refl

  pub told-yes : get_or marks s 0 ≡ 1 → (r : Bool) → r ≡ not (eqb s d) → r ≡ beneath v d s
  unfolding beneath
  told-yes z r e = and-on (at_or_beneath v d s) (not (eqb s d)) (mark_yes (at_or_beneath v d s) (sym told ∙ z)) e

  pub chosen-beneath : eqb (get_or marks s 0) 1 ≡ at_or_beneath v d s
  chosen-beneath = ap (λ (m : ℕ). eqb m 1) told ∙ same (at_or_beneath v d s)
    where
      same : (b : Bool) → eqb (mark_of b) 1 ≡ b
      same true = refl
      same false = refl

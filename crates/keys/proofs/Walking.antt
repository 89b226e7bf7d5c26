-- A walk that puts the key of each record that counts into the set: where it starts, and each way to go on.
use mathlib.Core.Path.{◌≡◌, sym, ap, ◌∙◌}
use mathlib.Core.List.{List}
use mathlib.Core.Bool.{Bool, true, false, false≢true}
use Prim.Native.Nat.{ℕ, ◌+◌, ◌<◌}
use native.Mathlib.Omega.{arith}
use lib.ListN.{length, replicate, length-replicate}
use borrow.Author.Count.{below_none, below_more}
use Rattle.keys.specs.Marks.{marked, marking, Keyed}
use Rattle.keys.proofs.Bits.{length-marking, marked_new, marked-kept}

module _ (counts : ℕ → Bool) (key : ℕ → ℕ) where
  pub keyed_none : Keyed counts key 0 (replicate 1024 0)
  keyed_none = record { long = length-replicate {A = ℕ} 1024 0; has = below_none _ }

  module _ (s : ℕ) (seen : List ℕ) (h : Keyed counts key s seen) where
    -- one that does not count
    pub keyed_free : counts s ≡ false → Keyed counts key (s + 1) seen
    keyed_free e =
        record {
          long = h.long;
          has = below_more (λ (t : ℕ). counts t ≡ true → marked seen (key t) ≡ true) s h.has (λ u. absurd (false≢true (sym e ∙ u)));
        }

    -- one whose key k, which r says, is there already
    pub keyed_again : (k : ℕ) (r : Bool) → k ≡ key s → r ≡ marked seen k → r ≡ true → Keyed counts key (s + 1) seen
    keyed_again k r e f g =
        record {
          long = h.long;
          has = below_more (λ (t : ℕ). counts t ≡ true → marked seen (key t) ≡ true) s h.has (λ u. ap (marked seen) (sym e) ∙ sym f ∙ g);
        }

    -- one whose key k is put in, whether new or not
    pub keyed_put : (k : ℕ) (l : List ℕ) → k ≡ key s → k < 65536 → l ≡ marking seen k → Keyed counts key (s + 1) l
    keyed_put k l e low f =
        record {
          long = ap length f ∙ length-marking seen k ∙ h.long;
          has = rw f (below_more (λ (t : ℕ). counts t ≡ true → marked (marking seen k) (key t) ≡ true) s
              (λ t m u. marked-kept seen k (key t) (omega (arith, h.long)) (h.has t m u))
              (λ u. ap (marked (marking seen k)) (sym e) ∙ marked_new seen k (omega (arith, h.long))));
        }

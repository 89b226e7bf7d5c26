-- The rule of a padded record: where it ends, and that it has no other end.
use mathlib.Core.Path.{◌≡◌, refl, sym, ◌∙◌, ap}
use mathlib.Core.Bool.{Bool, true, false, not, false≢true, and-false}
use mathlib.Core.List.{List, [], ◌++◌}
use Prim.Native.Nat.{ℕ, suc, ◌-◌, ◌≤◌}
use native.Mathlib.Omega.{arith}
use lib.ListN.{length, take, drop, length-append, length-drop, take-append-drop}
use lib.Seq.{length-take-le, take_all, take-append_seam, drop-append_seam}
use borrow.Author.Tests.{not-true, not-false}
use Rattle.std.specs.Prelude.{Option, Some, None, unwrap_or}
use Rattle.laws.specs.Walks.{first_below}
use Rattle.laws.proofs.Says.{and-says}
use Rattle.laws.proofs.Firsts.{first_is, no-first}
use Rattle.expanded.specs.Expanded.{expanded_formed}
use Rattle.referred.specs.Padding.{is_padding, ends_at, unpadded_end, Padded, OnlyEnd}
use Rattle.referred.proofs.Ends.{end_unique}

-- the only place where the rule can end is where it ends, or it has none
module _ {s : List ℕ} {k : ℕ} (o : OnlyEnd s k) where
  end-no : ends_at s k ≡ false → 0 ≡ unpadded_end s
  unfolding unpadded_end
  end-no e = go (first_below (suc (length s)) (ends_at s)) refl
    where
      go : (f : Option ℕ) → first_below (suc (length s)) (ends_at s) ≡ f → 0 ≡ unwrap_or f 0
      go None q = refl
      go (Some j) q =
          let i = first_is (suc (length s)) (ends_at s) j q in
          let z : j ≡ k = o.only j (omega (arith, i.low)) i.here in
          absurd (false≢true (sym e ∙ ap (ends_at s) (sym z) ∙ i.here))

  end-yes : ends_at s k ≡ true → k ≡ unpadded_end s
  unfolding unpadded_end
  end-yes e = go (first_below (suc (length s)) (ends_at s)) refl
    where
      go : (f : Option ℕ) → first_below (suc (length s)) (ends_at s) ≡ f → k ≡ unwrap_or f 0
      go None q = absurd (false≢true (sym ((no-first (suc (length s)) (ends_at s) q).none k (omega (arith, o.within))) ∙ e))
      go (Some j) q =
          let i = first_is (suc (length s)) (ends_at s) j q in
          sym (o.only j (omega (arith, i.low)) i.here)

  -- r and q are what was answered of the two parts
  module _ {r : Bool} (f : r ≡ expanded_formed (take k s)) where
    pub end_unformed : not r ≡ true → 0 ≡ unpadded_end s
    unfolding ends_at
    end_unformed t = end-no (rw (← f, not-true r t))

    module _ {q : Bool} (g : q ≡ is_padding (take (length s - k) (drop k s))) where
      rest : q ≡ is_padding (drop k s)
      rest = g ∙ ap is_padding (take_all (length s - k) (drop k s) (omega (arith, length-drop k s)))

      pub end-unpadded : not q ≡ true → 0 ≡ unpadded_end s
      unfolding ends_at
      end-unpadded t = end-no (rw (← rest, not-true q t) (and-false (expanded_formed (take k s))))

      pub end-there : not r ≡ false → not q ≡ false → k ≡ unpadded_end s
      unfolding ends_at
      end-there t u = end-yes (rw (← f, ← rest, not-false r t, not-false q u))

-- a part from the start has the length that was asked for
pub part-long : (s : List ℕ) (k : ℕ) → k ≤ length s → k ≡ length (take k s)
part-long s k h = sym (length-take-le k s h)

-- no bytes are no rule
pub none-formed : expanded_formed [] ≡ false
unfolding expanded_formed
none-formed = refl

-- a record that is a rule and padding: where the rule ends, and that it is given
pub end_is : (r p : List ℕ) → expanded_formed r ≡ true → is_padding p ≡ true → unpadded_end (r ++ p) ≡ length r
unfolding ends_at
end_is r p f g = sym (end-yes only there)
  where
    there : ends_at (r ++ p) (length r) ≡ true
    there = rw (take-append_seam r p, drop-append_seam r p, f, g)

    fits : length r ≤ length (r ++ p)
    fits = omega (arith, length-append r p)

    only : OnlyEnd (r ++ p) (length r)
    only = record { within = fits; only = λ j h e. end_unique (r ++ p) j (length r) h fits e there }

-- where a rule ends, the record is that rule and padding
pub ends_padded : (s : List ℕ) (j : ℕ) → ends_at s j ≡ true → Padded s (take j s)
unfolding ends_at
ends_padded s j e =
    let two = (and-says (expanded_formed (take j s)) (is_padding (drop j s))).0 e in
    record { padding = drop j s; whole = sym (take-append-drop j s); formed = two.0; only = two.1 }

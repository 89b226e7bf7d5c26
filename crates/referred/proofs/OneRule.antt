-- The rule of a padded record: there is at most one, and `unpadded` gives it.
use mathlib.Core.Path.{◌≡◌, sym, ◌∙◌, ap}
use mathlib.Core.Bool.{true}
use mathlib.Core.List.{List, ◌++◌}
use Prim.Native.Nat.{ℕ}
use lib.ListN.{take}
use lib.Seq.{take-append_seam}
use Rattle.expanded.specs.Expanded.{expanded_formed}
use Rattle.referred.specs.Padding.{is_padding, unpadded, Padded}
use Rattle.referred.proofs.Unpadded.{end_unformed, end-unpadded, end-there, end_is}

pub ruleset placed = (end_unformed, end-unpadded, end-there)

pub unpadded_is : (r p : List ℕ) → expanded_formed r ≡ true → is_padding p ≡ true → unpadded (r ++ p) ≡ r
unfolding unpadded
unpadded_is r p f g = ap (λ (k : ℕ). take k (r ++ p)) (end_is r p f g) ∙ take-append_seam r p

-- at most one rule
pub one-rule : (s r t : List ℕ) → Padded s r → Padded s t → r ≡ t
one-rule s r t p q =
    sym (unpadded_is r p.padding p.formed p.only)
    ∙ ap unpadded (sym p.whole ∙ q.whole)
    ∙ unpadded_is t q.padding q.formed q.only

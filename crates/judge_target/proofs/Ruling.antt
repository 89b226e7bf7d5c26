-- The rule that decides on a file, as it was read: the form in which it is asked, and its bytes.
use mathlib.Core.Path.{◌≡◌, ◌∙◌, ap, fun_ext}
use mathlib.Core.List.{List}
use Prim.Native.Nat.{ℕ}
use Rattle.image.specs.Layout.{rec_at, count_of, form_of}
use Rattle.access.specs.Access.{asked_as, granted_of}
use Rattle.access.specs.Decision.{decision_of}
use Rattle.referred.specs.Deciding.{deciding_rule}
use Rattle.judge_target.specs.Target.{form_at, rule_at, allowed_at, decision_at}

-- f is the form that stands in the record, g the one in which its rule is asked, l the rule; any function of both
pub rule-of : {A : Type 0} (h : ℕ → List ℕ → A) (img pool : List ℕ) (n s : ℕ) {f g : ℕ} {l : List ℕ} {r : A} → n ≡ count_of img
    → f ≡ form_of (rec_at img s) → g ≡ asked_as f → l ≡ deciding_rule n img pool s → r ≡ h g l → r ≡ h (form_at img s) (rule_at img pool s)
rule-of h img pool n s {f} {g} {l} c a b e q =
    q
    ∙ ap (λ (k : ℕ). h k l) (b ∙ ap asked_as a)
    ∙ ap (h (form_at img s)) (e ∙ ap (λ (k : ℕ). deciding_rule k img pool s) c)

-- the pool is looked at for rules alone: where the same rule decides on every slot, the same is granted and decided
module _ (img pool other : List ℕ) (same : (s : ℕ) → rule_at img pool s ≡ rule_at img other s) where
  pub allowed_alike : allowed_at img pool ≡ allowed_at img other
  unfolding allowed_at
  allowed_alike = fun_ext (λ s. fun_ext (λ right. fun_ext (λ x. ap (λ (l : List ℕ). granted_of (form_at img s) l right x) (same s))))

  pub decided_alike : decision_at img pool ≡ decision_at img other
  unfolding decision_at
  decided_alike = fun_ext (λ s. fun_ext (λ right. fun_ext (λ x. ap (λ (l : List ℕ). decision_of (form_at img s) l right x) (same s))))

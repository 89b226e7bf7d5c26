-- The decision on a rule is the one that was meant: what holds of all states, from what holds of the widest.
use mathlib.Core.Path.{◌≡◌, refl, sym, ap, ◌∙◌}
use mathlib.Core.Bool.{Bool, true, false, cond, ◌||◌, false≢true}
use mathlib.Core.List.{List}
use mathlib.Core.Logic.{◌⊎◌, inl, inr, ⊎_elim}
use Prim.Native.Nat.{ℕ}
use native.Mathlib.Omega.{arith}
use lib.Dec.{eqb}
use Rattle.laws.proofs.Says.{untrue}
use Rattle.rules.specs.declared.Right.{Right}
use Rattle.rules.specs.declared.Sets.{Sets}
use Rattle.rules.proofs.Growing.{Grows, same_grows, cond_grows, compact_grows, full_widest}
use Rattle.expanded.proofs.Growing.{expanded_grows}
use Rattle.access.specs.declared.Decision.{Decision}
use Rattle.access.specs.declared.Decision.TheVariants.{Granted, Lacking, Closed}
use Rattle.access.specs.Access.{compact, expanded, granted_of}
use Rattle.access.specs.Decision.{IsState, Decides, full, decision_of, decision_number, is_granted, either, MoreOpens}
use Rattle.access.specs.Decision.{DecisionSays, OneDecision, GrantedStays, EitherSays}

pub more_opens : MoreOpens
unfolding granted_of
more_opens form rule right x y l =
    cond_grows (eqb form compact) _ _ _ _ (compact_grows x y l rule right)
    (cond_grows (eqb form expanded) _ _ _ _ (expanded_grows x y l rule right) (same_grows false))

full-state : IsState full
full-state = record { messaging = omega arith; external = omega arith; user = omega arith }

module _ (form : ℕ) (rule : List ℕ) (right : Right) (x : Sets) where
  opens : (y : Sets) → Grows (granted_of form rule right y) (granted_of form rule right full)
  opens y = more_opens form rule right y full (full_widest y)

  -- a is what the state decides, b what the full sets decide
  says : (a b : Bool) → granted_of form rule right x ≡ a → granted_of form rule right full ≡ b
      → Decides form rule right x (cond a Granted (cond b Lacking Closed))
  says true b e f = record {
    granted = (λ q. e, λ q. refl);
    lacking = (λ q. absurd (omega (arith, ap decision_number q)), λ q. absurd (false≢true (sym q.0 ∙ e)));
    closed = (λ q. absurd (omega (arith, ap decision_number q)), λ q. absurd (false≢true (sym (q x) ∙ e)));
  }
  says false true e f = record {
    granted = (λ q. absurd (omega (arith, ap decision_number q)), λ q. absurd (false≢true (sym e ∙ q)));
    lacking = (λ q. (e, (full, (full-state, f))), λ q. refl);
    closed = (λ q. absurd (omega (arith, ap decision_number q)), λ q. absurd (false≢true (sym (q full) ∙ f)));
  }
  says false false e f = record {
    granted = (λ q. absurd (omega (arith, ap decision_number q)), λ q. absurd (false≢true (sym e ∙ q)));
    lacking = (λ q. absurd (omega (arith, ap decision_number q)), λ q. absurd (false≢true (sym f ∙ opens q.1.0 q.1.1.1)));
    closed = (λ q y. untrue (granted_of form rule right y) (λ t. false≢true (sym f ∙ opens y t)), λ q. refl);
  }

pub decision_says : DecisionSays
unfolding decision_of
decision_says form rule right x = says form rule right x (granted_of form rule right x) (granted_of form rule right full) refl refl

pub one_decision : OneDecision
one_decision form rule right x Granted e p q = sym (q.granted.1 (p.granted.0 refl))
one_decision form rule right x Lacking e p q = sym (q.lacking.1 (p.lacking.0 refl))
one_decision form rule right x Closed e p q = sym (q.closed.1 (p.closed.0 refl))

pub granted_stays : GrantedStays
unfolding decision_of
granted_stays form rule right x = go (granted_of form rule right x) (granted_of form rule right full)
  where
    go : (a b : Bool) → is_granted (cond a Granted (cond b Lacking Closed)) ≡ a
    go true b = refl
    go false true = refl
    go false false = refl

-- two rules
pub lacking-number : (d : Decision) → decision_number d ≡ 1 → d ≡ Lacking
lacking-number Granted e = absurd (omega arith)
lacking-number Lacking e = refl
lacking-number Closed e = absurd (omega arith)

pub closed-number : (d : Decision) → decision_number d ≡ 2 → d ≡ Closed
closed-number Granted e = absurd (omega arith)
closed-number Lacking e = absurd (omega arith)
closed-number Closed e = refl

pub either-says : EitherSays
either-says a b = (grants a b, (λ e. (ap is_granted e, lacks a b e), λ p. lacks_back a b p.0 p.1), (closes a b, λ p. rw (p.0, p.1)))
  where
    grants : (a b : Decision) → is_granted (either a b) ≡ (is_granted a || is_granted b)
    grants Granted b = refl
    grants Lacking Granted = refl
    grants Lacking Lacking = refl
    grants Lacking Closed = refl
    grants Closed b = refl

    lacks : (a b : Decision) → either a b ≡ Lacking → (a ≡ Lacking) ⊎ (b ≡ Lacking)
    lacks Granted b e = absurd (omega (arith, ap decision_number e))
    lacks Lacking b e = inl refl
    lacks Closed b e = inr e

    lacks_back : (a b : Decision) → is_granted (either a b) ≡ false → (a ≡ Lacking) ⊎ (b ≡ Lacking) → either a b ≡ Lacking
    lacks_back Granted b g e = absurd (false≢true (sym g))
    lacks_back Lacking Granted g e = absurd (false≢true (sym g))
    lacks_back Lacking Lacking g e = refl
    lacks_back Lacking Closed g e = refl
    lacks_back Closed b g e = ⊎_elim (λ q. absurd (omega (arith, ap decision_number q))) (λ q. q) e

    closes : (a b : Decision) → either a b ≡ Closed → (a ≡ Closed) × (b ≡ Closed)
    closes Granted b e = absurd (omega (arith, ap decision_number e))
    closes Lacking Granted e = absurd (omega (arith, ap decision_number e))
    closes Lacking Lacking e = absurd (omega (arith, ap decision_number e))
    closes Lacking Closed e = absurd (omega (arith, ap decision_number e))
    closes Closed b e = (refl, e)

-- what the three ways out of `decide` say: r is what the rule was found to decide, s what the full sets decide
module _ (form : ℕ) (rule : List ℕ) (right : Right) (x : Sets) {r : Bool} (e : r ≡ granted_of form rule right x) where
  Given : Decision → Type 0
  Given d = (d ≡ decision_of form rule right x) × Decides form rule right x d

  given : (d : Decision) → d ≡ decision_of form rule right x → Given d
  unfolding Given
  given d q = (q, rw q (decision_says form rule right x))

  pub decide_granted : r ≡ true → (Granted ≡ decision_of form rule right x) × Decides form rule right x Granted
  unfolding decision_of Given
  decide_granted t = given Granted (rw (sym e ∙ t))

  module _ (t : r ≡ false) {y : Sets} (full-sets : y ≡ full) {s : Bool} (f : s ≡ granted_of form rule right y) where
    pub decide_lacking : s ≡ true → (Lacking ≡ decision_of form rule right x) × Decides form rule right x Lacking
    unfolding decision_of Given
    decide_lacking u = given Lacking (rw (sym e ∙ t, ← full-sets, sym f ∙ u))

    pub decide_closed : s ≡ false → (Closed ≡ decision_of form rule right x) × Decides form rule right x Closed
    unfolding decision_of Given
    decide_closed u = given Closed (rw (sym e ∙ t, ← full-sets, sym f ∙ u))

-- Step J as a gate: a verdict that depends on what is authenticated through one step alone.
use mathlib.Core.Path.{◌≡◌, refl, sym, ap, ◌∙◌}
use mathlib.Core.Bool.{Bool, true, false, cond, not, ◌&&◌, false≢true}
use mathlib.Core.List.{List, [], ◌∷◌}
use Prim.Native.Nat.{ℕ}
use lib.Dec.{eqb}
use borrow.Author.Tests.{not-true}
use Rattle.std.specs.Prelude.{Err}
use Rattle.laws.proofs.Says.{and-says}
use Rattle.rules.specs.declared.Sets.{Sets}
use Rattle.access.specs.declared.Decision.{Decision}
use Rattle.access.specs.declared.Decision.TheVariants.{Granted}
use Rattle.access.specs.Decision.{is_granted}
use Rattle.verdict.specs.Applied.{Verdict}
use Rattle.verdict.specs.Words.{security_not_satisfied}
use Rattle.judge_target.specs.Steps.{Step, step, judged, all_hold, Plan, plan, followed}
use Rattle.judge_security.specs.Security.{is_denied, holds_j}

-- p is the plan of a command under each state, g what step J decides: once some state was denied, every one is denied exactly where g does
-- not grant, and step J holds exactly where it does
pub record Gated (p : Sets → Plan) (g : Sets → Decision) : Type 0 where
  pub again : (x y : Sets) → is_denied (followed (p x)) ≡ true → is_denied (followed (p y)) ≡ not (is_granted (g y))
  pub tells : (x y : Sets) → is_denied (followed (p x)) ≡ true → holds_j (p y).steps ≡ is_granted (g y)

-- no step of a list has the word of step J
abbrev pub quiet : List Step → Bool
quiet [] = true
quiet (s ∷ rest) = not (eqb s.word security_not_satisfied) && quiet rest

-- steps without that word, and an effect that isn't it, never deny
pub never : (steps : List Step) (e : Verdict) → quiet steps ≡ true → is_denied e ≡ false → is_denied (judged steps e) ≡ false
never [] e k h = h
never (s ∷ rest) e k h =
    let w = (and-says (not (eqb s.word security_not_satisfied)) (quiet rest)).0 k in
    go s.holds (not-true _ w.0) (never rest e w.1 h)
  where
    go : (b : Bool) → eqb s.word security_not_satisfied ≡ false → is_denied (judged rest e) ≡ false
        → is_denied (cond b (judged rest e) (Err s.word)) ≡ false
    go true p q = q
    go false p q = p

-- .. and have no step J
no_step : (steps : List Step) → quiet steps ≡ true → holds_j steps ≡ true
no_step [] k = refl
no_step (s ∷ rest) k =
    let w = (and-says (not (eqb s.word security_not_satisfied)) (quiet rest)).0 k in
    ap (λ (b : Bool). cond b s.holds true && holds_j rest) (not-true (eqb s.word security_not_satisfied) w.0) ∙ no_step rest w.1

-- a plan without step J never denies
pub gate_none : (steps : List Step) (e : Verdict) (g : Sets → Decision) → quiet steps ≡ true → is_denied e ≡ false → Gated (λ x. plan steps e) g
unfolding followed
gate_none steps e g k h = record {
  again = λ x y d. absurd (false≢true (sym (never steps e k h) ∙ d));
  tells = λ x y d. absurd (false≢true (sym (never steps e k h) ∙ d));
}

-- step J itself, of which the test is that g grants; then steps that never deny
pub gate_step : (test : Sets → Bool) (after : List Step) (e : Verdict) (g : Sets → Decision) → ((x : Sets) → is_granted (g x) ≡ test x)
    → quiet after ≡ true → is_denied e ≡ false → Gated (λ x. plan (step (test x) security_not_satisfied ∷ after) e) g
unfolding followed
gate_step test after e g same k h = record {
  again = λ x y d. go y (test y) (same y) (never after e k h);
  tells = λ x y d. ap (λ (b : Bool). test y && b) (no_step after k) ∙ alone (test y) ∙ sym (same y);
}
  where
    alone : (b : Bool) → (b && true) ≡ b
    alone true = refl
    alone false = refl

    go : (y : Sets) (b : Bool) → is_granted (g y) ≡ b → is_denied (judged after e) ≡ false
        → is_denied (cond b (judged after e) (Err security_not_satisfied)) ≡ not (is_granted (g y))
    go y true p q = q ∙ sym (ap not p)
    go y false p q = sym (ap not p)

-- a step before it, the same under every state
module _ (steps : Sets → List Step) (e : Sets → Verdict) (g : Sets → Decision) (h : Gated (λ x. plan (steps x) (e x)) g) where
  pub gate_before : (test : Sets → Bool) (w : ℕ) → ((x y : Sets) → test x ≡ test y) → eqb w security_not_satisfied ≡ false
      → Gated (λ x. plan (step (test x) w ∷ steps x) (e x)) g
  unfolding followed
  gate_before test w same k = record {
    again = λ x y. go x y (test x) (test y) (same x y);
    tells = λ x y d. ap (λ (b : Bool). cond b (test y) true && holds_j (steps y)) k ∙ h.tells x y (inner x (test x) d);
  }
    where
      inner : (x : Sets) (a : Bool) → is_denied (cond a (judged (steps x) (e x)) (Err w)) ≡ true → is_denied (judged (steps x) (e x)) ≡ true
      inner x true d = d
      inner x false d = absurd (false≢true (sym k ∙ d))

      go : (x y : Sets) (a b : Bool) → a ≡ b → is_denied (cond a (judged (steps x) (e x)) (Err w)) ≡ true
          → is_denied (cond b (judged (steps y) (e y)) (Err w)) ≡ not (is_granted (g y))
      go x y true true f d = h.again x y d
      go x y true false f d = absurd (false≢true (sym f))
      go x y false b f d = absurd (false≢true (sym k ∙ d))

  -- a step before it that there is something to decide on
  pub gate_there : (b : Bool) (w : ℕ) → eqb w security_not_satisfied ≡ false
      → Gated (λ x. plan (step (not b) w ∷ steps x) (e x)) (λ x. cond b Granted (g x))
  unfolding followed
  gate_there true w k = record { again = λ x y d. absurd (false≢true (sym k ∙ d)); tells = λ x y d. absurd (false≢true (sym k ∙ d)) }
  gate_there false w k = record {
    again = h.again;
    tells = λ x y d. ap (λ (b : Bool). cond b true true && holds_j (steps y)) k ∙ h.tells x y d;
  }

-- a plan that is chosen, by what is not authentication
pub gate_choice : (b : Bool) (p q : Sets → Plan) (g h : Sets → Decision) → Gated p g → Gated q h
    → Gated (λ x. cond b (p x) (q x)) (λ x. cond b (g x) (h x))
gate_choice true p q g h k l = k
gate_choice false p q g h k l = l

pub gate_both : (b : Bool) (p q : Sets → Plan) (g : Sets → Decision) → Gated p g → Gated q g → Gated (λ x. cond b (p x) (q x)) g
gate_both true p q g k l = k
gate_both false p q g k l = l

-- where the verdict denies, steps without that word have passed
pub passed : (steps : List Step) (v : Verdict) → quiet steps ≡ true → is_denied (judged steps v) ≡ true → all_hold steps ≡ true
passed [] v k d = refl
passed (s ∷ rest) v k d =
    let w = (and-says (not (eqb s.word security_not_satisfied)) (quiet rest)).0 k in
    go s.holds (not-true _ w.0) (passed rest v w.1) d
  where
    go : (b : Bool) → eqb s.word security_not_satisfied ≡ false → (is_denied (judged rest v) ≡ true → all_hold rest ≡ true)
        → is_denied (cond b (judged rest v) (Err s.word)) ≡ true → (b && all_hold rest) ≡ true
    go true p f e = f e
    go false p f e = absurd (false≢true (sym p ∙ e))

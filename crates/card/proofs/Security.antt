-- What a security refusal lacks: from the word of a call to step J, and back.
use mathlib.Core.Path.{◌≡◌, refl, sym, ap, ◌∙◌}
use mathlib.Core.Bool.{Bool, true, false, cond, not, false≢true}
use mathlib.Core.List.{List}
use mathlib.Core.Logic.{◌⊎◌, inl, inr, ⊎_elim}
use Prim.Native.Nat.{ℕ, ◌≤◌}
use native.Mathlib.Omega.{arith}
use lib.ListN.{length}
use borrow.Author.Tests.{eqb-true, eq-eqb, not-true}
use Rattle.std.specs.Prelude.{Ok, Err}
use Rattle.laws.proofs.Says.{same_or}
use Rattle.rules.specs.declared.Right.TheVariants.{DeleteSelf, DeleteChild}
use Rattle.rules.specs.declared.Sets.{Sets}
use Rattle.image.specs.Layout.{current_df_of}
use Rattle.access.specs.declared.Decision.{Decision}
use Rattle.access.specs.declared.Decision.TheVariants.{Granted, Lacking, Closed}
use Rattle.access.specs.Decision.{IsState, decision_number, is_granted, either}
use Rattle.access.proofs.Decided.{lacking-number, closed-number, either-says}
use Rattle.sound.specs.Sound.{Sound, soundb}
use Rattle.sound.proofs.Says.{sound-says}
use Rattle.verdict.specs.declared.State.{State}
use Rattle.verdict.specs.declared.Effect.TheVariants.{Select, Create, Delete, SetLife, Read, Update}
use Rattle.verdict.specs.Applied.{Verdict, word_of}
use Rattle.verdict.specs.Words.{security_not_satisfied}
use Rattle.judge.specs.Judge.{judge_of}
use Rattle.judge_target.specs.Target.{decision_at}
use Rattle.judge_security.specs.Security.{is_denied, deletion, decision_for, step_j, denial_of, holds_j, under}
use Rattle.judge_security.proofs.Gated.{judge_gated, judge_tells}
use Rattle.judge_security.proofs.Sure.{step_sure}
use Rattle.effect.specs.Told.{told}
use Rattle.card.specs.Command.{Reply}
use Rattle.card.specs.Command.{answer_number, answer_word, answer_security, pool_fits, PoolFits, due_of, reply_of}
use Rattle.card.specs.Steps.{steps_of}
use Rattle.card.specs.Conditions.{named_child}
use Rattle.card.specs.Security.{NumberExactly, LacksExactly, OtherStates, DeleteLacks}
use Rattle.card.proofs.Speaks.{Spoken}
use Rattle.card.proofs.Due.{pool-says, due_by, due_speaks, due_fits, due_wrong}
use Rattle.card.proofs.Answered.{damaged-word, word_is, security_is}

-- a verdict whose word is 6982 is step J's, and that one is just this refusal
word_denies : (v : Verdict) → Spoken v → word_of v ≡ 0x6982 → is_denied v ≡ true
word_denies (Err w) s e = eq-eqb w security_not_satisfied e
word_denies (Ok (Select d f w)) s e = absurd (⊎_elim (λ q. omega arith) (λ r. ⊎_elim (λ q. omega arith) (λ q. omega arith) r) s)
word_denies (Ok (Create x)) s e = absurd (omega arith)
word_denies (Ok (Delete x)) s e = absurd (omega arith)
word_denies (Ok (SetLife x life)) s e = absurd (omega arith)
word_denies (Ok (Read at n)) s e = absurd (omega arith)
word_denies (Ok (Update at)) s e = absurd (omega arith)

denied_is : (v : Verdict) → is_denied v ≡ true → v ≡ Err 0x6982
denied_is (Err w) e = ap (λ (n : ℕ). Err n) (eqb-true w security_not_satisfied e)
denied_is (Ok (Select d f w)) e = absurd (false≢true e)
denied_is (Ok (Create x)) e = absurd (false≢true e)
denied_is (Ok (Delete x)) e = absurd (false≢true e)
denied_is (Ok (SetLife x life)) e = absurd (false≢true e)
denied_is (Ok (Read at n)) e = absurd (false≢true e)
denied_is (Ok (Update at)) e = absurd (false≢true e)

-- numbers of a decision that does not grant
one-or-two : (d : Decision) → is_granted d ≡ false → (decision_number d ≡ 1) ⊎ (decision_number d ≡ 2)
one-or-two Granted e = absurd (false≢true (sym e))
one-or-two Lacking e = inl refl
one-or-two Closed e = inr refl

-- a reply with that word is answer 0
pub word-answers : (r : Reply) → answer_word r ≡ 0x6982 → answer_number r ≡ 0
word-answers (Ok a) e = refl
word-answers (Err x) e = absurd (omega arith)

module _ (img pool c : List ℕ) (st : State) (lent : ℕ) where
  word_sound : answer_word (reply_of img pool c st lent) ≡ 0x6982 → Sound img
  word_sound e = (sound-says img).0 (go (soundb img) refl)
    where
      go : (b : Bool) → soundb img ≡ b → soundb img ≡ true
      go true q = q
      go false q = absurd (omega (arith, e, damaged-word img pool c st lent q))

  -- the verdict that stands is step J's, so the judged one is, and the pool is the card's
  due_denied : answer_word (reply_of img pool c st lent) ≡ 0x6982 → is_denied (due_of img pool c st lent) ≡ true
  due_denied e = word_denies (due_of img pool c st lent) (due_speaks img pool c st lent) (sym (word_is img pool c st lent (word_sound e)) ∙ e)

  judge_denied : is_denied (due_of img pool c st lent) ≡ true → is_denied (judge_of img pool c st) ≡ true
  judge_denied =
      due_by img pool c st lent (λ v. is_denied v ≡ true → is_denied (judge_of img pool c st) ≡ true) (λ e. e) (λ e. absurd (false≢true e))

  pool-there : is_denied (due_of img pool c st lent) ≡ true → PoolFits img pool
  pool-there d = (pool-says img pool).0 (go (pool_fits img pool) refl)
    where
      go : (b : Bool) → pool_fits img pool ≡ b → pool_fits img pool ≡ true
      go true q = q
      go false q = absurd (false≢true (sym (ap is_denied (due_wrong img pool c st lent q)) ∙ d))

  -- and back
  judge_says : Sound img → PoolFits img pool → is_denied (judge_of img pool c st) ≡ true → answer_word (reply_of img pool c st lent) ≡ 0x6982
  judge_says sound fit d =
      let v = denied_is (judge_of img pool c st) d in
      let few : length (told img pool c (judge_of img pool c st)) ≤ lent = omega (arith, ap (λ (u : Verdict). length (told img pool c u)) v) in
      word_is img pool c st lent sound ∙ ap word_of ((due_fits img pool c st lent fit few).1 ∙ v)

  -- what a refused call tells
  tells_step : answer_word (reply_of img pool c st lent) ≡ 0x6982
      → answer_security (reply_of img pool c st lent) ≡ decision_number (step_j img pool c st.sets)
  unfolding denial_of
  tells_step e =
      security_is img pool c st lent (word_sound e)
      ∙ ap (λ (b : Bool). decision_number (cond b (step_j img pool c st.sets) Granted)) (due_denied e)

  -- what any other tells
  tells_none : (answer_word (reply_of img pool c st lent) ≡ 0x6982 → ⊥) → answer_security (reply_of img pool c st lent) ≡ 0
  unfolding denial_of reply_of
  tells_none z = go (soundb img) refl
    where
      undenied : Sound img → (b : Bool) → is_denied (due_of img pool c st lent) ≡ b
          → decision_number (cond b (step_j img pool c st.sets) Granted) ≡ 0
      undenied sound true q = absurd (z (word_is img pool c st lent sound ∙ ap word_of (denied_is (due_of img pool c st lent) q)))
      undenied sound false q = refl

      go : (b : Bool) → soundb img ≡ b → answer_security (reply_of img pool c st lent) ≡ 0
      go true q = let s = (sound-says img).0 q in security_is img pool c st lent s ∙ undenied s (is_denied (due_of img pool c st lent)) refl
      go false q = rw q

  -- step J, once it has refused
  module _ (e : answer_word (reply_of img pool c st lent) ≡ 0x6982) where
    denied : is_denied (judge_of img pool c (under st st.sets)) ≡ true
    denied = judge_denied (due_denied e)

    step-refused : is_granted (step_j img pool c st.sets) ≡ false
    step-refused = not-true (is_granted (step_j img pool c st.sets)) (sym (judge_gated img pool c st st.sets st.sets denied) ∙ denied)

    step-holds : (y : Sets) → holds_j (steps_of img pool c (under st y)) ≡ is_granted (step_j img pool c y)
    step-holds y = judge_tells img pool c st st.sets y denied

    step-again : (y : Sets) → is_denied (judge_of img pool c (under st y)) ≡ not (is_granted (step_j img pool c y))
    step-again y = judge_gated img pool c st st.sets y denied

    -- some state would open it; none would
    opened : answer_security (reply_of img pool c st lent) ≡ 1 → (y : Sets) × (IsState y × (is_granted (step_j img pool c y) ≡ true))
    opened q = (step_sure img pool c).lacking st.sets (lacking-number (step_j img pool c st.sets) (sym (tells_step e) ∙ q))

    shut : answer_security (reply_of img pool c st lent) ≡ 2 → (y : Sets) → is_granted (step_j img pool c y) ≡ false
    shut q = (step_sure img pool c).closed st.sets (closed-number (step_j img pool c st.sets) (sym (tells_step e) ∙ q))

    one-two : (answer_security (reply_of img pool c st lent) ≡ 1) ⊎ (answer_security (reply_of img pool c st lent) ≡ 2)
    one-two = rw (tells_step e) (one-or-two (step_j img pool c st.sets) step-refused)

    -- .. and back
    is_one : (y : Sets) → is_granted (step_j img pool c y) ≡ true → answer_security (reply_of img pool c st lent) ≡ 1
    is_one y g = ⊎_elim (λ q. q) (λ q. absurd (false≢true (sym (shut q y) ∙ g))) one-two

    is_two : ((y : Sets) → is_granted (step_j img pool c y) ≡ true → ⊥) → answer_security (reply_of img pool c st lent) ≡ 2
    is_two z = ⊎_elim (λ q. absurd (z (opened q).0 (opened q).1.1)) (λ q. q) one-two

pub number_exactly : NumberExactly
number_exactly img pool c st lent = (
  (λ q. go (same_or (answer_word (reply_of img pool c st lent)) 0x6982) q, λ p. one-two img pool c st lent p.1),
  tells_none img pool c st lent,
)
  where
    go : (answer_word (reply_of img pool c st lent) ≡ 0x6982) ⊎ (answer_word (reply_of img pool c st lent) ≡ 0x6982 → ⊥)
        → (answer_security (reply_of img pool c st lent) ≡ 1) ⊎ (answer_security (reply_of img pool c st lent) ≡ 2)
        → (answer_number (reply_of img pool c st lent) ≡ 0) × (answer_word (reply_of img pool c st lent) ≡ 0x6982)
    go (inl e) q = (word-answers (reply_of img pool c st lent) e, e)
    go (inr z) q = absurd (⊎_elim (λ p. omega (arith, p, tells_none img pool c st lent z)) (λ p. omega (arith, p, tells_none img pool c st lent z)) q)

pub lacks_exactly : LacksExactly
lacks_exactly img pool c st lent e = (
  (
    (λ q. let p = opened img pool c st lent e q in (p.0, (p.1.0, step-holds img pool c st lent e p.0 ∙ p.1.1))),
    (λ p. is_one img pool c st lent e p.0 (sym (step-holds img pool c st lent e p.0) ∙ p.1.1)),
  ),
  (
    (λ q y h. false≢true (sym (shut img pool c st lent e q y) ∙ sym (step-holds img pool c st lent e y) ∙ h)),
    (λ z. is_two img pool c st lent e (λ y g. z y (step-holds img pool c st lent e y ∙ g))),
  ),
)

pub other_states : OtherStates
other_states img pool c st lent e = (
  (
    (λ q. let p = opened img pool c st lent e q in (p.0, (p.1.0, λ w. granted-says p.0 p.1.1 w))),
    (λ p. is_one img pool c st lent e p.0 (says-granted p.0 p.1.1)),
  ),
  (
    (λ q y. denied-says y (shut img pool c st lent e q y)),
    (λ h. is_two img pool c st lent e (λ y g. granted-says y g (h y))),
  ),
)
  where
    sound : Sound img
    sound = word_sound img pool c st lent e

    fit : PoolFits img pool
    fit = pool-there img pool c st lent (due_denied img pool c st lent e)

    denied-says : (y : Sets) → is_granted (step_j img pool c y) ≡ false → answer_word (reply_of img pool c (under st y) lent) ≡ 0x6982
    denied-says y g = judge_says img pool c (under st y) lent sound fit (step-again img pool c st lent e y ∙ ap not g)

    granted-says : (y : Sets) → is_granted (step_j img pool c y) ≡ true → answer_word (reply_of img pool c (under st y) lent) ≡ 0x6982 → ⊥
    granted-says y g w =
        let d = judge_denied img pool c (under st y) lent (due_denied img pool c (under st y) lent w) in
        false≢true (sym (ap not g) ∙ sym (step-again img pool c st lent e y) ∙ d)

    says-granted : (y : Sets) → (answer_word (reply_of img pool c (under st y) lent) ≡ 0x6982 → ⊥) → is_granted (step_j img pool c y) ≡ true
    says-granted y z = go (is_granted (step_j img pool c y)) refl
      where
        go : (b : Bool) → is_granted (step_j img pool c y) ≡ b → is_granted (step_j img pool c y) ≡ true
        go true q = q
        go false q = absurd (z (denied-says y q))

pub delete-lacks : DeleteLacks
unfolding step_j decision_for deletion
delete-lacks img pool c st lent i e = (
  (
    (λ q. ((either-says own above).1.0 (lacking-number (either own above) (sym told_is ∙ q))).1),
    (λ p. told_is ∙ ap decision_number ((either-says own above).1.1 (refused, p))),
  ),
  (
    (λ q. (either-says own above).2.0 (closed-number (either own above) (sym told_is ∙ q))),
    (λ p. told_is ∙ ap decision_number ((either-says own above).2.1 p)),
  ),
)
  where
    own : Decision
    own = decision_at img pool (named_child img c) DeleteSelf st.sets

    above : Decision
    above = decision_at img pool (current_df_of img) DeleteChild st.sets

    step_is : step_j img pool c st.sets ≡ either own above
    step_is = rw i

    told_is : answer_security (reply_of img pool c st lent) ≡ decision_number (either own above)
    told_is = tells_step img pool c st lent e ∙ ap decision_number step_is

    refused : is_granted (either own above) ≡ false
    refused = ap is_granted (sym step_is) ∙ step-refused img pool c st lent e

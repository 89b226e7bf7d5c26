-- Of the response, proved: which commands tell nothing, and how long a response is always long enough.
use mathlib.Core.Path.{◌≡◌, refl, sym, ap, ◌∙◌}
use mathlib.Core.Bool.{Bool, true, false, cond}
use mathlib.Core.List.{List, []}
use mathlib.Core.Logic.{⊎_elim}
use Prim.Native.Nat.{ℕ, ◌≤◌}
use native.Mathlib.Omega.{arith}
use lib.ListN.{length, get_or}
use borrow.Author.Tests.{ne_eqb, eqb-true, le-leb}
use Rattle.std.specs.Prelude.{Err, Ok}
use Rattle.laws.proofs.Says.{or-says}
use Rattle.laws.specs.Lists.{splice}
use Rattle.laws.proofs.Splices.{splice-nil}
use Rattle.sound.specs.Sound.{soundb}
use Rattle.sound.proofs.Says.{sound-says}
use Rattle.verdict.specs.declared.State.{State}
use Rattle.verdict.specs.Applied.{Verdict}
use Rattle.verdict.specs.declared.Effect.TheVariants.{Select, Create, Delete, SetLife, Read, Update}
use Rattle.apdu.specs.Apdu.{instruction, wants_template, is_read}
use Rattle.judge.specs.Judge.{judge_of}
use Rattle.effect.specs.Told.{told}
use Rattle.card.specs.declared.CardError.TheVariants.{Damaged}
use Rattle.card.specs.declared.CommandError.TheVariants.{Card, Short}
use Rattle.card.specs.Command.{answer_number, answer_told, pool_fits, PoolFits, fits, due_of, reply_of}
use Rattle.card.specs.Command.{response_of}
use Rattle.card.specs.Demands.{OthersTellNothing, LongEnough}
use Rattle.card.proofs.Telling.{judge_tells}
use Rattle.card.proofs.Ordered.{Ordered, judge_ordered}
use Rattle.card.proofs.Due.{pool-says, due_by, due_fit, due_fits, told-most}
use Rattle.card.proofs.Answered.{damaged-refused, damaged_tells, said, reply_is, response_is, told_is}

-- a command that doesn't ask is told nothing
silent : (img pool c : List ℕ) (v : Verdict) → Ordered img c v → (instruction c ≡ 0xA4 → get_or c 3 0 ≡ 0x04 → ⊥)
    → (instruction c ≡ 0xB0 → ⊥) → (instruction c ≡ 0xB2 → ⊥) → told img pool c v ≡ []
unfolding wants_template is_read
silent img pool c (Err w) o z a b = refl
silent img pool c (Ok (Select d e w)) o z a b = rw (ne_eqb (get_or c 3 0) 0x04 (z o))
silent img pool c (Ok (Create x)) o z a b = refl
silent img pool c (Ok (Delete x)) o z a b = refl
silent img pool c (Ok (SetLife x life)) o z a b = refl
silent img pool c (Ok (Read at n)) o z a b = absurd (⊎_elim (λ e. a (eqb-true _ _ e)) (λ e. b (eqb-true _ _ e)) ((or-says _ _).0 o.1))
silent img pool c (Ok (Update at)) o z a b = refl

-- .. so the last check passes, and the verdict stands as judged
module _ (img pool c : List ℕ) (st : State) (lent : ℕ) (z : instruction c ≡ 0xA4 → get_or c 3 0 ≡ 0x04 → ⊥)
    (a : instruction c ≡ 0xB0 → ⊥) (b : instruction c ≡ 0xB2 → ⊥) where
  none_told : told img pool c (judge_of img pool c st) ≡ []
  none_told = silent img pool c (judge_of img pool c st) (judge_ordered img pool c st) z a b

  fits_silent : fits img pool c st lent ≡ true
  unfolding fits
  fits_silent =
      let few : length (told img pool c (judge_of img pool c st)) ≤ lent = omega (arith, ap length none_told) in
      le-leb _ _ few

  pub due_silent : PoolFits img pool → due_of img pool c st lent ≡ judge_of img pool c st
  due_silent k = due_fit img pool c st lent k fits_silent

  due_none : told img pool c (due_of img pool c st lent) ≡ []
  due_none = due_by img pool c st lent (λ (v : Verdict). told img pool c v ≡ []) none_told refl

pub others_tell_nothing : OthersTellNothing
others_tell_nothing img pool c st response z a b = go (soundb img) refl
  where
    n : ℕ
    n = length response

    go : (s : Bool) → soundb img ≡ s
        → (response_of img pool c st response ≡ response) × (answer_told (reply_of img pool c st n) ≡ 0) × (reply_of img pool c st n ≡ Err Short → ⊥)
    go true q =
        let sound = (sound-says img).0 q in
        let said-is = reply_is img pool c st n sound ∙ ap (said img pool c st.sets (due_of img pool c st n) (pool_fits img pool))
        (fits_silent img pool c st n z a b) in (
          response_is img pool c st response sound ∙ ap (splice response 0) (due_none img pool c st n z a b) ∙ splice-nil response 0,
          told_is img pool c st n sound ∙ ap length (due_none img pool c st n z a b),
          (λ e. never (pool_fits img pool) (sym said-is ∙ e)),
        )
      where
        never : (w : Bool) → said img pool c st.sets (due_of img pool c st n) w true ≡ Err Short → ⊥
        never true e = omega (arith, ap answer_number e)
        never false e = omega (arith, ap answer_number e)
    go false q =
        let d = damaged-refused img pool c st response q in
        (d.2.answered, damaged_tells img pool c st n q, (λ e. absurd (omega (arith, ap answer_number e, d.0))))

pub long_enough : LongEnough
unfolding reply_of
long_enough img pool c st lent byte h e = go (soundb img) (pool_fits img pool) refl refl e
  where
    go : (s w : Bool) → soundb img ≡ s → pool_fits img pool ≡ w
        → cond s (said img pool c st.sets (due_of img pool c st lent) w (fits img pool c st lent)) (Err (Card Damaged)) ≡ Err Short → ⊥
    go true true q p r =
        let sound = (sound-says img).0 q in
        let k = (pool-says img pool).0 p in
        let few = told-most img pool c sound k byte (judge_of img pool c st) (judge_tells img pool c sound st) in
        let f = (due_fits img pool c st lent k (omega (arith, few))).0 in
        omega (arith, ap answer_number (sym (ap (said img pool c st.sets (due_of img pool c st lent) true) f) ∙ r))
    go true false q p r = omega (arith, ap answer_number r)
    go false w q p r = omega (arith, ap answer_number r)

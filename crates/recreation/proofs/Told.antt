-- What SELECT told is the template of the file that it found: `select_told`.
use mathlib.Core.Path.{◌≡◌, refl, sym, ap, ◌∙◌}
use mathlib.Core.Bool.{Bool, true, false, cond, false≢true}
use mathlib.Core.List.{List, []}
use mathlib.Core.Logic.{⊎_elim}
use Prim.Native.Nat.{ℕ, ◌≤◌}
use native.Mathlib.Omega.{arith}
use lib.Dec.{eqb}
use lib.ListN.{length, get_or, take}
use Rattle.std.specs.Prelude.{Err}
use Rattle.laws.specs.Lists.{part, splice}
use Rattle.laws.proofs.Splices.{part-splice}
use Rattle.rules.specs.Life.{life_of}
use Rattle.image.specs.Layout.{count_of, current_df_of, rec_at}
use Rattle.sound.specs.Sound.{Sound}
use Rattle.sound.proofs.Says.{sound-says}
use Rattle.kinship.specs.Climb.{Stands}
use Rattle.fcp.specs.Template.{template_of}
use Rattle.verdict.specs.declared.State.{State}
use Rattle.judge_target.specs.Target.{life_at}
use Rattle.judge_target.proofs.FromSound.{judgeable, selected_stands}
use Rattle.apdu.specs.Apdu.{sent_identifier}
use Rattle.access.specs.declared.Decision.{Decision}
use Rattle.access.specs.declared.Decision.TheVariants.{Granted}
use Rattle.rules.specs.declared.Sets.{Sets}
use Rattle.judge_security.specs.Security.{step_j}
use Rattle.card.specs.declared.CommandError.TheVariants.{Short}
use Rattle.card.specs.Command.{with_word}
use Rattle.card.specs.Command.{answer_number, answer_told, pool_fits, PoolFits, response_of}
use Rattle.card.specs.Conditions.{Met, select_asks, found}
use Rattle.card.specs.Obeyed.{refusal, Obeys, word_for, selecting, telling}
use Rattle.card.proofs.Obeyed.{select_obeys}
use Rattle.card.proofs.Telling.{found_at}
use Rattle.card.proofs.Due.{pool-says}
use Rattle.card.proofs.Answered.{wrong-pool-refused, response_stays}
use Rattle.recreation.specs.Recreation.{Told, told_by, SelectTold}

-- a refusal tells nothing
refusal_silent : (img pool c : List ℕ) (x : Sets) (w : ℕ) → answer_told (refusal img pool c x w) ≡ 0
refusal_silent img pool c x w = go (eqb w 0x0000) (cond (eqb w 0x6982) (step_j img pool c x) Granted)
  where
    go : (b : Bool) (d : Decision) → answer_told (cond b (Err Short) (with_word w 0 d)) ≡ 0
    go true d = refl
    go false d = refl

-- what stands at the start of a response
take-splice : (l v : List ℕ) → length v ≤ length l → take (length v) (splice l 0 v) ≡ v
take-splice l v h = unfold part in part-splice l 0 v (omega arith)

-- some bytes were told: P2 asked for the template
some-template : (c t : List ℕ) → 1 ≤ length (cond (eqb (get_or c 3 0) 0x04) t []) → cond (eqb (get_or c 3 0) 0x04) t [] ≡ t
some-template c t h = go (eqb (get_or c 3 0) 0x04) h
  where
    go : (b : Bool) → 1 ≤ length (cond b t []) → cond b t [] ≡ t
    go true k = refl
    go false k = absurd (omega arith)

module _ (img pool c : List ℕ) (st : State) (response : List ℕ) (n : ℕ) (sound : Sound img) (t : Told img pool c st response n) where
  -- a word was given, so the pool was the card's
  fit : PoolFits img pool
  fit = (pool-says img pool).0 (go (pool_fits img pool) refl)
    where
      go : (b : Bool) → pool_fits img pool ≡ b → b ≡ true
      go true q = refl
      go false q =
          let z : PoolFits img pool → ⊥ = λ k. false≢true (sym q ∙ (pool-says img pool).1 k) in
          absurd (omega (arith, ap answer_number t.reply, ((wrong-pool-refused img pool c st response ((sound-says img).1 sound)).0 z).0))

  obeyed : Obeys img pool c st response (select_asks img c (length response)) (word_for (life_of (life_at img (found img c))))
      (selecting img (found img c)) pool (telling img c (found img c))
  obeyed = select_obeys img pool c st response sound fit t.select

  -- bytes were told, so all asks are met
  asks-met : Met (select_asks img c (length response))
  asks-met = ⊎_elim (λ m. m)
      (λ f. absurd (omega (arith, t.some, ap answer_told (sym t.reply ∙ (obeyed.refused f.0 f.1).0), refusal_silent img pool c st.sets f.0)))
      obeyed.always

  -- .. and the file was found
  pub found_stands : Stands img (count_of img) (found img c)
  found_stands =
      selected_stands img (count_of img) (current_df_of img) (sent_identifier c) (found img c) (judgeable img sound)
      (found_at _ asks-met.1.1.1.1.1.1.0)

  told_is : told_by img pool c st response n ≡ template_of (rec_at img (found img c))
  told_is =
      let k = obeyed.met asks-met in
      let long : n ≡ length (telling img c (found img c)) = ap answer_told (sym t.reply ∙ k.0) in
      let within = (response_stays img pool c st response).within in
      ap (λ (i : ℕ). take i (response_of img pool c st response)) long ∙ ap (take (length (telling img c (found img c)))) k.3
      ∙ take-splice response (telling img c (found img c)) (omega (arith, long, within, ap answer_told t.reply))
      ∙ some-template c (template_of (rec_at img (found img c))) (omega (arith, long, t.some))

pub select_told : SelectTold
select_told img pool c st response n sound t = told_is img pool c st response n sound t

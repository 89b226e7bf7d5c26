-- Demand 1, proved: each statement of specs/Demands under its own name; and what a call gives of a sound image, by the verdict that
-- stands.
use mathlib.Core.Path.{◌≡◌, refl, sym, ap, ◌∙◌}
use mathlib.Core.Bool.{Bool, true, false, cond}
use mathlib.Core.List.{List, []}
use mathlib.Core.Logic.{◌⊎◌, inl, inr, ⊎_elim}
use Prim.Native.Nat.{ℕ, ◌≤◌}
use native.Mathlib.Omega.{arith}
use lib.Dec.{leb}
use lib.ListN.{length}
use borrow.Author.Tests.{eqb-true, leb-true}
use Rattle.std.specs.Prelude.{Err, Ok}
use Rattle.laws.proofs.Says.{untrue}
use Rattle.image.specs.Layout.{has_bodies, version_of}
use Rattle.laws.specs.Lists.{splice}
use Rattle.laws.proofs.Settling.{settled, both_are}
use Rattle.laws.proofs.Splices.{splice-nil, length-splice, get_or-splice_above}
use Rattle.sound.specs.Sound.{Sound, soundb}
use Rattle.sound.proofs.Says.{sound-says}
use Rattle.verdict.specs.declared.State.{State}
use Rattle.verdict.specs.declared.Effect.TheVariants.{Select, Create, Delete, SetLife, Read, Update}
use Rattle.verdict.specs.Applied.{Verdict, word_of, applied_of, pooled_of}
use Rattle.apdu.specs.Apdu.{instruction}
use Rattle.rules.specs.declared.Sets.{Sets}
use Rattle.access.specs.Decision.{decision_number}
use Rattle.judge_security.specs.Security.{denial_of}
use Rattle.judge.specs.Judge.{judge_of}
use Rattle.effect.specs.Told.{told}
use Rattle.card.specs.declared.CardError.TheVariants.{WrongPool}
use Rattle.card.specs.declared.CommandError.TheVariants.{Card, Short}
use Rattle.card.specs.Command.{Reply, with_word}
use Rattle.card.specs.Command.{answer_number, answer_word, answer_told, answer_security, pool_fits, fits, due_of, reply_of, image_of, pool_of}
use Rattle.card.specs.Command.{response_of, CommandPromises}
use Rattle.card.specs.Obeyed.{is_one_of}
use Rattle.card.specs.Demands.{AllStays, WrongPoolRefused, OlderFit}
use Rattle.card.specs.Demands.{DamagedRefused, SoundAnswered, Succeeds, OtherWordsLeave, words_of_table, OnlyTheseWords, WarnsInSelect}
use Rattle.card.specs.Demands.{PastStays, ResponseStays, StaysSound, LengthStays, OneResult}
use Rattle.card.proofs.Steps.{cond_by}
use Rattle.card.proofs.Tells.{sound_applied}
use Rattle.card.proofs.Speaks.{Spoken}
use Rattle.card.proofs.Words.{judge_worded, judge_warns}
use Rattle.card.proofs.After.{front_after}
use Rattle.card.proofs.Due.{pool-says, due_by, due_tells, due_speaks, due_fit, due_unfit, due_wrong, due_fits, due_short}

pub damaged-refused : DamagedRefused
unfolding reply_of image_of pool_of response_of
damaged-refused img pool c st response e = rw e (refl, refl, record { image = rw e; bodies = rw e; answered = rw e })

-- on a sound image, a pool of a wrong length
wrong-refused : (img pool c : List ℕ) (st : State) (response : List ℕ) → soundb img ≡ true → pool_fits img pool ≡ false
    → (reply_of img pool c st (length response) ≡ Err (Card WrongPool)) × AllStays img pool c st response
unfolding reply_of image_of pool_of response_of
wrong-refused img pool c st response e q =
    let d = due_wrong img pool c st (length response) q in (
      rw (e, q),
      record {
        image = rw (e, d);
        bodies = rw (e, d);
        answered = rw (e, d) (splice-nil response 0);
      },
    )

pub wrong-pool-refused : WrongPoolRefused
unfolding reply_of
wrong-pool-refused img pool c st response e = (
  (λ z. let w = wrong-refused img pool c st response e (untrue _ (λ t. z ((pool-says img pool).0 t))) in
      (ap answer_number w.0, ap answer_word w.0, w.1)),
  (λ k h. go (fits img pool c st (length response)) (rw (e, (pool-says img pool).1 k) at h)),
)
  where
    go : (b : Bool) → answer_number (cond b (with_word (word_of (due_of img pool c st (length response))) (length (told img pool c (due_of img pool c st (length response))))
        (denial_of img pool c st.sets (due_of img pool c st (length response)))) (Err Short)) ≡ 6 → ⊥
    go true h = omega arith
    go false h = omega arith

pub older_fit : OlderFit
unfolding has_bodies
older_fit img pool h e = absurd (⊎_elim (λ v. omega (arith, v, eqb-true (version_of img) 3 e)) (λ v. omega (arith, v, eqb-true (version_of img) 3 e)) h)

pub sound-answered : SoundAnswered
unfolding reply_of
sound-answered img pool c st lent e k = (
  (λ h. rw (e, (pool-says img pool).1 k, (due_fits img pool c st lent k h).0)),
  (λ h. rw (e, (pool-says img pool).1 k, (due_short img pool c st lent h).0) (refl, refl)),
)

-- .. and of a damaged image, for any length of response
pub damaged-left : (img pool c : List ℕ) (st : State) (lent : ℕ) → soundb img ≡ false → image_of img pool c st lent ≡ img
unfolding image_of
damaged-left img pool c st lent e = rw e

pub damaged-kept : (img pool c : List ℕ) (st : State) (lent : ℕ) → soundb img ≡ false → pool_of img pool c st lent ≡ pool
unfolding pool_of
damaged-kept img pool c st lent e = rw e

pub damaged-word : (img pool c : List ℕ) (st : State) (lent : ℕ) → soundb img ≡ false → answer_word (reply_of img pool c st lent) ≡ 0x0000
unfolding reply_of
damaged-word img pool c st lent e = rw e

pub damaged_tells : (img pool c : List ℕ) (st : State) (lent : ℕ) → soundb img ≡ false → answer_told (reply_of img pool c st lent) ≡ 0
unfolding reply_of
damaged_tells img pool c st lent e = rw e

-- what the verdict that stands answers, by the two checks
abbrev pub said : List ℕ → List ℕ → List ℕ → Sets → Verdict → Bool → Bool → Reply
said img pool c x due whole fit =
    cond whole (cond fit (with_word (word_of due) (length (told img pool c due)) (denial_of img pool c x due)) (Err Short)) (Err (Card WrongPool))

-- on a sound image
module _ (img pool c : List ℕ) (st : State) (lent : ℕ) (sound : Sound img) where
  pub image_is : image_of img pool c st lent ≡ applied_of img c (due_of img pool c st lent)
  unfolding image_of
  image_is = rw ((sound-says img).1 sound)

  pub pool_is : pool_of img pool c st lent ≡ pooled_of img pool c (due_of img pool c st lent)
  unfolding pool_of
  pool_is = rw ((sound-says img).1 sound)

  pub reply_is : reply_of img pool c st lent
      ≡ said img pool c st.sets (due_of img pool c st lent) (pool_fits img pool) (fits img pool c st lent)
  unfolding reply_of
  reply_is = rw ((sound-says img).1 sound)

  pub word_is : answer_word (reply_of img pool c st lent) ≡ word_of (due_of img pool c st lent)
  word_is = ap answer_word reply_is ∙ go (pool_fits img pool) (fits img pool c st lent) refl refl
    where
      go : (a b : Bool) → pool_fits img pool ≡ a → fits img pool c st lent ≡ b
          → answer_word (said img pool c st.sets (due_of img pool c st lent) a b) ≡ word_of (due_of img pool c st lent)
      go true true p q = refl
      go true false p q = sym (ap word_of (due_unfit img pool c st lent q))
      go false b p q = sym (ap word_of (due_wrong img pool c st lent p))

  pub told_is : answer_told (reply_of img pool c st lent) ≡ length (told img pool c (due_of img pool c st lent))
  told_is = ap answer_told reply_is ∙ go (pool_fits img pool) (fits img pool c st lent) refl refl
    where
      go : (a b : Bool) → pool_fits img pool ≡ a → fits img pool c st lent ≡ b
          → answer_told (said img pool c st.sets (due_of img pool c st lent) a b) ≡ length (told img pool c (due_of img pool c st lent))
      go true true p q = refl
      go true false p q = sym (ap (λ (v : Verdict). length (told img pool c v)) (due_unfit img pool c st lent q))
      go false b p q = sym (ap (λ (v : Verdict). length (told img pool c v)) (due_wrong img pool c st lent p))

  pub security_is : answer_security (reply_of img pool c st lent) ≡ decision_number (denial_of img pool c st.sets (due_of img pool c st lent))
  unfolding denial_of
  security_is = ap answer_security reply_is ∙ go (pool_fits img pool) (fits img pool c st lent) refl refl
    where
      go : (a b : Bool) → pool_fits img pool ≡ a → fits img pool c st lent ≡ b
          → answer_security (said img pool c st.sets (due_of img pool c st lent) a b)
          ≡ decision_number (denial_of img pool c st.sets (due_of img pool c st lent))
      go true true p q = refl
      go true false p q = sym (ap (λ (v : Verdict). decision_number (denial_of img pool c st.sets v)) (due_unfit img pool c st lent q))
      go false b p q = sym (ap (λ (v : Verdict). decision_number (denial_of img pool c st.sets v)) (due_wrong img pool c st lent p))

pub response_is : (img pool c : List ℕ) (st : State) (response : List ℕ) → Sound img
    → response_of img pool c st response ≡ splice response 0 (told img pool c (due_of img pool c st (length response)))
unfolding response_of
response_is img pool c st response sound = rw ((sound-says img).1 sound)

-- a verdict whose word is no success leaves the image, and tells nothing
leaves : (img pool c : List ℕ) (v : Verdict) → Spoken v → (Succeeds (word_of v) → ⊥)
    → (applied_of img c v ≡ img) × (pooled_of img pool c v ≡ pool) × (told img pool c v ≡ [])
leaves img pool c (Err w) s z = (refl, refl, refl)
leaves img pool c (Ok (Select d e w)) s z = absurd (z s)
leaves img pool c (Ok (Create x)) s z = absurd (z (inl refl))
leaves img pool c (Ok (Delete x)) s z = absurd (z (inl refl))
leaves img pool c (Ok (SetLife x life)) s z = absurd (z (inl refl))
leaves img pool c (Ok (Read at n)) s z = absurd (z (inl refl))
leaves img pool c (Ok (Update at)) s z = absurd (z (inl refl))

pub other_words_leave : OtherWordsLeave
other_words_leave img pool c st response z = go (soundb img) refl
  where
    go : (b : Bool) → soundb img ≡ b
        → AllStays img pool c st response × (answer_told (reply_of img pool c st (length response)) ≡ 0)
    go true q =
        let sound = (sound-says img).0 q in
        let k = leaves img pool c (due_of img pool c st (length response)) (due_speaks img pool c st (length response))
        (λ s. z (rw (word_is img pool c st (length response) sound) s))
        in (
          record {
            image = image_is img pool c st (length response) sound ∙ k.0;
            bodies = pool_is img pool c st (length response) sound ∙ k.1;
            answered = response_is img pool c st response sound ∙ ap (splice response 0) k.2 ∙ splice-nil response 0;
          },
          told_is img pool c st (length response) sound ∙ ap length k.2,
        )
    go false q = ((damaged-refused img pool c st response q).2, damaged_tells img pool c st (length response) q)

pub stays_sound : StaysSound
stays_sound img pool c st lent sound =
    rw (image_is img pool c st lent sound) (sound_applied img c (due_of img pool c st lent) sound (due_tells img pool c st lent sound))

pub length_stays : LengthStays
unfolding image_of
length_stays img pool c st lent = go (soundb img) refl
  where
    go : (b : Bool) → soundb img ≡ b → length (cond b (applied_of img c (due_of img pool c st lent)) img) ≡ length img
    go true q = let sound = (sound-says img).0 q in (front_after img c sound (due_of img pool c st lent) (due_tells img pool c st lent sound)).long
    go false q = refl

-- the words, and which of them warn
pub only-these_words : OnlyTheseWords
only-these_words img pool c st lent e = go (pool_fits img pool) (fits img pool c st lent) refl refl
  where
    sound : Sound img
    sound = (sound-says img).0 e

    go : (a b : Bool) → pool_fits img pool ≡ a → fits img pool c st lent ≡ b
        → ((answer_number (reply_of img pool c st lent) ≡ 0) × (is_one_of (answer_word (reply_of img pool c st lent)) words_of_table ≡ true))
        ⊎ ((reply_of img pool c st lent ≡ Err Short) ⊎ (reply_of img pool c st lent ≡ Err (Card WrongPool)))
    go true true p q = inl (
      ap answer_number (reply_is img pool c st lent sound) ∙ rw (p, q),
      rw (word_is img pool c st lent sound, due_fit img pool c st lent ((pool-says img pool).0 p) q) (judge_worded img pool c st),
    )
    go true false p q = inr (inl (reply_is img pool c st lent sound ∙ rw (p, q)))
    go false b p q = inr (inr (reply_is img pool c st lent sound ∙ rw p))

-- a word that warns is SELECT's; 0000 warns of nothing
abbrev Warns : List ℕ → ℕ → Type 0
Warns c w = (w ≡ 0x6283) ⊎ (w ≡ 0x6285) → instruction c ≡ 0xA4

no_warning : (c : List ℕ) → Warns c 0x0000
no_warning c h = ⊎_elim (λ q. absurd (omega arith)) (λ q. absurd (omega arith)) h

pub warns_in_select : WarnsInSelect
warns_in_select img pool c st lent = go (soundb img) refl
  where
    go : (b : Bool) → soundb img ≡ b → Warns c (answer_word (reply_of img pool c st lent))
    go true q = rw (word_is img pool c st lent ((sound-says img).0 q))
        (due_by img pool c st lent (λ (v : Verdict). Warns c (word_of v)) (judge_warns img pool c st) (no_warning c))
    go false q = rw (damaged-word img pool c st lent q) (no_warning c)

-- what is told fits
told-fits : (img pool c : List ℕ) (st : State) (lent : ℕ) → length (told img pool c (due_of img pool c st lent)) ≤ lent
unfolding due_of fits
told-fits img pool c st lent =
    cond_by (λ (v : Verdict). length (told img pool c v) ≤ lent) (pool_fits img pool) _ _
    (λ p. cond_by (λ (v : Verdict). length (told img pool c v) ≤ lent) (leb (length (told img pool c (judge_of img pool c st))) lent) _ _
    (λ q. leb-true _ _ q) (λ q. omega arith)) (λ p. omega arith)

pub response_stays : ResponseStays
response_stays img pool c st response = go (soundb img) refl
  where
    go : (b : Bool) → soundb img ≡ b → PastStays response (response_of img pool c st response) (answer_told (reply_of img pool c st (length response)))
    go true q =
        let sound = (sound-says img).0 q in
        let t = told img pool c (due_of img pool c st (length response)) in
        let f = told-fits img pool c st (length response) in
        rw (response_is img pool c st response sound, told_is img pool c st (length response) sound) (record {
          long = length-splice response 0 t (omega (arith, f));
          within = f;
          past = λ k h. get_or-splice_above response 0 t (omega (arith, f)) k (omega arith);
        })
    go false q =
        let d = damaged-refused img pool c st response q in
        rw (d.2.answered, damaged_tells img pool c st (length response) q) (record { long = refl; within = omega arith; past = λ k h. refl })

pub one-result : OneResult
one-result img pool c st response =
    settled (λ p. CommandPromises img pool c st response p.0 p.1.0 p.1.1.0 p.1.1.1) (
      reply_of img pool c st (length response),
      (image_of img pool c st (length response), (pool_of img pool c st (length response), response_of img pool c st response)),
    )
    (λ p k. both_are _ _ p k.reply (both_are _ _ p.1 k.image (both_are _ _ p.1.1 k.pool_is k.response_is)))

-- Demand 2, proved: each statement of specs/Demands under its own name.
use mathlib.Core.Path.{◌≡◌, refl, sym, ap, ◌∙◌}
use mathlib.Core.Bool.{Bool, true, false, cond, false≢true}
use mathlib.Core.List.{List, [], ◌∷◌, ◌++◌}
use mathlib.Core.Logic.{◌⊎◌, inl, inr, ⊎_elim}
use Prim.Native.Nat.{ℕ}
use native.Mathlib.Omega.{arith}
use lib.Dec.{eqb, leb, ltb}
use lib.ListN.{length}
use borrow.Author.Tests.{eqb-true, ne_eqb, le-leb, ltb-true}
use Rattle.std.specs.Prelude.{Option, Some, None, Err, Ok}
use Rattle.laws.specs.Lists.{splice}
use Rattle.laws.proofs.Says.{and-says}
use Rattle.laws.proofs.Splices.{splice-nil}
use Rattle.laws.proofs.Firsts.{first_is}
use Rattle.rules.specs.declared.Sets.{Sets}
use Rattle.rules.specs.Life.{is_terminated}
use Rattle.image.specs.declared.Head.{Head}
use Rattle.image.specs.Layout.{version_of, rec_at, free_bytes, kind_of, life_cycle_of, count_of, current_df_of}
use Rattle.image.proofs.Places.{length_record}
use Rattle.image.proofs.Starts.{byte_kept}
use Rattle.pool.specs.Bodies.{body_of, body_at}
use Rattle.image.proofs.Headers.{same_version, same_count}
use Rattle.sound.specs.Sound.{Sound}
use Rattle.sound.specs.Table.{view_at}
use Rattle.sound.specs.Kinship.{terminated_at, at_or_beneath, free_slot}
use Rattle.sound.specs.Effects.{new_body, new_gap, kept_record, other_record, Creates}
use Rattle.sound.proofs.Front.{sound-within}
use Rattle.verdict.specs.declared.State.{State}
use Rattle.verdict.specs.declared.Effect.TheVariants.{Select, Create, Delete, SetLife, Read, Update}
use Rattle.verdict.specs.Applied.{Verdict, word_of, applied_of, pooled_of}
use Rattle.judge_target.specs.Steps.{Step, judged, all_hold, followed}
use Rattle.access.specs.declared.Decision.TheVariants.{Granted}
use Rattle.judge.specs.Shared.{shared_steps}
use Rattle.judge.specs.Judge.{plan_for, judge_for, judge_of}
use Rattle.judge_security.specs.Security.{denial_of}
use Rattle.effect.specs.Told.{told}
use Rattle.card.specs.declared.CommandError.TheVariants.{Short}
use Rattle.card.specs.Command.{with_word}
use Rattle.card.specs.Command.{answer_word, PoolFits, fits, due_of, reply_of}
use Rattle.card.specs.Steps.{steps_of, last_step, all_steps, effect_of, first_failing}
use Rattle.card.specs.Obeyed.{refusal, is_one_of}
use Rattle.card.specs.After.{record_after}
use Rattle.card.specs.Demands.{Succeeds, words_of_table, RepliesInOrder, SucceedsExactly, EffectAndNoOther, Deleting, image_after}
use Rattle.card.specs.Demands.{SameButStart, Call, TerminatedStays, TerminatedForGood}
use Rattle.card.proofs.Steps.{cond_by, judged-append, judged-all, judged-first}
use Rattle.card.proofs.Tells.{Tells}
use Rattle.card.proofs.Speaks.{Acts, plan-acts, succeeds}
use Rattle.card.proofs.After.{records-after, front_after, current-after, df-after, ef-after}
use Rattle.card.proofs.Words.{judge_worded}
use Rattle.card.proofs.Ordered.{Erases, Ordered}
use Rattle.card.proofs.Due.{pool-says, due_tells, due_speaks, due_ordered, due_fit, due_unfit}
use Rattle.card.proofs.Answered.{image_is, pool_is, reply_is, word_is, response_is, stays_sound}

-- the verdict: the effect where all steps hold, else a refusal with the word of the first that fails
pub judged_in_order : (img pool c : List ℕ) (st : State)
    → (all_hold (steps_of img pool c st) ≡ true → judge_of img pool c st ≡ effect_of img pool c st)
    × (all_hold (steps_of img pool c st) ≡ false → judge_of img pool c st ≡ Err (first_failing (steps_of img pool c st)))
unfolding judge_of judge_for followed
judged_in_order img pool c st =
    let e = judged-append (shared_steps img c st) (plan_for img pool (count_of img) (current_df_of img) c st).steps (effect_of img pool c st) in
    (λ h. sym e ∙ judged-all (steps_of img pool c st) (effect_of img pool c st) h, λ h. sym e ∙ judged-first (steps_of img pool c st) (effect_of img pool c st) h)

-- a list of steps holds as a whole or not
all-or-not : (b : Bool) → (b ≡ true) ⊎ (b ≡ false)
all-or-not true = inl refl
all-or-not false = inr refl

-- two lists hold where both do
both_hold : (xs ys : List Step) → all_hold (xs ++ ys) ≡ true → (all_hold xs ≡ true) × (all_hold ys ≡ true)
both_hold [] ys h = (refl, h)
both_hold (s ∷ xs) ys h =
    let p = (and-says s.holds (all_hold (xs ++ ys))).0 h in
    let q = both_hold xs ys p.1 in
    ((and-says s.holds (all_hold xs)).1 (p.0, q.0), q.1)

-- the verdict that stands is judged by all steps, the last check among them
due_judged : (img pool c : List ℕ) (st : State) (lent : ℕ) → PoolFits img pool
    → due_of img pool c st lent ≡ judged (all_steps img pool c st lent) (effect_of img pool c st)
unfolding due_of fits
due_judged img pool c st lent k = rw ((pool-says img pool).1 k) (⊎_elim hold fail (all-or-not (all_hold (steps_of img pool c st))))
  where
    last : List Step
    last = last_step img pool c st lent ∷ []

    apart : judged (all_steps img pool c st lent) (effect_of img pool c st) ≡ judged (steps_of img pool c st) (judged last (effect_of img pool c st))
    apart = judged-append (steps_of img pool c st) last (effect_of img pool c st)

    stands : Verdict → Verdict
    stands v = cond (leb (length (told img pool c v)) lent) v (Err 0x0000)

    hold : all_hold (steps_of img pool c st) ≡ true → stands (judge_of img pool c st) ≡ judged (all_steps img pool c st lent) (effect_of img pool c st)
    hold h = ap stands ((judged_in_order img pool c st).0 h) ∙ sym (judged-all (steps_of img pool c st) (judged last (effect_of img pool c st)) h) ∙ sym apart

    fail : all_hold (steps_of img pool c st) ≡ false → stands (judge_of img pool c st) ≡ judged (all_steps img pool c st lent) (effect_of img pool c st)
    fail h =
        ap stands ((judged_in_order img pool c st).1 h) ∙ rw (le-leb 0 lent (omega arith)) refl
        ∙ sym (judged-first (steps_of img pool c st) (judged last (effect_of img pool c st)) h) ∙ sym apart

module _ (img pool c : List ℕ) (st : State) (lent : ℕ) where
  pub due_in_order : PoolFits img pool → (all_hold (all_steps img pool c st lent) ≡ true → due_of img pool c st lent ≡ effect_of img pool c st)
      × (all_hold (all_steps img pool c st lent) ≡ false → due_of img pool c st lent ≡ Err (first_failing (all_steps img pool c st lent)))
  due_in_order k =
      let e = due_judged img pool c st lent k in
      let steps = all_steps img pool c st lent in
      ((λ h. e ∙ judged-all steps (effect_of img pool c st) h), (λ h. e ∙ judged-first steps (effect_of img pool c st) h))

  -- where all hold, the last check does
  all_fit : all_hold (all_steps img pool c st lent) ≡ true → fits img pool c st lent ≡ true
  unfolding fits
  all_fit h =
      let p = both_hold (steps_of img pool c st) (last_step img pool c st lent ∷ []) h in
      rw ((judged_in_order img pool c st).0 p.0) ((and-says _ _).0 p.1).0

  -- a refusal with its word, or answer 5
  refused_as : Sound img → PoolFits img pool → (w : ℕ) → due_of img pool c st lent ≡ Err w
      → reply_of img pool c st lent ≡ refusal img pool c st.sets w
  unfolding denial_of
  refused_as sound k w e = reply_is img pool c st lent sound ∙ rw ((pool-says img pool).1 k) (go (fits img pool c st lent) refl)
    where
      worded : (n : ℕ) → is_one_of n words_of_table ≡ true → eqb n 0x0000 ≡ false
      worded n h = ne_eqb n 0x0000 (λ z. false≢true (rw z at h))

      go : (b : Bool) → fits img pool c st lent ≡ b
          → cond b (with_word (word_of (due_of img pool c st lent)) (length (told img pool c (due_of img pool c st lent)))
          (denial_of img pool c st.sets (due_of img pool c st lent))) (Err Short) ≡ refusal img pool c st.sets w
      go true q =
          let n = worded w (rw (sym (due_fit img pool c st lent k q) ∙ e) at (judge_worded img pool c st)) in
          rw (e, n) refl
      go false q = let z : w ≡ 0x0000 = ap word_of (sym e ∙ due_unfit img pool c st lent q) in rw z refl

own_hold : (img pool c : List ℕ) (st : State) (lent : ℕ) → all_hold (all_steps img pool c st lent) ≡ true
    → all_hold (plan_for img pool (count_of img) (current_df_of img) c st).steps ≡ true
own_hold img pool c st lent h =
    (both_hold (shared_steps img c st) (plan_for img pool (count_of img) (current_df_of img) c st).steps
    (both_hold (steps_of img pool c st) (last_step img pool c st lent ∷ []) h).0).1

-- an effect that acts was not denied
acts-granted : (img pool c : List ℕ) (x : Sets) (v : Verdict) → Acts v → denial_of img pool c x v ≡ Granted
unfolding denial_of
acts-granted img pool c x (Err w) a = absurd a
acts-granted img pool c x (Ok (Select d e w)) a = refl
acts-granted img pool c x (Ok (Create y)) a = refl
acts-granted img pool c x (Ok (Delete s)) a = refl
acts-granted img pool c x (Ok (SetLife s life)) a = refl
acts-granted img pool c x (Ok (Read at n)) a = refl
acts-granted img pool c x (Ok (Update at)) a = refl

pub replies_in_order : RepliesInOrder
replies_in_order img pool c st response sound k = (
  (λ h. let e = (due_in_order img pool c st (length response) k).0 h in (
    reply_is img pool c st (length response) sound ∙ rw ((pool-says img pool).1 k, all_fit img pool c st (length response) h, e)
        (ap (with_word (word_of (effect_of img pool c st)) (length (told img pool c (effect_of img pool c st))))
        (acts-granted img pool c st.sets (effect_of img pool c st) (plan-acts img pool (count_of img) (current_df_of img) c st (own_hold img pool c st (length response) h)))),
    image_is img pool c st (length response) sound ∙ ap (applied_of img c) e,
    pool_is img pool c st (length response) sound ∙ ap (pooled_of img pool c) e,
    response_is img pool c st response sound ∙ ap (λ (v : Verdict). splice response 0 (told img pool c v)) e,
  )),
  (λ h. let e = (due_in_order img pool c st (length response) k).1 h in (
    refused_as img pool c st (length response) sound k _ e,
    record {
      image = image_is img pool c st (length response) sound ∙ ap (applied_of img c) e;
      bodies = pool_is img pool c st (length response) sound ∙ ap (pooled_of img pool c) e;
      answered = response_is img pool c st response sound ∙ ap (λ (v : Verdict). splice response 0 (told img pool c v)) e
          ∙ splice-nil response 0;
    },
  )),
)

-- the slot that CREATE takes is free
new_free : (img : List ℕ) (s : ℕ) (h : Head) (name rule : List ℕ) → Creates img s h name rule → kind_of (rec_at img s) ≡ 0
unfolding free_slot
new_free img s h name rule k = eqb-true _ _ (first_is (count_of img) (λ t. eqb (view_at img t).kind 0) s k.slot).here

pub succeeds_exactly : SucceedsExactly
succeeds_exactly img pool c st lent sound fit = (all_hold_lem, succeeded)
  where
    word : answer_word (reply_of img pool c st lent) ≡ word_of (due_of img pool c st lent)
    word = word_is img pool c st lent sound

    all_hold_lem : all_hold (all_steps img pool c st lent) ≡ true → Succeeds (answer_word (reply_of img pool c st lent))
    all_hold_lem h =
        let e = (due_in_order img pool c st lent fit).0 h in
        rw (word, e)
        (succeeds (effect_of img pool c st) (plan-acts img pool (count_of img) (current_df_of img) c st (own_hold img pool c st lent h))
        (rw e at (due_speaks img pool c st lent)))

    succeeded : Succeeds (answer_word (reply_of img pool c st lent)) → all_hold (all_steps img pool c st lent) ≡ true
    succeeded s = ⊎_elim (λ h. h)
        (λ h. let e = (due_in_order img pool c st lent fit).1 h in absurd ((rw e at (due_speaks img pool c st lent)) (rw (word, e) at s)))
        (all-or-not (all_hold (all_steps img pool c st lent)))

pub effect-and-no-other : EffectAndNoOther
effect-and-no-other img pool c st lent sound =
    let v = due_of img pool c st lent in
    let k = due_tells img pool c st lent sound in
    let f = front_after img c sound v k in
    rw (image_is img pool c st lent sound) (record {
      long = f.long;
      start = f.start;
      current = current-after img c sound v k;
      tail = f.tail;
      records = records-after img c sound v k;
      count = same_count img _ f;
      df = df-after img c sound v k;
      ef = ef-after img c sound v k;
    })

-- records that are the same but for the start of a body
same_start : (v : ℕ) (r : List ℕ) → SameButStart v r r
same_start v r = record { bytes = λ k l. refl; rest = λ z. refl }

start_trans : (v : ℕ) (a b c : List ℕ) → SameButStart v a b → SameButStart v b c → SameButStart v a c
start_trans v a b c p q = record {
  bytes = λ k l. q.bytes k l ∙ p.bytes k l;
  rest = λ z. q.rest (rw (p.rest z) z) ∙ p.rest z;
}

pub other-start : (img : List ℕ) (h : Head) (t : ℕ) → length (rec_at img t) ≡ 64 → SameButStart (version_of img) (rec_at img t) (other_record img h t)
unfolding other_record
other-start img h t whole = cond_by (SameButStart (version_of img) (rec_at img t)) (eqb (new_body (version_of img) h) 0) _ _
    (λ q. same_start _ _) (λ q. go (new_gap img h))
  where
    go : (g : Option ℕ) → SameButStart (version_of img) (rec_at img t) (kept_record g img t)
    go (Some p) = unfold kept_record in same_start _ _
    go None = unfold kept_record in cond_by (SameButStart (version_of img) (rec_at img t)) (ltb 0 (body_at img t)) _ _
        (λ q. record {
          bytes = λ k l. byte_kept (rec_at img t) _ whole k l;
          rest = λ z. absurd (z (unfold body_at in ltb-true 0 (body_of (version_of img) (rec_at img t)) q));
        })
        (λ q. same_start _ _)

-- a terminated file under one verdict
module _ (img c : List ℕ) (s : ℕ) (whole : length (rec_at img s) ≡ 64) (used : kind_of (rec_at img s) ≡ 0 → ⊥)
    (dead : terminated_at img s ≡ true) where
  Stays : Verdict → List ℕ → Type 0
  Stays v r = (Erases img s v × (r ≡ free_bytes)) ⊎ SameButStart (version_of img) (rec_at img s) r

  verdict_stays : (v : Verdict) → Tells img c v → Ordered img c v → Stays v (record_after img c v s)
  unfolding Stays
  verdict_stays (Err w) k o = inr (same_start _ _)
  verdict_stays (Ok (Select d e w)) k o = inr (same_start _ _)
  verdict_stays (Ok (Create x)) k o =
      inr (rw (ne_eqb s x.slot (λ e. used (ap (λ (i : ℕ). kind_of (rec_at img i)) e ∙ new_free img x.slot x.head _ _ k.1)))
      (other-start img x.head s whole))
  verdict_stays (Ok (Delete x)) k o = go (at_or_beneath (view_at img) x s) refl
    where
      go : (b : Bool) → at_or_beneath (view_at img) x s ≡ b
          → ((at_or_beneath (view_at img) x s ≡ true) × (cond b free_bytes (rec_at img s) ≡ free_bytes))
          ⊎ SameButStart (version_of img) (rec_at img s) (cond b free_bytes (rec_at img s))
      go true e = inl (e, refl)
      go false e = inr (same_start _ _)
  verdict_stays (Ok (SetLife x life)) k o = inr (rw (ne_eqb s x (λ e. o.2 (rw e at dead))) (same_start _ _))
  verdict_stays (Ok (Read at n)) k o = inr (same_start _ _)
  verdict_stays (Ok (Update at)) k o = inr (same_start _ _)

-- only a DELETE that was carried out erases
deleting : (img pool c : List ℕ) (st : State) (lent s : ℕ) → Sound img → (v : Verdict) → due_of img pool c st lent ≡ v → Erases img s v
    → Ordered img c v → Deleting img pool c st lent s
deleting img pool c st lent s sound (Err w) e k n = absurd k
deleting img pool c st lent s sound (Ok (Select d f w)) e k n = absurd k
deleting img pool c st lent s sound (Ok (Create x)) e k n = absurd k
deleting img pool c st lent s sound (Ok (Delete x)) e k n =
    record { delete = n.0; answered = word_is img pool c st lent sound ∙ ap word_of e; top = x; child = n.1; over = k }
deleting img pool c st lent s sound (Ok (SetLife x life)) e k n = absurd k
deleting img pool c st lent s sound (Ok (Read at m)) e k n = absurd k
deleting img pool c st lent s sound (Ok (Update at)) e k n = absurd k

pub terminated_stays : TerminatedStays
unfolding Stays
terminated_stays img pool c st lent s sound low used dead =
    let e = (effect-and-no-other img pool c st lent sound).records s low in
    let o = due_ordered img pool c st lent in
    ⊎_elim (λ f. inl (deleting img pool c st lent s sound (due_of img pool c st lent) refl f.0 o, e ∙ f.1)) (λ f. inr (rw e f))
    (verdict_stays img c s (length_record img s (sound-within img sound s low).0) used dead (due_of img pool c st lent) (due_tells img pool c st lent sound) o)

pub terminated_for_good : TerminatedForGood
unfolding terminated_at kind_of life_cycle_of
terminated_for_good [] img s sound low used dead = inr (same_start _ _)
terminated_for_good (x ∷ rest) img s sound low used dead =
    let e = effect-and-no-other img x.pool x.command x.state x.lent sound in
    ⊎_elim (λ f. inl (inl f.0))
    (λ f. ⊎_elim (λ g. inl (inr g)) (λ g. inr (start_trans _ _ _ _ f (rw (version-same img x sound) at g)))
    (terminated_for_good rest (image_after img x) s (stays_sound img x.pool x.command x.state x.lent sound)
    (rw e.count low) (λ z. used (sym (f.bytes 0 (omega arith)) ∙ z))
    (ap is_terminated (f.bytes 2 (omega arith)) ∙ dead)))
    (terminated_stays img x.pool x.command x.state x.lent s sound low used dead)
  where
    version-same : (img : List ℕ) (x : Call) → Sound img → version_of (image_after img x) ≡ version_of img
    version-same img x sound =
        same_version img _ (record {
          long = (effect-and-no-other img x.pool x.command x.state x.lent sound).long;
          start = (effect-and-no-other img x.pool x.command x.state x.lent sound).start;
          tail = (effect-and-no-other img x.pool x.command x.state x.lent sound).tail;
        })

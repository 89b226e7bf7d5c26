-- Where the pool says nothing: it stays on cards without bodies, and what it holds is not judged (specs/Bodies).
use mathlib.Core.Path.{◌≡◌, refl, sym, ap, ◌∙◌}
use mathlib.Core.Bool.{Bool, true, false, true≢false}
use mathlib.Core.List.{List}
use Prim.Native.Nat.{ℕ, zero, suc}
use lib.Dec.{leb}
use lib.ListN.{length, replicate, length-take, length-drop}
use borrow.Author.Tests.{ne_eqb}
use Rattle.std.specs.Prelude.{Ok, Err}
use Rattle.laws.specs.Lists.{part, splice}
use Rattle.laws.proofs.Splices.{splice-nil}
use Rattle.image.specs.declared.Head.{Head}
use Rattle.image.specs.Layout.{has_bodies, version_of, count_of, current_ef_of}
use Rattle.pool.specs.Bodies.{body_of, start_at, body_at}
use Rattle.pool.specs.Wiped.{wipe_if, wipe_below}
use Rattle.sound.specs.Table.{view_at}
use Rattle.sound.specs.Kinship.{at_or_beneath}
use Rattle.sound.specs.Sound.{Sound, soundb}
use Rattle.sound.specs.Effects.{new_body, filled, wiped}
use Rattle.sound.proofs.Says.{sound-says}
use Rattle.verdict.specs.declared.State.{State}
use Rattle.verdict.specs.declared.Effect.TheVariants.{Select, Create, Delete, SetLife, Read, Update}
use Rattle.verdict.specs.Applied.{Verdict, pooled_of}
use Rattle.judge_target.specs.Target.{rule_at}
use Rattle.judge.specs.Judge.{judge_of}
use Rattle.judge.proofs.Alike.{judge_alike}
use Rattle.judge_security.proofs.Alike.{denial_alike}
use Rattle.effect.specs.Told.{told}
use Rattle.card.specs.Command.{pool_fits, fits, due_of, reply_of, image_of, pool_of}
use Rattle.card.specs.Bodies.{OlderPoolStays, OnlyRulesJudged, OwnRulesUnjudged, BytesUnjudged}
use Rattle.card.proofs.Rules.{own_alike, bodies_alike}
use Rattle.card.proofs.Steps.{cond_by}
use Rattle.card.proofs.Tells.{Tells, some-bodies}
use Rattle.card.proofs.Due.{pool-says, due_tells}
use Rattle.card.proofs.Answered.{pool_is, damaged-kept}

-- where no slot has a body, nothing is written
module _ (img pool c : List ℕ) (sound : Sound img) (older : has_bodies (version_of img) ≡ false) where
  bodiless : (s : ℕ) → body_at img s ≡ 0
  unfolding body_at body_of
  bodiless s = rw older

  unfilled : (h : Head) → filled img pool h ≡ pool
  unfolding filled new_body
  unfilled h = rw older

  unwiped : (p : ℕ → Bool) (k : ℕ) → wipe_below k p (start_at img) (body_at img) pool ≡ pool
  unfolding wipe_below wipe_if
  unwiped p zero = refl
  unwiped p (suc k) =
      let before : List ℕ = wipe_below k p (start_at img) (body_at img) pool in
      cond_by (λ (x : List ℕ). x ≡ pool) (p k) _ _
      (λ q. ap (λ (m : ℕ). splice before (start_at img k) (replicate m 0)) (bodiless k) ∙ splice-nil before (start_at img k) ∙ unwiped p k)
      (λ q. unwiped p k)

  none : has_bodies (version_of img) ≡ true → ⊥
  none h = true≢false (sym h ∙ older)

  verdict_stays : (v : Verdict) → Tells img c v → pooled_of img pool c v ≡ pool
  unfolding wiped
  verdict_stays (Err w) t = refl
  verdict_stays (Ok (Select d e w)) t = refl
  verdict_stays (Ok (Create x)) t = unfilled x.head
  verdict_stays (Ok (Delete s)) t = unwiped (at_or_beneath (view_at img) s) (count_of img)
  verdict_stays (Ok (SetLife s life)) t = refl
  verdict_stays (Ok (Read at n)) t = refl
  verdict_stays (Ok (Update at)) t = absurd (none (some-bodies img pool sound (λ h. absurd (none h)) (current_ef_of img) t.1.body))

pub older_pool_stays : OlderPoolStays
unfolding has_bodies
older_pool_stays img pool c st lent z = go (soundb img) refl
  where
    go : (b : Bool) → soundb img ≡ b → pool_of img pool c st lent ≡ pool
    go false q = damaged-kept img pool c st lent q
    go true q =
        let sound = (sound-says img).0 q in
        pool_is img pool c st lent sound
        ∙ verdict_stays img pool c sound (ne_eqb (version_of img) 3 z) (due_of img pool c st lent) (due_tells img pool c st lent sound)

fit_alike : (img pool other : List ℕ) → length pool ≡ length other → pool_fits img pool ≡ pool_fits img other
unfolding pool_fits
fit_alike img pool other same = rw same

both-damaged : (img pool other c : List ℕ) (st : State) (lent : ℕ) → soundb img ≡ false
    → (reply_of img pool c st lent ≡ reply_of img other c st lent) × (image_of img pool c st lent ≡ image_of img other c st lent)
unfolding reply_of image_of
both-damaged img pool other c st lent e = (rw e, rw e)

both-wrong : (img pool other c : List ℕ) (st : State) (lent : ℕ) → soundb img ≡ true → pool_fits img pool ≡ false → pool_fits img other ≡ false
    → (reply_of img pool c st lent ≡ reply_of img other c st lent) × (image_of img pool c st lent ≡ image_of img other c st lent)
unfolding reply_of image_of due_of
both-wrong img pool other c st lent e p q = (rw (e, p, q), rw (e, p, q))

-- what is told is as long, whatever the pool holds; and where the same rules stand in two pools, all is alike
module _ (img pool other c : List ℕ) (st : State) (lent : ℕ) (same : length pool ≡ length other)
    (rules : (s : ℕ) → rule_at img pool s ≡ rule_at img other s) where
  part_alike : (at n : ℕ) → length (part pool at n) ≡ length (part other at n)
  unfolding part
  part_alike at n = rw (length-take, length-take, length-drop, length-drop, same)

  told_alike : (v : Verdict) → length (told img pool c v) ≡ length (told img other c v)
  told_alike (Err w) = refl
  told_alike (Ok (Select d e w)) = refl
  told_alike (Ok (Create x)) = refl
  told_alike (Ok (Delete s)) = refl
  told_alike (Ok (SetLife s life)) = refl
  told_alike (Ok (Read at n)) = part_alike at n
  told_alike (Ok (Update at)) = refl

  pool_alike : pool_fits img pool ≡ pool_fits img other
  pool_alike = fit_alike img pool other same

  verdict_alike : judge_of img pool c st ≡ judge_of img other c st
  verdict_alike = judge_alike img pool other c st rules

  fits_alike : fits img pool c st lent ≡ fits img other c st lent
  unfolding fits
  fits_alike =
      ap (λ (n : ℕ). leb n lent)
      (told_alike (judge_of img pool c st) ∙ ap (λ (v : Verdict). length (told img other c v)) verdict_alike)

  due_alike : due_of img pool c st lent ≡ due_of img other c st lent
  unfolding due_of
  due_alike = rw (pool_alike, fits_alike, verdict_alike)

  all_alike : (reply_of img pool c st lent ≡ reply_of img other c st lent) × (image_of img pool c st lent ≡ image_of img other c st lent)
  unfolding reply_of image_of
  all_alike = (
    rw (
      pool_alike,
      fits_alike,
      due_alike,
      told_alike (due_of img other c st lent),
      denial_alike img pool other c st.sets (due_of img other c st lent) rules,
    ),
    rw due_alike,
  )

pub only_rules_judged : OnlyRulesJudged
only_rules_judged img pool other same rules c st lent = all_alike img pool other c st lent same rules

pub own_rules_unjudged : OwnRulesUnjudged
own_rules_unjudged img pool other same own = only_rules_judged img pool other same (own_alike img pool other own)

-- a damaged image and a pool of a wrong length are answered alike; else the bodies have the rules
pub bytes_unjudged : BytesUnjudged
bytes_unjudged img pool other same bodies c st lent = go (soundb img) (pool_fits img pool) refl refl
  where
    alike : Sound img → pool_fits img pool ≡ true
        → (reply_of img pool c st lent ≡ reply_of img other c st lent) × (image_of img pool c st lent ≡ image_of img other c st lent)
    alike sound q =
        only_rules_judged img pool other same
        (bodies_alike img pool other sound ((pool-says img pool).0 q) ((pool-says img other).0 (sym (fit_alike img pool other same) ∙ q)) bodies)
        c st lent

    go : (a b : Bool) → soundb img ≡ a → pool_fits img pool ≡ b
        → (reply_of img pool c st lent ≡ reply_of img other c st lent) × (image_of img pool c st lent ≡ image_of img other c st lent)
    go false b p q = both-damaged img pool other c st lent p
    go true true p q = alike ((sound-says img).0 p) q
    go true false p q = both-wrong img pool other c st lent p q (sym (fit_alike img pool other same) ∙ q)

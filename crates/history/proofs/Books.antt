-- The book holds over any history: on a fresh card there is no EF; over a call a new EF is all FF, the updated one has what was sent, and
-- every other reads the same.
use mathlib.Core.Path.{◌≡◌, refl, sym, ap, subst, ◌∙◌}
use mathlib.Core.Bool.{Bool, true, false, cond}
use mathlib.Core.List.{List, [], ◌∷◌}
use mathlib.Core.Logic.{inl, ⊎_elim}
use Prim.Native.Nat.{ℕ, ◌<◌}
use native.Mathlib.Omega.{arith}
use lib.Dec.{eqb}
use lib.ListN.{length, replicate}
use borrow.Author.Tests.{eq-eqb, ne_eqb}
use Rattle.std.specs.Prelude.{Ok, Err}
use Rattle.laws.specs.Lists.{splice}
use Rattle.laws.proofs.Says.{same_or}
use Rattle.rules.specs.Descriptor.{df, ef}
use Rattle.image.specs.Layout.{has_bodies, version_of, count_of, current_df_of, current_ef_of, none}
use Rattle.pool.specs.Bodies.{body_bytes}
use Rattle.sound.specs.Table.{View, view_at}
use Rattle.sound.specs.Sound.{Sound}
use Rattle.sound.specs.Kinship.{at_or_beneath, free_slot}
use Rattle.sound.proofs.Kept.{gone}
use Rattle.maker.specs.declared.Edition.{Edition}
use Rattle.maker.specs.Making.{made_of, left_by}
use Rattle.maker.proofs.Buffers.{sound-made, version-made, alone-made}
use Rattle.verdict.specs.declared.State.{State}
use Rattle.verdict.specs.declared.Effect.TheVariants.{Select, Create, Delete, SetLife, Read, Update}
use Rattle.verdict.specs.Words.{done}
use Rattle.verdict.specs.Applied.{Verdict, sent_data, word_of}
use Rattle.judge_target.specs.Target.{slot_in}
use Rattle.apdu.specs.Apdu.{create_file}
use Rattle.card.specs.Touching.{place_of}
use Rattle.card.specs.Command.{answer_word, PoolFits, due_of, reply_of, image_of, pool_of}
use Rattle.card.specs.After.{ef_after}
use Rattle.card.specs.Bodies.{Updating}
use Rattle.card.specs.Demands.{image_after}
use Rattle.card.proofs.Speaks.{Spoken}
use Rattle.card.proofs.Ordered.{Ordered}
use Rattle.card.proofs.Due.{due_by, due_speaks, due_ordered}
use Rattle.card.proofs.Answered.{word_is, stays_sound}
use Rattle.card.proofs.Demands.{effect-and-no-other}
use Rattle.card.proofs.Versions.{version_stays}
use Rattle.card.proofs.Contents.{reads_same, updated_there, new_body_ff}
use Rattle.card.proofs.Pooled.{pool_stays_fit}
use Rattle.history.specs.Ledger.{Announced, makes, deletes, neither}
use Rattle.history.specs.Story.{announced, heard}
use Rattle.history.specs.Book.{News, begins, writes, quiet, written, news_by, noted, Tale, Turn, call_on, word_on, turned, turned_by}
use Rattle.history.specs.Book.{opening, Chronicle, BookHolds}
use Rattle.history.proofs.Did.{Did}
use Rattle.history.proofs.Announced.{Announces, judge_announces}
use Rattle.history.proofs.Heard.{call_did}
use Rattle.history.proofs.News.{update_other, sort, Hears, news_heard}

-- an EF that no call made was one before it
old_ef : (n : ℕ) (v w : ℕ → View) (a : Announced) (before after : ℕ) → Did n v w a before after → (sort a ≡ 2 → ⊥) → (s : ℕ) → s < n
    → (w s).kind ≡ ef → (v s).kind ≡ ef
old_ef n v w (makes i size false) before after d z s l e = absurd (z refl)
old_ef n v w (makes i size true) before after d z s l e = ⊎_elim
    (λ q. absurd (omega (arith, e, d.kind, ap (λ (x : ℕ). (w x).kind) q)))
    (λ q. ap (λ (x : View). x.kind) (sym (d.rest s l q)) ∙ e)
    (same_or s d.slot)
old_ef n v w (deletes i) before after d z s l e = go (at_or_beneath v d.slot s) (ap (λ (x : View). x.kind) (sym (d.rest s l)) ∙ e)
  where
    go : (b : Bool) → (cond b gone (v s)).kind ≡ ef → (v s).kind ≡ ef
    go true q = absurd (omega arith)
    go false q = q
old_ef n v w neither before after d z s l e = ap (λ (x : View). x.kind) (sym (d s l)) ∙ e

-- a new EF is current, in the lowest free slot
module _ (img c : List ℕ) (i size : ℕ) (q : announced (version_of img) c ≡ makes i size false) where
  no_other : (a : Announced) → announced (version_of img) c ≡ a → sort a ≡ 2
  no_other a e = ap sort (sym e ∙ q)

  current_by : (v : Verdict) → Announces img c v → Ordered img c v → Spoken v → word_of v ≡ done
      → ef_after img v ≡ slot_in (free_slot (count_of img) (view_at img))
  current_by (Err w) a o s e = absurd (s (inl e))
  current_by (Ok (Select d f w)) a o s e = absurd (omega (arith, no_other neither a))
  current_by (Ok (Create x)) a o s e = go (eqb x.head.kind df) (no_other _ a)
    where
      go : (b : Bool) → sort (makes 0 0 b) ≡ 2 → cond b none x.slot ≡ slot_in (free_slot (count_of img) (view_at img))
      go true z = absurd (omega arith)
      go false z = o.1
  current_by (Ok (Delete x)) a o s e = absurd (omega (arith, no_other _ a))
  current_by (Ok (SetLife x life)) a o s e = absurd (omega (arith, no_other neither a.0))
  current_by (Ok (Read at n)) a o s e = absurd (omega (arith, no_other neither a))
  current_by (Ok (Update at)) a o s e = absurd (omega (arith, no_other neither a))

  new_current : (pool : List ℕ) (st : State) (lent : ℕ) → Sound img → answer_word (reply_of img pool c st lent) ≡ done
      → current_ef_of (image_of img pool c st lent) ≡ slot_in (free_slot (count_of img) (view_at img))
  new_current pool st lent sound w =
      (effect-and-no-other img pool c st lent sound).ef
      ∙ current_by (due_of img pool c st lent)
      (due_by img pool c st lent (Announces img c) (judge_announces img pool c st) tt) (due_ordered img pool c st lent)
      (due_speaks img pool c st lent) (sym (word_is img pool c st lent sound) ∙ w)

-- card, pool and book belong together
pub record Right (t : Tale) : Type 0 where
  pub sound : Sound t.image
  pub version : version_of t.image ≡ t.version
  pub bodies : has_bodies t.version ≡ true
  pub pool-fits : PoolFits t.image t.pool
  pub holds : (s : ℕ) → s < count_of t.image → (view_at t.image s).kind ≡ ef → body_bytes t.image t.pool s ≡ t.book s

-- on a fresh card there is no EF
right-fresh : (img : List ℕ) (e : Edition) (total form : ℕ) (rule pool : List ℕ) → made_of img e total form rule ≡ Ok tt → e.version ≡ 3
    → length pool ≡ total → Right (opening e.version (left_by (Ok tt) img e total form rule) pool)
right-fresh img e total form rule pool made third long =
    let left = left_by (Ok tt) img e total form rule in
    let sound = sound-made img e total form rule made in
    let a = alone-made img e total form rule made in
    record {
      sound = sound;
      version = version-made img e total form rule made;
      bodies = unfold has_bodies in rw third refl;
      pool-fits = λ h. long ∙ sym a.root;
      holds = λ s l k. absurd (⊎_elim
          (λ z. omega (arith, k, sound.kin.root-kind, ap (λ (x : ℕ). (view_at left x).kind) z))
          (λ z. omega (arith, k, ap (λ (x : View). x.kind) (a.rest s l z)))
          (same_or s 0));
    }

-- of one call
module _ (t : Tale) (r : Right t) (x : Turn) where
  img : List ℕ
  img = t.image

  left : List ℕ
  left = image_after t.image (call_on t x)

  kept : List ℕ
  kept = pool_of t.image t.pool x.command x.state x.lent

  said : Announced
  said = cond (eqb (word_on t x) done) (announced t.version x.command) neither

  did : Did (count_of img) (view_at img) (view_at left) said (current_df_of img) (current_df_of left)
  unfolding img left said heard
  did = rw r.version at (call_did t.image (call_on t x) r.sound)

  -- an EF that is not updated
  same : (s : ℕ) → s < count_of img → (view_at img s).kind ≡ ef → (view_at left s).kind ≡ ef
      → (Updating t.image t.pool x.command x.state x.lent s → ⊥) → body_bytes left kept s ≡ t.book s
  unfolding img left kept
  same s l a b z =
      reads_same t.image t.pool x.command x.state x.lent s l (λ e. omega (arith, a, e)) (λ e. omega (arith, b, e)) z
      ∙ r.holds s l a

  stands : (a : News) → Hears t.version (word_on t x) x.command a → (s : ℕ) → s < count_of img → (view_at left s).kind ≡ ef
      → body_bytes left kept s ≡ noted t.book a (current_ef_of img) (current_ef_of left) s
  unfolding noted written img left kept said
  stands quiet h s l e =
      same s l (old_ef _ _ _ said _ _ did h.no-ef s l e) e (λ u. h.no-update u.answered u.update)
  stands (writes at d) h s l e =
      let w : view_at left s ≡ view_at img s = (rw h.heard at did) s l in
      let k : (view_at img s).kind ≡ ef = ap (λ (y : View). y.kind) (sym w) ∙ e in
      ⊎_elim
      (λ q. rw (eq-eqb s (current_ef_of img) q)
      (updated_there t.image t.pool x.command x.state x.lent s r.sound r.pool-fits
      (record { update = h.update; answered = h.answered; current = sym q })
      ∙ rw (h.place, h.sent) (ap (λ (b : List ℕ). splice b (place_of x.command) (sent_data x.command))
      (r.holds s l k ∙ ap t.book q))))
      (λ z. rw (ne_eqb s (current_ef_of img) z) (same s l k e (λ u. z (sym u.current))))
      (same_or s (current_ef_of img))
  stands (begins size) h s l e =
      let m = rw h.heard at did in
      let f : current_ef_of left ≡ slot_in (free_slot (count_of img) (view_at img)) =
      new_current t.image x.command h.identifier size (rw r.version h.says) t.pool x.state x.lent r.sound
      h.answered
      in
      let g : slot_in (free_slot (count_of img) (view_at img)) ≡ m.slot = ap slot_in m.lowest in
      ⊎_elim
      (λ q. rw (eq-eqb s (current_ef_of left) (q ∙ sym g ∙ sym f))
      (ap (body_bytes left kept) (q ∙ sym g)
      ∙ new_body_ff t.image t.pool x.command x.state x.lent r.sound r.pool-fits (rw r.version r.bodies)
      h.create h.answered (ap (λ (y : ℕ). (view_at left y).kind) g ∙ m.kind)
      ∙ ap (λ (n : ℕ). replicate n 0xFF) (ap (λ (y : ℕ). (view_at left y).size) g ∙ m.size)))
      (λ z. rw (ne_eqb s (current_ef_of left) (λ q. z (q ∙ f ∙ g)))
      (same s l (ap (λ (y : View). y.kind) (sym (m.rest s l z)) ∙ e) e
      (λ u. update_other x.command create_file refl u.update h.create)))
      (same_or s m.slot)

  pub right-next : Right (turned t x)
  unfolding turned img left kept
  right-next =
      let sound = stays_sound t.image t.pool x.command x.state x.lent r.sound in
      let count : count_of (image_after t.image (call_on t x)) ≡ count_of t.image =
      (effect-and-no-other t.image t.pool x.command x.state x.lent r.sound).count
      in
      record {
        sound = sound;
        version = version_stays t.image t.pool x.command x.state x.lent ∙ r.version;
        bodies = r.bodies;
        pool-fits = pool_stays_fit t.image t.pool x.command x.state x.lent r.pool-fits;
        holds = λ s l. stands (news_by t.version (word_on t x) x.command) (news_heard t.version (word_on t x) x.command) s
            (rw count at l);
      }

right-played : (turns : List Turn) (t : Tale) → Right t → Right (turned_by t turns)
right-played [] t r = r
right-played (x ∷ rest) t r = right-played rest (turned t x) (right-next t r x)

pub chronicle_right : (t : Tale) → Chronicle t → Right t
chronicle_right t h =
    subst (λ (s : Tale). Right s) h.tale
    (right-played h.turns _
    (right-fresh h.buffer h.edition h.total h.form h.rule h.bodies h.made h.third h.whole))

pub book-holds : BookHolds
book-holds t h s l e = (chronicle_right t h).holds s l e

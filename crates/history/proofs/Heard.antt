-- What a call did to the table of a sound image is what the ledger heard of it (`call-did`).
use mathlib.Core.Path.{◌≡◌, refl, sym, ap, ◌∙◌}
use mathlib.Core.Bool.{Bool, true, false, cond}
use mathlib.Core.List.{List}
use mathlib.Core.Logic.{inl, ⊎_elim}
use Prim.Native.Nat.{ℕ, ◌<◌}
use native.Mathlib.Omega.{arith}
use lib.Dec.{eqb}
use borrow.Author.Tests.{eq-eqb, ne_eqb, eqb-true}
use Rattle.std.specs.Prelude.{Ok, Err}
use Rattle.laws.proofs.Says.{same_or}
use Rattle.laws.proofs.Firsts.{first_is}
use Rattle.rules.specs.Descriptor.{df, ef}
use Rattle.image.specs.declared.Head.{Head}
use Rattle.image.specs.Layout.{version_of, rec_at, free_bytes, count_of, current_df_of}
use Rattle.sound.specs.Table.{View, view_at, view_of}
use Rattle.sound.specs.Sound.{Sound}
use Rattle.sound.specs.Kinship.{at_or_beneath, free_slot}
use Rattle.sound.specs.Effects.{Creates, new_bytes, other_record}
use Rattle.sound.proofs.NewRecords.{view_made, view_free}
use Rattle.sound.proofs.Kept.{gone}
use Rattle.sound.proofs.Lived.{view_lived}
use Rattle.sound.proofs.Created.{class_low}
use Rattle.verdict.specs.declared.Effect.TheVariants.{Select, Create, Delete, SetLife, Read, Update}
use Rattle.verdict.specs.Words.{done}
use Rattle.verdict.specs.Applied.{Verdict, word_of}
use Rattle.card.specs.Command.{due_of}
use Rattle.card.specs.After.{record_after, df_after}
use Rattle.card.specs.Demands.{Call, image_after}
use Rattle.card.proofs.Tells.{Tells}
use Rattle.card.proofs.Speaks.{Spoken}
use Rattle.card.proofs.After.{records-after}
use Rattle.card.proofs.Due.{due_by, due_tells, due_speaks}
use Rattle.card.proofs.Answered.{word_is}
use Rattle.card.proofs.Demands.{effect-and-no-other}
use Rattle.history.specs.Ledger.{Announced, neither}
use Rattle.history.specs.Story.{announced, heard}
use Rattle.history.proofs.Did.{OneMore, Did}
use Rattle.history.proofs.Views.{view_new, view_other}
use Rattle.history.proofs.Announced.{Announces, judge_announces}

module _ (img c : List ℕ) (sound : Sound img) (w : ℕ → View) where
  -- CREATE
  module _ (s : ℕ) (h : Head) (name rule : List ℕ) (k : Creates img s h name rule) where
    new_kind : h.kind ≡ cond (eqb h.kind df) df ef
    new_kind = ⊎_elim
        (λ e. rw (eq-eqb h.kind df e) e)
        (λ z. rw (ne_eqb h.kind df z) (omega (arith, k.good.class, class_low h.descriptor, k.good.some)))
        (same_or h.kind df)

    new_free : ((view_at img s).kind ≡ 0) × (s < count_of img)
    unfolding free_slot
    new_free = let f = first_is (count_of img) (λ t. eqb (view_at img t).kind 0) s k.slot in (eqb-true _ _ f.here, f.low)

    one_more : (after : ℕ) → after ≡ cond (eqb h.kind df) s (current_df_of img)
        → ((t : ℕ) → t < count_of img → w t ≡ view_of (cond (eqb t s) (new_bytes img h name rule) (other_record img h t)))
        → OneMore (count_of img) (view_at img) w h.identifier h.size (eqb h.kind df) (current_df_of img) after
    one_more after q e =
        let made : w s ≡ view_made h name = e s new_free.1 ∙ rw (eq-eqb s s refl) (view_new img s h name rule k) in
        record {
          slot = s;
          low = new_free.1;
          free = new_free.0;
          lowest = k.slot;
          other = λ z. omega (arith, new_free.0, sound.kin.root-kind, ap (λ (t : ℕ). (view_at img t).kind) z);
          kind = ap (λ (x : View). x.kind) made ∙ new_kind;
          parent = ap (λ (x : View). x.parent) made ∙ k.parent;
          identifier = ap (λ (x : View). x.identifier) made;
          size = ap (λ (x : View). x.size) made;
          own = λ d. q ∙ rw d;
          rest = λ t l z. e t l ∙ rw (ne_eqb t s z) (view_other img h sound t l);
        }

  -- what is said of the announcement, if the word is 9000
  said : (v : Verdict) → Announced
  said v = cond (eqb (word_of v) done) (announced (version_of img) c) neither

  nothing_said : (v : Verdict) → announced (version_of img) c ≡ neither → said v ≡ neither
  unfolding said
  nothing_said v e = rw e (go (eqb (word_of v) done))
    where
      go : (b : Bool) → cond b neither neither ≡ neither
      go true = refl
      go false = refl

  did : (v : Verdict) → Tells img c v → Announces img c v → Spoken v → (after : ℕ) → after ≡ df_after img v
      → ((t : ℕ) → t < count_of img → w t ≡ view_of (record_after img c v t))
      → Did (count_of img) (view_at img) w (said v) (current_df_of img) after
  unfolding said
  did (Err x) k a s after q e = rw (ne_eqb x done (λ z. s (inl z))) e
  did (Ok (Select d f x)) k a s after q e = rw (nothing_said (Ok (Select d f x)) a) e
  did (Ok (Create x)) k a z after q e = rw a (one_more x.slot x.head _ _ k.1 after q e)
  did (Ok (Delete s)) k a z after q e = rw a (record {
    slot = s;
    low = k.low;
    file = k.file;
    parent = k.child;
    identifier = refl;
    current = q;
    rest = λ t l. e t l ∙ cleared t (at_or_beneath (view_at img) s t);
  })
    where
      cleared : (t : ℕ) (b : Bool) → view_of (cond b free_bytes (rec_at img t)) ≡ cond b gone (view_at img t)
      cleared t true = view_free
      cleared t false = refl
  did (Ok (SetLife s life)) k a z after q e =
      rw a.0
      (λ t l. e t l ∙ ap view_of (sym (records-after img c sound (Ok (SetLife s life)) k t l))
      ∙ view_lived img s life sound k.0.low k.0.used k.1 t l)
  did (Ok (Read at n)) k a z after q e = rw a e
  did (Ok (Update at)) k a z after q e = rw a e

-- the table after a call, by what the ledger heard
pub call_did : (img : List ℕ) (x : Call) → Sound img
    → Did (count_of img) (view_at img) (view_at (image_after img x)) (heard (version_of img) img x) (current_df_of img)
    (current_df_of (image_after img x))
unfolding heard said
call_did img x sound =
    let p = x.pool in
    let c = x.command in
    let e = effect-and-no-other img p c x.state x.lent sound in
    rw (word_is img p c x.state x.lent sound)
    (did img c sound (view_at (image_after img x)) (due_of img p c x.state x.lent) (due_tells img p c x.state x.lent sound)
    (due_by img p c x.state x.lent (Announces img c) (judge_announces img p c x.state) tt) (due_speaks img p c x.state x.lent)
    (current_df_of (image_after img x)) e.df (λ t l. ap view_of (e.records t l)))

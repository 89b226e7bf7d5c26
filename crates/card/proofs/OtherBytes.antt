-- Every byte of the pool that is in no body after a verdict: 00 where it was in one before, else as it was.
use mathlib.Core.Path.{◌≡◌, refl, sym, ap, ◌∙◌}
use mathlib.Core.Bool.{Bool, true, false, cond, false≢true}
use mathlib.Core.List.{List}
use mathlib.Core.Logic.{◌⊎◌, inl, inr}
use Prim.Native.Nat.{ℕ, ◌+◌, ◌<◌, ◌≤◌}
use native.Mathlib.Omega.{arith}
use lib.ListN.{length, get_or, replicate, length-replicate}
use borrow.Author.Tests.{eq-eqb}
use Rattle.std.specs.Prelude.{Option, Some, None, Ok}
use Rattle.laws.specs.Lists.{splice}
use Rattle.laws.proofs.Says.{same_or, lt-or, untrue}
use Rattle.laws.proofs.Splices.{get_or-splice_below, get_or-splice_above}
use Rattle.image.specs.declared.Head.{Head}
use Rattle.image.specs.Layout.{version_of, count_of, current_ef_of, rec_at, start_of}
use Rattle.image.proofs.Headers.{same_version}
use Rattle.pool.specs.Bodies.{body_of, start_at, body_at}
use Rattle.pool.specs.Laid.{Laid}
use Rattle.pool.specs.Packed.{holds, packed_start}
use Rattle.pool.specs.Wiped.{wipe_below}
use Rattle.pool.specs.Places.{place_at, place_image, place_pool}
use Rattle.pool.proofs.After.{after-start, after-size}
use Rattle.pool.proofs.Wiping.{wiped_stays, wiped-zero}
use Rattle.sound.specs.Table.{view_at}
use Rattle.sound.specs.Kinship.{at_or_beneath}
use Rattle.sound.specs.Sound.{Sound}
use Rattle.sound.specs.Effects.{Creates, new_body, new_gap, made, filled, other_record, wiped}
use Rattle.sound.proofs.Front.{sound-sized}
use Rattle.sound.proofs.Created.{slot-free, slot-low}
use Rattle.sound.proofs.Made.{other-made}
use Rattle.sound.proofs.Bodied.{body-none}
use Rattle.verdict.specs.declared.Effect.TheVariants.{Delete, Update}
use Rattle.verdict.specs.Applied.{sent_data, applied_of}
use Rattle.card.specs.Command.{PoolFits}
use Rattle.card.specs.Bodies.{in_some}
use Rattle.card.proofs.Tells.{Tells, lies, touched}
use Rattle.card.proofs.After.{records-after, front_after}
use Rattle.card.proofs.Owners.{holds_not, holds-within, by_owner, left-zero, left-same}
use Rattle.card.proofs.Bodies.{by_record, version_new, pool_new, room, other_lies, new_lies}

module _ (img pool c : List ℕ) (sound : Sound img) (fit : PoolFits img pool) (q : ℕ) (low : q < length pool) where
  laid : Laid (count_of img) (start_at img) (body_at img) (length pool)
  laid = lies img pool sound fit

  -- what is to be shown of the byte x that stands at q afterwards
  abbrev pub Left : ℕ → Type 0
  Left x = x ≡ cond (in_some img q) 0x00 (get_or pool q 0)

  -- no body of the image afterwards has it
  abbrev pub Free : List ℕ → Type 0
  Free left = (t : ℕ) → t < count_of img → holds (start_at left) (body_at left) q t ≡ false

  -- a body that lies where it did still has it
  still : (left : List ℕ) (t : ℕ) → (start_at left t ≡ start_at img t) × (body_at left t ≡ body_at img t)
      → holds (start_at img) (body_at img) q t ≡ true → holds (start_at left) (body_at left) q t ≡ true
  unfolding holds
  still left t e h = rw (e.0, e.1) h

  -- where every body lies as it did, and the bytes outside them stay
  pub same_left : (left kept : List ℕ) → Free left
      → ((t : ℕ) → t < count_of img → holds (start_at img) (body_at img) q t ≡ true
      → (start_at left t ≡ start_at img t) × (body_at left t ≡ body_at img t))
      → (((t : ℕ) → t < count_of img → holds (start_at img) (body_at img) q t ≡ false) → get_or kept q 0 ≡ get_or pool q 0) → Left (get_or kept q 0)
  same_left left kept free same stays =
      by_owner (count_of img) (start_at img) (body_at img) q (get_or kept q 0) (get_or pool q 0)
      (λ t l h. absurd (false≢true (sym (free t l) ∙ still left t (same t l h) h))) stays

  -- UPDATE writes within a body
  pub updated_left : (at : ℕ) → Tells img c (Ok (Update at)) → Free img → Left (get_or (splice pool at (sent_data c)) q 0)
  updated_left at t free =
      same_left img (splice pool at (sent_data c)) free (λ s l h. (refl, refl)) (λ none. outside (lt-or q at) (ef-free none))
    where
      e : ℕ
      e = current_ef_of img

      fits : at + length (sent_data c) ≤ length pool
      fits = touched img pool sound fit c at (length (sent_data c)) t.1

      ef-free : ((s : ℕ) → s < count_of img → holds (start_at img) (body_at img) q s ≡ false)
          → start_at img (current_ef_of img) ≤ q → start_at img (current_ef_of img) + body_at img (current_ef_of img) ≤ q
      ef-free none = holds_not (start_at img) (body_at img) q (current_ef_of img) (none (current_ef_of img) (sound.current.ef-low t.1.some))

      outside : (q < at) ⊎ (at ≤ q)
          → (start_at img (current_ef_of img) ≤ q → start_at img (current_ef_of img) + body_at img (current_ef_of img) ≤ q)
          → get_or (splice pool at (sent_data c)) q 0 ≡ get_or pool q 0
      outside (inl h) f = get_or-splice_below pool at (sent_data c) fits q h
      outside (inr h) f =
          get_or-splice_above pool at (sent_data c) fits q
          (omega (arith, t.1.here, t.1.within, f (omega (arith, t.1.here))))

  -- DELETE
  pub deleted-left : (x : ℕ) → Tells img c (Ok (Delete x)) → Free (applied_of img c (Ok (Delete x))) → Left (get_or (wiped img pool x) q 0)
  unfolding wiped
  deleted-left x t free =
      by_owner (count_of img) (start_at img) (body_at img) q _ (get_or pool q 0) (λ s l h. gone s l h (at_or_beneath (view_at img) x s) refl)
      (λ none. wiped_stays (count_of img) (start_at img) (body_at img) pool laid (at_or_beneath (view_at img) x) q
      (λ s l p. holds_not (start_at img) (body_at img) q s (none s l)))
    where
      lies_on : (s : ℕ) → s < count_of img → at_or_beneath (view_at img) x s ≡ false
          → (start_at (applied_of img c (Ok (Delete x))) s ≡ start_at img s) × (body_at (applied_of img c (Ok (Delete x))) s ≡ body_at img s)
      lies_on s l e =
          let same : rec_at (applied_of img c (Ok (Delete x))) s ≡ rec_at img s = records-after img c sound (Ok (Delete x)) t s l ∙ rw e in
          by_record img pool c sound fit (applied_of img c (Ok (Delete x))) s (same_version img _ (front_after img c sound (Ok (Delete x)) t))
          (record { start = ap start_of same; body = ap (body_of (version_of img)) same })

      gone : (s : ℕ) → s < count_of img → holds (start_at img) (body_at img) q s ≡ true → (b : Bool) → at_or_beneath (view_at img) x s ≡ b
          → get_or (wipe_below (count_of img) (at_or_beneath (view_at img) x) (start_at img) (body_at img) pool) q 0 ≡ 0
      gone s l h true e =
          let w = holds-within (start_at img) (body_at img) q s h in
          wiped-zero (count_of img) (start_at img) (body_at img) pool laid (at_or_beneath (view_at img) x) s l e q w.0 w.1
      gone s l h false e = absurd (false≢true (sym (free s l) ∙ still (applied_of img c (Ok (Delete x))) s (lies_on s l e) h))

  -- CREATE of a file in slot s
  module _ (s : ℕ) (h : Head) (name rule : List ℕ) (k : Creates img s h name rule) (free : Free (made img s h name rule)) where
    -- its slot had no body
    was_none : holds (start_at img) (body_at img) q s ≡ true → ⊥
    unfolding body_at
    was_none e =
        let w = holds-within (start_at img) (body_at img) q s e in
        omega (arith, w.0, w.1, body-none (version_of img) (rec_at img s) (λ z. omega (arith, slot-free img s h name rule sound k)))

    other : (t : ℕ) → holds (start_at img) (body_at img) q t ≡ true → t ≡ s → ⊥
    other t e z = was_none (rw z at e)

    pub bodiless_left : new_body (version_of img) h ≡ 0 → Left (get_or (filled img pool h) q 0)
    unfolding filled
    bodiless_left e = rw (eq-eqb (new_body (version_of img) h) 0 e)
        (same_left (made img s h name rule) pool free (λ t l i. lies_on t l (other t i)) (λ none. refl))
      where
        same : (t : ℕ) → t < count_of img → (t ≡ s → ⊥) → rec_at (made img s h name rule) t ≡ rec_at img t
        same t l z = other-made img s h name rule sound k t l z ∙ (unfold other_record in rw (eq-eqb (new_body (version_of img) h) 0 e))

        lies_on : (t : ℕ) → t < count_of img → (t ≡ s → ⊥)
            → (start_at (made img s h name rule) t ≡ start_at img t) × (body_at (made img s h name rule) t ≡ body_at img t)
        lies_on t l z =
            by_record img pool c sound fit (made img s h name rule) t (version_new img pool c sound fit s h name rule k)
            (record { start = ap start_of (same t l z); body = ap (body_of (version_of img)) (same t l z) })

    -- with a body: outside the new one the pool is what moving down left, if bodies were moved
    module _ (some : 0 < new_body (version_of img) h) where
      abbrev m : ℕ
      m = new_body (version_of img) h

      abbrev at : ℕ
      at = place_at (new_gap img h) (count_of img) img

      new_free : at ≤ q → at + m ≤ q
      new_free i =
          let e = new_lies img pool c sound fit s h name rule k some in
          let f = free s (slot-low img s h name rule sound k) in
          omega (arith, e.0, e.1, holds_not (start_at (made img s h name rule)) (body_at (made img s h name rule)) q s f (omega (arith, e.0)))

      outside : get_or (filled img pool h) q 0 ≡ get_or (place_pool (new_gap img h) (count_of img) img pool) q 0
      outside = rw (pool_new img pool c sound fit s h name rule k some) (go (lt-or q at))
        where
          long : length {A = ℕ} (replicate m 0xFF) ≡ m
          long = length-replicate m 0xFF

          fits : at + length {A = ℕ} (replicate m 0xFF) ≤ length (place_pool (new_gap img h) (count_of img) img pool)
          fits = omega (arith, long, room img pool c sound fit s h name rule k some)

          go : (q < at) ⊎ (at ≤ q) → get_or (splice (place_pool (new_gap img h) (count_of img) img pool) at (replicate m 0xFF)) q 0
              ≡ get_or (place_pool (new_gap img h) (count_of img) img pool) q 0
          go (inl i) = get_or-splice_below _ at (replicate m 0xFF) fits q i
          go (inr i) = get_or-splice_above _ at (replicate m 0xFF) fits q (omega (arith, long, new_free i))

      -- no other body has it, where it lies now
      ready_free : (t : ℕ) → t < count_of img → (t ≡ s → ⊥)
          → holds (start_at (place_image (new_gap img h) (count_of img) img)) (body_at (place_image (new_gap img h) (count_of img) img)) q t ≡ false
      unfolding holds
      ready_free t l z =
          let e = other_lies img pool c sound fit s h name rule k some t l z in
          rw (sym e.0, sym e.1) (free t l)

      moved-left : (g : Option ℕ) → g ≡ new_gap img h → Left (get_or (place_pool g (count_of img) img pool) q 0)
      moved-left (Some p) e =
          by_owner (count_of img) (start_at img) (body_at img) q (get_or pool q 0) (get_or pool q 0)
          (λ t l i. absurd (false≢true (sym (rw (sym e) at (ready_free t l (other t i))) ∙ i))) (λ none. refl)
      moved-left None e =
          by_owner (count_of img) (start_at img) (body_at img) q _ (get_or pool q 0)
          (λ t l i. left-zero (count_of img) (start_at img) (body_at img) pool q low packed-free t l i)
          (λ none. left-same (count_of img) (start_at img) (body_at img) pool q low packed-free none)
        where
          packed-free : (t : ℕ) → t < count_of img
              → holds (packed_start (count_of img) (start_at img) (body_at img)) (body_at img) q t ≡ false
          packed-free t l = go (lt-or 0 (body_at img t)) (same_or t s)
            where
              empty : body_at img t ≤ 0 → holds (packed_start (count_of img) (start_at img) (body_at img)) (body_at img) q t ≡ false
              empty x = untrue _ (λ i. let w = holds-within (packed_start (count_of img) (start_at img) (body_at img)) (body_at img) q t i in omega (arith, w.0, w.1))

              go : (0 < body_at img t) ⊎ (body_at img t ≤ 0) → (t ≡ s) ⊎ (t ≡ s → ⊥)
                  → holds (packed_start (count_of img) (start_at img) (body_at img)) (body_at img) q t ≡ false
              go (inr x) z = empty x
              go (inl x) (inl z) = empty (omega (arith, ap (body_at img) z, slot-none))
                where
                  slot-none : body_at img s ≡ 0
                  slot-none = unfold body_at in body-none (version_of img) (rec_at img s) (λ y. omega (arith, slot-free img s h name rule sound k))
              go (inl x) (inr z) =
                  let sized = sound-sized img sound in
                  unfold holds in
                  rw (sym (after-start (count_of img) img pool sized laid t l x), sym (after-size (count_of img) img pool sized laid t l))
                  (unfold holds in rw (sym e) at (ready_free t l z))

      pub bodied_left : Left (get_or (filled img pool h) q 0)
      bodied_left = outside ∙ moved-left (new_gap img h) refl

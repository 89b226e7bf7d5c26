-- What bodies hold after a call (specs/Bodies, 02 Ticket 4): by the verdict that stands, from what it tells of the image.
use mathlib.Core.Path.{◌≡◌, refl, sym, ap, ◌∙◌}
use mathlib.Core.Bool.{Bool, true, false, cond}
use mathlib.Core.List.{List}
use mathlib.Core.Logic.{◌⊎◌, inl, inr, ⊎_elim}
use Prim.Native.Nat.{ℕ, ◌+◌, ◌<◌, ◌≤◌}
use native.Mathlib.Omega.{arith}
use lib.Dec.{eqb}
use lib.ListN.{length, replicate}
use borrow.Author.Tests.{eq-eqb, ne_eqb}
use Rattle.std.specs.Prelude.{Option, Some, None, Ok, Err}
use Rattle.laws.specs.Lists.{part, splice}
use Rattle.laws.proofs.Says.{same_or, lt-or}
use Rattle.image.specs.declared.Head.{Head}
use Rattle.image.specs.Layout.{version_of, count_of, current_ef_of, rec_at, free_bytes, with_life, kind_of, start_of}
use Rattle.image.specs.Layout.{record_bytes, with_start}
use Rattle.image.proofs.Made.{length-made, kind-made, size-made}
use Rattle.image.proofs.Starts.{start-set}
use Rattle.image.proofs.Starts as begun
use Rattle.access.proofs.Fits.{fits-short}
use Rattle.image.proofs.Headers.{same_version}
use Rattle.image.proofs.Lives.{kind-kept, size-kept, start-kept}
use Rattle.image.proofs.Places.{length_record}
use Rattle.pool.specs.Bodies.{body_of, start_at, body_at, body_bytes}
use Rattle.pool.specs.Laid.{Laid}
use Rattle.pool.specs.Packed.{packed_image, packed_pool}
use Rattle.pool.specs.Places.{place_at, place_image, place_pool}
use Rattle.pool.proofs.After.{after-size, after-reads, length-pool}
use Rattle.pool.proofs.Making.{place-laid}
use Rattle.pool.proofs.Wiping.{wiped-reads}
use Rattle.pool.proofs.Updates.{other_updated, new_reads, other_new}
use Rattle.sound.specs.Table.{view_at}
use Rattle.sound.specs.Kinship.{at_or_beneath}
use Rattle.sound.specs.Sound.{Sound, pool_length}
use Rattle.sound.specs.Effects.{Creates, new_body, new_gap, made, filled, new_bytes, other_record, wiped}
use Rattle.sound.proofs.Front.{sound-sized, sound-within}
use Rattle.sound.proofs.Created.{slot-free}
use Rattle.sound.proofs.MovedDown.{kept_record_lem}
use Rattle.sound.proofs.Fitting.{body-fits}
use Rattle.sound.proofs.Made.{front_made, record_made, other-made, place_inside, place-clear, version_ready}
use Rattle.verdict.specs.declared.Effect.TheVariants.{Select, Create, Delete, SetLife, Read, Update}
use Rattle.verdict.specs.Applied.{Verdict, sent_data, applied_of, pooled_of}
use Rattle.card.specs.Touching.{place_of}
use Rattle.card.specs.Command.{PoolFits}
use Rattle.card.specs.After.{record_after}
use Rattle.card.specs.Bodies.{NeverMeet, InThePool}
use Rattle.card.proofs.Tells.{Tells, new_bodies, lies}
use Rattle.card.proofs.After.{records-after, front_after}

pub never_meet : NeverMeet
never_meet img sound s t q k l i j = ⊎_elim (λ e. e) (λ z. absurd (go z (lt-or (start_at img s) (start_at img t)))) (same_or s t)
  where
    some_s : 0 < body_at img s
    some_s = omega (arith, i.0, i.1)

    some_t : 0 < body_at img t
    some_t = omega (arith, j.0, j.1)

    go : (s ≡ t → ⊥) → (start_at img s < start_at img t) ⊎ (start_at img t ≤ start_at img s) → ⊥
    go z (inl h) = omega (arith, sound.bodies.apart s t k l some_s some_t (omega arith) z, i.1, j.0)
    go z (inr h) = omega (arith, sound.bodies.apart t s l k some_t some_s h (λ e. z (sym e)), i.0, j.1)

pub in_the_pool : InThePool
in_the_pool img sound s q l i = omega (arith, sound.bodies.inside s l (omega (arith, i.0, i.1)), i.1)

-- a body that lies where another image has it, and is as long, is the same bytes
pub same_bytes : (a b pool : List ℕ) (s : ℕ) → start_at b s ≡ start_at a s → body_at b s ≡ body_at a s → body_bytes b pool s ≡ body_bytes a pool s
unfolding body_bytes
same_bytes a b pool s e f = rw (e, f)

free-kind : kind_of free_bytes ≡ 0
unfolding kind_of
free-kind = refl

-- what a record tells of its body
pub record Lies (v : ℕ) (old new : List ℕ) : Type 0 where
  pub start : start_of new ≡ start_of old
  pub body : body_of v new ≡ body_of v old

module _ (img pool c : List ℕ) (sound : Sound img) (fit : PoolFits img pool) where
  laid : Laid (count_of img) (start_at img) (body_at img) (length pool)
  laid = lies img pool sound fit

  -- .. and so of the body in an image that has such a record
  pub by_record : (left : List ℕ) (s : ℕ) → version_of left ≡ version_of img → Lies (version_of img) (rec_at img s) (rec_at left s)
      → (start_at left s ≡ start_at img s) × (body_at left s ≡ body_at img s)
  unfolding start_at body_at
  by_record left s v k = (k.start, rw v k.body)

  whole : (s : ℕ) → s < count_of img → length (rec_at img s) ≡ 64
  whole s l = length_record img s (sound-within img sound s l).0

  pub lived : (s life x : ℕ) → s < count_of img → Lies (version_of img) (rec_at img s) (cond (eqb s x) (with_life (rec_at img s) life) (rec_at img s))
  unfolding body_of
  lived s life x l = go (eqb s x)
    where
      go : (b : Bool) → Lies (version_of img) (rec_at img s) (cond b (with_life (rec_at img s) life) (rec_at img s))
      go true = record {
        start = start-kept (rec_at img s) life (whole s l);
        body = unfold body_of in rw (kind-kept (rec_at img s) life (whole s l), size-kept (rec_at img s) life (whole s l));
      }
      go false = record { start = refl; body = refl }

  -- moved down or not, each body reads the same before the new one is written
  ready_reads : (g : Option ℕ) (t : ℕ) → t < count_of img
      → part (place_pool g (count_of img) img pool) (start_at (place_image g (count_of img) img) t) (body_at (place_image g (count_of img) img) t)
      ≡ part pool (start_at img t) (body_at img t)
  ready_reads (Some p) t l = refl
  ready_reads None t l = go (lt-or 0 (body_at img t))
    where
      size : body_at (packed_image (count_of img) img) t ≡ body_at img t
      size = after-size (count_of img) img pool (sound-sized img sound) laid t l

      empty : (x y : List ℕ) (i j n : ℕ) → n ≡ 0 → part x i n ≡ part y j n
      empty x y i j n e = unfold part in rw e

      go : (0 < body_at img t) ⊎ (body_at img t ≤ 0)
          → part (packed_pool (count_of img) (start_at img) (body_at img) pool) (start_at (packed_image (count_of img) img) t)
          (body_at (packed_image (count_of img) img) t)
          ≡ part pool (start_at img t) (body_at img t)
      go (inl x) = after-reads (count_of img) img pool (sound-sized img sound) laid t l x
      go (inr x) = rw size (empty _ _ _ _ (body_at img t) (omega arith))

  pub ready_long : (g : Option ℕ) → length (place_pool g (count_of img) img pool) ≡ length pool
  ready_long (Some p) = refl
  ready_long None = length-pool (count_of img) (start_at img) (body_at img) pool laid

  -- CREATE of a file in slot s
  module _ (s : ℕ) (h : Head) (name rule : List ℕ) (k : Creates img s h name rule) where
    abbrev new : List ℕ
    new = made img s h name rule

    pub version_new : version_of new ≡ version_of img
    version_new = same_version img new (front_made img s h name rule sound k)

    -- with a body: where, and of how many bytes
    module _ (some : 0 < new_body (version_of img) h) where
      abbrev m : ℕ
      m = new_body (version_of img) h

      abbrev ready : List ℕ
      ready = place_image (new_gap img h) (count_of img) img

      abbrev at : ℕ
      at = place_at (new_gap img h) (count_of img) img

      abbrev moved : List ℕ
      moved = place_pool (new_gap img h) (count_of img) img pool

      long : length pool ≡ pool_length img
      long = fit (new_bodies (version_of img) h some)

      not-zero : eqb (new_body (version_of img) h) 0 ≡ false
      not-zero = ne_eqb (new_body (version_of img) h) 0 (λ e. omega arith)

      pub pool_new : filled img pool h ≡ splice moved at (replicate m 0xFF)
      unfolding filled
      pool_new = rw not-zero

      pub room : at + m ≤ length moved
      room = omega (arith, ready_long (new_gap img h), long, place_inside img s h name rule sound k some)

      laid-moved : Laid (count_of img) (start_at ready) (body_at ready) (length moved)
      laid-moved =
          rw (ready_long (new_gap img h))
          (place-laid (count_of img) m img pool (sound-sized img sound) laid (rw long (body-fits img s h name rule sound k)) (new_gap img h))

      other-record : (t : ℕ) → t < count_of img → (t ≡ s → ⊥) → rec_at new t ≡ rec_at ready t
      unfolding other_record
      other-record t l z =
          other-made img s h name rule sound k t l z ∙ rw not-zero (sym (kept_record_lem img sound (new_gap img h) t l))

      pub other_lies : (t : ℕ) → t < count_of img → (t ≡ s → ⊥) → (start_at new t ≡ start_at ready t) × (body_at new t ≡ body_at ready t)
      unfolding start_at body_at
      other_lies t l z = (
        ap start_of (other-record t l z),
        rw (version_new, version_ready img s h name rule sound k some) (ap (body_of (version_of img)) (other-record t l z)),
      )

      pub other-reads : (t : ℕ) → t < count_of img → (t ≡ s → ⊥) → body_bytes new (filled img pool h) t ≡ body_bytes img pool t
      unfolding body_bytes
      other-reads t l z =
          rw ((other_lies t l z).0, (other_lies t l z).1, pool_new)
          (other_new (count_of img) (start_at ready) (body_at ready) moved laid-moved at m room (place-clear img s h name rule sound k some) t l
          ∙ ready_reads (new_gap img h) t l)

      new-record : rec_at new s ≡ with_start (record_bytes (version_of img) h name rule) at
      unfolding new_bytes
      new-record = record_made img s h name rule sound k ∙ rw not-zero

      wholly : length (record_bytes (version_of img) h name rule) ≡ 64
      wholly = length-made (version_of img) h name rule k.good.name-short (fits-short (version_of img) h.form rule k.good.formed)

      pub new_lies : (start_at new s ≡ at) × (body_at new s ≡ m)
      unfolding start_at body_at body_of new_body
      new_lies = (
        ap start_of new-record ∙ start-set (record_bytes (version_of img) h name rule) at wholly,
        rw (
          version_new,
          new-record,
          begun.kind-kept (record_bytes (version_of img) h name rule) at wholly,
          begun.size-kept (record_bytes (version_of img) h name rule) at wholly,
          kind-made (version_of img) h name rule,
          size-made (version_of img) h name rule,
        ),
      )

      pub new_ff : body_bytes new (filled img pool h) s ≡ replicate m 0xFF
      unfolding body_bytes
      new_ff = rw (new_lies.0, new_lies.1, pool_new)
          (new_reads (count_of img) (start_at ready) (body_at ready) moved laid-moved at m room)

  -- CREATE leaves every body of another file as it was, and a bodiless file leaves the pool
  create-reads : (s : ℕ) (h : Head) (name rule : List ℕ) → Creates img s h name rule → (t : ℕ) → t < count_of img → (t ≡ s → ⊥)
      → body_bytes (made img s h name rule) (filled img pool h) t ≡ body_bytes img pool t
  create-reads s h name rule k t l z = go (same_or (new_body (version_of img) h) 0)
    where
      none : new_body (version_of img) h ≡ 0 → rec_at (made img s h name rule) t ≡ rec_at img t
      none e = other-made img s h name rule sound k t l z ∙ (unfold other_record in rw (eq-eqb (new_body (version_of img) h) 0 e))

      go : (new_body (version_of img) h ≡ 0) ⊎ (new_body (version_of img) h ≡ 0 → ⊥)
          → body_bytes (made img s h name rule) (filled img pool h) t ≡ body_bytes img pool t
      go (inl e) =
          let i = by_record (made img s h name rule) t (version_new s h name rule k)
          (record { start = ap start_of (none e); body = ap (body_of (version_of img)) (none e) }) in
          same_bytes img (made img s h name rule) (filled img pool h) t i.0 i.1
          ∙ ap (λ (q : List ℕ). body_bytes img q t) (unfold filled in rw (eq-eqb (new_body (version_of img) h) 0 e))
      go (inr y) = other-reads s h name rule k (positive y) t l z
        where
          positive : (new_body (version_of img) h ≡ 0 → ⊥) → 0 < new_body (version_of img) h
          positive f = ⊎_elim (λ x. x) (λ x. absurd (f (omega arith))) (lt-or 0 (new_body (version_of img) h))

  -- the file in slot s is the one that the verdict updates
  abbrev pub Updates : Verdict → ℕ → Type 0
  Updates (Err w) s = ⊥
  Updates (Ok (Select d e w)) s = ⊥
  Updates (Ok (Create x)) s = ⊥
  Updates (Ok (Delete x)) s = ⊥
  Updates (Ok (SetLife x life)) s = ⊥
  Updates (Ok (Read at n)) s = ⊥
  Updates (Ok (Update at)) s = current_ef_of img ≡ s

  -- under one verdict: a file that lives on and is not updated reads the same
  pub verdict_reads : (v : Verdict) → Tells img c v → (s : ℕ) → s < count_of img → (kind_of (rec_at img s) ≡ 0 → ⊥)
      → (kind_of (rec_at (applied_of img c v) s) ≡ 0 → ⊥) → (Updates v s → ⊥)
      → body_bytes (applied_of img c v) (pooled_of img pool c v) s ≡ body_bytes img pool s
  verdict_reads (Err w) t s l used lives other = refl
  verdict_reads (Ok (Read at n)) t s l used lives other = refl
  verdict_reads (Ok (Select d e w)) t s l used lives other =
      let r = records-after img c sound (Ok (Select d e w)) t s l in
      let i = by_record (applied_of img c (Ok (Select d e w))) s (same_version img _ (front_after img c sound (Ok (Select d e w)) t))
      (record { start = ap start_of r; body = ap (body_of (version_of img)) r }) in
      same_bytes img (applied_of img c (Ok (Select d e w))) pool s i.0 i.1
  verdict_reads (Ok (SetLife x life)) t s l used lives other =
      let r = records-after img c sound (Ok (SetLife x life)) t s l in
      let i = by_record (applied_of img c (Ok (SetLife x life))) s (same_version img _ (front_after img c sound (Ok (SetLife x life)) t))
      (rw r (lived s life x l)) in
      same_bytes img (applied_of img c (Ok (SetLife x life))) pool s i.0 i.1
  verdict_reads (Ok (Delete x)) t s l used lives other = go (at_or_beneath (view_at img) x s) refl
    where
      r : rec_at (applied_of img c (Ok (Delete x))) s ≡ record_after img c (Ok (Delete x)) s
      r = records-after img c sound (Ok (Delete x)) t s l

      go : (b : Bool) → at_or_beneath (view_at img) x s ≡ b
          → body_bytes (applied_of img c (Ok (Delete x))) (pooled_of img pool c (Ok (Delete x))) s ≡ body_bytes img pool s
      go true e = absurd (lives (ap kind_of (r ∙ rw e) ∙ free-kind))
      go false e =
          let same : rec_at (applied_of img c (Ok (Delete x))) s ≡ rec_at img s = r ∙ rw e in
          let i = by_record (applied_of img c (Ok (Delete x))) s (same_version img _ (front_after img c sound (Ok (Delete x)) t))
          (record { start = ap start_of same; body = ap (body_of (version_of img)) same }) in
          same_bytes img (applied_of img c (Ok (Delete x))) (pooled_of img pool c (Ok (Delete x))) s i.0 i.1
          ∙ (unfold body_bytes wiped in
          wiped-reads (count_of img) (start_at img) (body_at img) pool laid (at_or_beneath (view_at img) x) s l e)
  verdict_reads (Ok (Create x)) t s l used lives other =
      create-reads x.slot x.head _ _ t.1 s l
      (λ e. used (ap (λ (i : ℕ). kind_of (rec_at img i)) e ∙ slot-free img x.slot x.head _ _ sound t.1))
  verdict_reads (Ok (Update at)) t s l used lives other =
      unfold body_bytes in
      rw t.1.here
      (other_updated (count_of img) (start_at img) (body_at img) pool laid (current_ef_of img) (place_of c) (sent_data c)
      (sound.current.ef-low t.1.some) t.1.within s l (λ e. other (sym e)))

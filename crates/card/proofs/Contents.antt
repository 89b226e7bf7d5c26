-- What bodies hold after a call (specs/Bodies, 02 Ticket 4), by what the verdict that stands does to them (proofs/Bodies).
use mathlib.Core.Path.{◌≡◌, refl, sym, ap, ◌∙◌}
use mathlib.Core.Bool.{Bool, true, false, ◌||◌, false≢true}
use mathlib.Core.List.{List, [], ◌∷◌}
use mathlib.Core.Logic.{inl, ⊎_elim}
use Prim.Native.Nat.{ℕ, ◌<◌}
use native.Mathlib.Omega.{arith}
use lib.Dec.{eqb}
use lib.ListN.{length, replicate}
use borrow.Author.Tests.{eq-eqb, eqb-true}
use Rattle.std.specs.Prelude.{Ok, Err}
use Rattle.laws.specs.Lists.{part, splice}
use Rattle.laws.proofs.Says.{or-says}
use Rattle.laws.proofs.Splices.{part-part}
use Rattle.rules.specs.Descriptor.{ef}
use Rattle.image.specs.declared.Head.{Head}
use Rattle.image.specs.Layout.{has_bodies, version_of, count_of, current_ef_of, rec_at, kind_of, size_of, record_bytes}
use Rattle.image.proofs.Made.{length-made, kind-made, size-made}
use Rattle.image.proofs.Starts.{kind-kept, size-kept}
use Rattle.access.proofs.Fits.{fits-short}
use Rattle.pool.specs.Bodies.{start_at, body_at, body_bytes}
use Rattle.pool.proofs.Updates.{body_updated}
use Rattle.sound.specs.Table.{view_at}
use Rattle.sound.specs.Kinship.{free_slot}
use Rattle.sound.specs.Sound.{Sound, soundb}
use Rattle.sound.specs.Effects.{Creates, new_body, made, new_bytes}
use Rattle.sound.proofs.Says.{sound-says}
use Rattle.sound.proofs.Made.{record_made}
use Rattle.template.specs.Objects.{bytes_at}
use Rattle.verdict.specs.declared.State.{State}
use Rattle.verdict.specs.declared.Effect.TheVariants.{Select, Create, Delete, SetLife, Read, Update}
use Rattle.verdict.specs.Applied.{Verdict, sent_data, word_of, applied_of, pooled_of}
use Rattle.judge_target.specs.Target.{slot_in}
use Rattle.apdu.specs.Apdu.{instruction, is_body, is_binary, is_record, is_read, asked}
use Rattle.effect.specs.Told.{told}
use Rattle.card.specs.Touching.{place_of}
use Rattle.card.specs.Command.{pool_fits, PoolFits, due_of, image_of, pool_of}
use Rattle.card.specs.Obeyed.{is_one_of}
use Rattle.card.specs.Bodies.{Updating, ReadsSame, UpdatedThere, NewBodyFF, ReadsBody}
use Rattle.card.proofs.Steps.{cond_by}
use Rattle.card.proofs.Tells.{Tells, lies}
use Rattle.card.proofs.Ordered.{Ordered}
use Rattle.card.proofs.Speaks.{Spoken}
use Rattle.card.proofs.Due.{pool-says, due_tells, due_speaks, due_ordered, due_wrong}
use Rattle.card.proofs.Answered.{image_is, pool_is, word_is, response_is, damaged-left, damaged-kept}
use Rattle.card.proofs.Bodies.{Updates, verdict_reads, new_ff}

-- the new record has the kind and the size of its head
module _ (img : List ℕ) (s : ℕ) (h : Head) (name rule : List ℕ) (sound : Sound img) (k : Creates img s h name rule) where
  long_new : length (record_bytes (version_of img) h name rule) ≡ 64
  long_new = length-made (version_of img) h name rule k.good.name-short (fits-short (version_of img) h.form rule k.good.formed)

  new_kind : kind_of (rec_at (made img s h name rule) s) ≡ h.kind
  new_kind = ap kind_of (record_made img s h name rule sound k) ∙ (unfold new_bytes in
      cond_by (λ (r : List ℕ). kind_of r ≡ h.kind) (eqb (new_body (version_of img) h) 0) _ _ (λ q. kind-made (version_of img) h name rule)
      (λ q. kind-kept (record_bytes (version_of img) h name rule) _ long_new ∙ kind-made (version_of img) h name rule))

  new-size : size_of (rec_at (made img s h name rule) s) ≡ h.size
  new-size = ap size_of (record_made img s h name rule sound k) ∙ (unfold new_bytes in
      cond_by (λ (r : List ℕ). size_of r ≡ h.size) (eqb (new_body (version_of img) h) 0) _ _ (λ q. size-made (version_of img) h name rule)
      (λ q. size-kept (record_bytes (version_of img) h name rule) _ long_new ∙ size-made (version_of img) h name rule))

-- an UPDATE answered 9000 is a verdict that updates, and the other way round
update-instruction : (c : List ℕ) → is_body (instruction c) ≡ true → is_read (instruction c) ≡ false
    → is_one_of (instruction c) (0xD6 ∷ 0xDC ∷ []) ≡ true
unfolding is_body is_binary is_record is_read
update-instruction c b r = go (eqb (instruction c) 0xB0) (eqb (instruction c) 0xD6) (eqb (instruction c) 0xB2) (eqb (instruction c) 0xDC) b r
  where
    go : (w x y z : Bool) → ((w || x) || (y || z)) ≡ true → (w || y) ≡ false → (x || (z || false)) ≡ true
    go w true y z p q = refl
    go true false y z p q = absurd (false≢true (sym q))
    go false false true z p q = absurd (false≢true (sym q))
    go false false false true p q = refl
    go false false false false p q = p

module _ (img pool c : List ℕ) (st : State) (lent : ℕ) (sound : Sound img) (fit : PoolFits img pool) where
  updates_call : (v : Verdict) (s : ℕ) → due_of img pool c st lent ≡ v → Ordered img c v → Updates img pool c sound fit v s
      → Updating img pool c st lent s
  updates_call (Err w) s e o u = absurd u
  updates_call (Ok (Select d f w)) s e o u = absurd u
  updates_call (Ok (Create x)) s e o u = absurd u
  updates_call (Ok (Delete x)) s e o u = absurd u
  updates_call (Ok (SetLife x life)) s e o u = absurd u
  updates_call (Ok (Read at n)) s e o u = absurd u
  updates_call (Ok (Update at)) s e o u = record {
    update = update-instruction c o.0 o.1;
    answered = word_is img pool c st lent sound ∙ ap word_of e;
    current = u;
  }

pub reads_same : ReadsSame
reads_same img pool c st lent s l used lives other = go (soundb img) (pool_fits img pool) refl refl
  where
    go : (a b : Bool) → soundb img ≡ a → pool_fits img pool ≡ b
        → body_bytes (image_of img pool c st lent) (pool_of img pool c st lent) s ≡ body_bytes img pool s
    go false b q p = rw (damaged-left img pool c st lent q, damaged-kept img pool c st lent q)
    go true false q p =
        let sound = (sound-says img).0 q in
        rw (image_is img pool c st lent sound, pool_is img pool c st lent sound, due_wrong img pool c st lent p)
    go true true q p =
        let sound = (sound-says img).0 q in
        let fit = (pool-says img pool).0 p in
        rw (image_is img pool c st lent sound, pool_is img pool c st lent sound)
        (verdict_reads img pool c sound fit (due_of img pool c st lent) (due_tells img pool c st lent sound) s l used
        (rw (image_is img pool c st lent sound) at lives)
        (λ u. other (updates_call img pool c st lent sound fit (due_of img pool c st lent) s refl (due_ordered img pool c st lent) u)))

-- an UPDATE answered 9000
module _ (img pool c : List ℕ) (sound : Sound img) (fit : PoolFits img pool) (s : ℕ) (update : is_one_of (instruction c) (0xD6 ∷ 0xDC ∷ []) ≡ true)
    (current : current_ef_of img ≡ s) where
  -- an UPDATE is none of the others
  no_other : (i : ℕ) → is_one_of i (0xD6 ∷ 0xDC ∷ []) ≡ false → instruction c ≡ i → ⊥
  no_other i z e = false≢true (sym z ∙ rw e at update)

  no_read : is_read (instruction c) ≡ true → ⊥
  unfolding is_read
  no_read r = ⊎_elim (λ e. no_other 0xB0 refl (eqb-true _ _ e)) (λ e. no_other 0xB2 refl (eqb-true _ _ e)) ((or-says _ _).0 r)

  is_body_lem : is_body (instruction c) ≡ true
  unfolding is_body is_binary is_record
  is_body_lem = go (eqb (instruction c) 0xB0) (eqb (instruction c) 0xD6) (eqb (instruction c) 0xB2) (eqb (instruction c) 0xDC) update
    where
      go : (w x y z : Bool) → (x || (z || false)) ≡ true → ((w || x) || (y || z)) ≡ true
      go true x y z p = refl
      go false true y z p = refl
      go false false true z p = refl
      go false false false true p = refl
      go false false false false p = p

  updated : (v : Verdict) → Tells img c v → Ordered img c v → Spoken v → word_of v ≡ 0x9000
      → body_bytes (applied_of img c v) (pooled_of img pool c v) s ≡ splice (body_bytes img pool s) (place_of c) (sent_data c)
  updated (Err w) t o p e = absurd (p (inl e))
  updated (Ok (Select d f w)) t o p e = absurd (no_other 0xA4 refl o)
  updated (Ok (Create x)) t o p e = absurd (no_other 0xE0 refl o.0)
  updated (Ok (Delete x)) t o p e = absurd (no_other 0xE4 refl o.0)
  updated (Ok (SetLife x life)) t o p e = absurd (false≢true (sym o.3 ∙ is_body_lem))
  updated (Ok (Read at m)) t o p e = absurd (no_read o.1)
  updated (Ok (Update at)) t o p e =
      unfold body_bytes in
      rw (← current, t.1.here)
      (body_updated (count_of img) (start_at img) (body_at img) pool (lies img pool sound fit) (current_ef_of img) (place_of c) (sent_data c)
      (sound.current.ef-low t.1.some) t.1.within)

pub updated_there : UpdatedThere
updated_there img pool c st lent s sound fit u =
    rw (image_is img pool c st lent sound, pool_is img pool c st lent sound)
    (updated img pool c sound fit s u.update u.current (due_of img pool c st lent) (due_tells img pool c st lent sound)
    (due_ordered img pool c st lent) (due_speaks img pool c st lent) (sym (word_is img pool c st lent sound) ∙ u.answered))

-- a CREATE answered 9000
module _ (img pool c : List ℕ) (sound : Sound img) (fit : PoolFits img pool) (has : has_bodies (version_of img) ≡ true)
    (create : instruction c ≡ 0xE0) where
  -- CREATE is no command on a body
  no_body : is_body (instruction c) ≡ false
  unfolding is_body is_binary is_record
  no_body = rw create

  filled_new : (v : Verdict) → Tells img c v → Ordered img c v → Spoken v → word_of v ≡ 0x9000
      → let s : ℕ = slot_in (free_slot (count_of img) (view_at img)) in
      kind_of (rec_at (applied_of img c v) s) ≡ ef
      → body_bytes (applied_of img c v) (pooled_of img pool c v) s ≡ replicate (size_of (rec_at (applied_of img c v) s)) 0xFF
  filled_new (Err w) t o p e k = absurd (p (inl e))
  filled_new (Ok (Select d f w)) t o p e k = absurd (omega (arith, create, o))
  filled_new (Ok (Delete x)) t o p e k = absurd (omega (arith, create, o.0))
  filled_new (Ok (SetLife x life)) t o p e k = absurd (o.0 create)
  filled_new (Ok (Read at n)) t o p e k = absurd (false≢true (sym no_body ∙ o.0))
  filled_new (Ok (Update at)) t o p e k = absurd (false≢true (sym no_body ∙ o.0))
  filled_new (Ok (Create x)) t o p e k =
      rw (← o.1) (new_ff img pool c sound fit x.slot x.head _ _ t.1 some
      ∙ ap (λ (n : ℕ). replicate n 0xFF) (sym size_new))
    where
      head-kind : kind_of (rec_at (made img x.slot x.head (bytes_at (sent_data c) x.name) (bytes_at (sent_data c) x.rule)) x.slot) ≡ x.head.kind
      head-kind = new_kind img x.slot x.head _ _ sound t.1

      is-ef : x.head.kind ≡ ef
      is-ef = sym head-kind ∙ (rw (← o.1) at k)

      some : 0 < new_body (version_of img) x.head
      some = unfold new_body in rw (has, eq-eqb _ _ is-ef) t.1.good.size

      size_new : size_of (rec_at (made img x.slot x.head (bytes_at (sent_data c) x.name) (bytes_at (sent_data c) x.rule)) x.slot)
          ≡ new_body (version_of img) x.head
      size_new = new-size img x.slot x.head _ _ sound t.1 ∙ (unfold new_body in sym (rw (has, eq-eqb _ _ is-ef)))

pub new_body_ff : NewBodyFF
new_body_ff img pool c st lent sound fit has create answered k =
    rw (image_is img pool c st lent sound, pool_is img pool c st lent sound)
    (filled_new img pool c sound fit has create (due_of img pool c st lent) (due_tells img pool c st lent sound)
    (due_ordered img pool c st lent) (due_speaks img pool c st lent) (sym (word_is img pool c st lent sound) ∙ answered)
    (rw (image_is img pool c st lent sound) at k))

-- a READ answered 9000
module _ (img pool c : List ℕ) (sound : Sound img) (fit : PoolFits img pool) (read : is_one_of (instruction c) (0xB0 ∷ 0xB2 ∷ []) ≡ true) where
  read_only : (i : ℕ) → is_one_of i (0xB0 ∷ 0xB2 ∷ []) ≡ false → instruction c ≡ i → ⊥
  read_only i z e = false≢true (sym z ∙ rw e at read)

  -- it reads, and is a command on a body
  does_read : (is_read (instruction c) ≡ true) × (is_body (instruction c) ≡ true)
  unfolding is_read is_body is_binary is_record
  does_read = go (eqb (instruction c) 0xB0) (eqb (instruction c) 0xD6) (eqb (instruction c) 0xB2) (eqb (instruction c) 0xDC) read
    where
      go : (w x y z : Bool) → (w || (y || false)) ≡ true → ((w || y) ≡ true) × (((w || x) || (y || z)) ≡ true)
      go true x y z p = (refl, refl)
      go false true true z p = (refl, refl)
      go false false true z p = (refl, refl)
      go false x false z p = absurd (false≢true p)

  tells_body : (v : Verdict) → Tells img c v → Ordered img c v → Spoken v → word_of v ≡ 0x9000
      → told img pool c v ≡ part (body_bytes img pool (current_ef_of img)) (place_of c) (asked c)
  tells_body (Err w) t o p e = absurd (p (inl e))
  tells_body (Ok (Select d f w)) t o p e = absurd (read_only 0xA4 refl o)
  tells_body (Ok (Create x)) t o p e = absurd (read_only 0xE0 refl o.0)
  tells_body (Ok (Delete x)) t o p e = absurd (read_only 0xE4 refl o.0)
  tells_body (Ok (SetLife x life)) t o p e = absurd (false≢true (sym o.3 ∙ does_read.1))
  tells_body (Ok (Update at)) t o p e = absurd (false≢true (sym o.1 ∙ does_read.0))
  tells_body (Ok (Read at n)) t o p e =
      let inside = (lies img pool sound fit).inside (current_ef_of img) (sound.current.ef-low t.0.some) t.0.body in
      rw (t.0.here, t.1)
      (unfold body_bytes in sym (part-part pool (start_at img (current_ef_of img)) (body_at img (current_ef_of img)) (place_of c) (asked c) inside
      (rw t.1 at t.0.within)))

pub reads-body : ReadsBody
reads-body img pool c st response sound fit read answered =
    response_is img pool c st response sound
    ∙ ap (splice response 0) (tells_body img pool c sound fit read (due_of img pool c st (length response))
    (due_tells img pool c st (length response) sound) (due_ordered img pool c st (length response)) (due_speaks img pool c st (length response))
    (sym (word_is img pool c st (length response) sound) ∙ answered))

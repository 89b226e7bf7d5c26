-- CREATE keeps an image sound, with its body: `sound-made`, from exactly what CREATE checks (02 Ticket 4). And what it leaves of the rest.
use mathlib.Core.Path.{◌≡◌, sym, ap, ◌∙◌}
use mathlib.Core.List.{List, ◌++◌}
use mathlib.Core.Bool.{true, cond}
use mathlib.Core.Logic.{◌⊎◌, inl, inr, ⊎_elim}
use Prim.Native.Nat.{ℕ, ◌+◌, ◌<◌, ◌≤◌}
use native.Mathlib.Omega.{arith}
use lib.Dec.{eqb}
use lib.ListN.{length, get_or, replicate, length-replicate}
use borrow.Author.Tests.{eq-eqb, ne_eqb}
use Rattle.laws.specs.Walks.{sum_below}
use Rattle.laws.proofs.Says.{same_or, lt-or}
use Rattle.numbers.specs.Numbers.{be16}
use Rattle.rules.specs.Descriptor.{df}
use Rattle.image.specs.declared.Head.{Head}
use Rattle.image.specs.Layout.{Within, version_of, count_of, current_df_of, current_ef_of, rec_at, start_of}
use Rattle.image.specs.Layout.{none, record_bytes, with_start, set_start}
use Rattle.image.proofs.Made.{kind-made, size-made}
use Rattle.image.proofs.Places.{length_record}
use Rattle.image.proofs.Headers.{SameFront, front_trans, SameHeader, header-start, same_front, same_version, same_count, same-df, same-ef}
use Rattle.image.proofs.Starts.{kind-kept, size-kept, start-set, start-same, start-other}
use Rattle.pool.specs.Bodies.{body_of, start_at, body_at}
use Rattle.pool.specs.Laid.{Laid}
use Rattle.pool.specs.Gaps.{fits, lowest_gap}
use Rattle.pool.specs.Places.{gap_for, place_at, place_image}
use Rattle.pool.proofs.Making.{place-room, place-free, laid_added}
use Rattle.sound.specs.Table.{View, view_at, view_of}
use Rattle.sound.specs.Sound.{Sound, pool_length}
use Rattle.sound.specs.Effects.{Creates, created, new_body, new_gap, made, new_bytes, other_record}
use Rattle.sound.proofs.Front.{Files, files-sound, body_same, header-within, sound-sized}
use Rattle.sound.proofs.Created.{files-created, slot-low, count-created, version-created, created-here, created-other}
use Rattle.sound.proofs.Created.{front_created, df-created, ef-created, byte_created}
use Rattle.sound.proofs.Started.{Again, stays, moved, Restarted, files_restarted}
use Rattle.sound.proofs.MovedDown.{body-made, Cleared, cleared, kept_record_lem}
use Rattle.sound.proofs.Fitting.{not_root, body-fits, sound_bodiless}

-- where it has one: bodies are moved down if need be, then the record and its start are written
module _ (img : List ℕ) (s : ℕ) (h : Head) (name rule : List ℕ) (sound : Sound img) (c : Creates img s h name rule)
    (some : 0 < new_body (version_of img) h) where
  abbrev m : ℕ
  m = new_body (version_of img) h

  abbrev ready : List ℕ
  ready = place_image (new_gap img h) (count_of img) img

  k : Cleared img ready
  k = cleared img sound (new_gap img h)

  pub count_ready : count_of ready ≡ count_of img
  count_ready = same_count img ready (same_front img ready k.header)

  pub version_ready : version_of ready ≡ version_of img
  version_ready = same_version img ready (same_front img ready k.header)

  df_ready : current_df_of ready ≡ current_df_of img
  df_ready = same-df img ready k.header

  pub creates_ready : Creates ready s h name rule
  creates_ready = record {
    good = rw version_ready c.good;
    parent = c.parent ∙ sym df_ready;
    level = c.level ∙ sym (ap (λ (t : ℕ → View). (t (current_df_of ready)).level + 1) k.table ∙ ap (λ (d : ℕ). (view_at img d).level + 1) df_ready);
    identifier = rw (count_ready, df_ready, k.table) c.identifier;
    name_is_free = rw (count_ready, k.table) c.name_is_free;
    room = rw (count_ready, df_ready, k.table) c.room;
    slot = rw (count_ready, k.table) c.slot;
  }

  entered : List ℕ
  entered = created ready s h name rule

  files-entered : Files entered
  unfolding entered
  files-entered = files-created ready s h name rule k.sound creates_ready

  count-entered : count_of entered ≡ count_of img
  unfolding entered
  count-entered = count-created ready s h name rule k.sound creates_ready ∙ count_ready

  version-entered : version_of entered ≡ version_of img
  unfolding entered
  version-entered = version-created ready s h name rule k.sound creates_ready ∙ version_ready

  low : s < count_of img
  low = slot-low img s h name rule sound c

  within : Within entered s
  within = header-within entered files-entered.header s (rw count-entered low)

  abbrev at : ℕ
  at = place_at (new_gap img h) (count_of img) img

  fin : List ℕ
  fin = set_start (created (place_image (new_gap img h) (count_of img) img) s h name rule) s (place_at (new_gap img h) (count_of img) img)

  entered_here : rec_at entered s ≡ record_bytes (version_of img) h name rule
  unfolding entered
  entered_here = created-here ready s h name rule k.sound creates_ready ∙ ap (λ (v : ℕ). record_bytes v h name rule) version_ready

  entered-other : (t : ℕ) → t < count_of img → (t ≡ s → ⊥) → rec_at entered t ≡ rec_at ready t
  unfolding entered
  entered-other t l z = created-other ready s h name rule k.sound creates_ready t (rw count_ready l) z

  fin_here : rec_at fin s ≡ with_start (record_bytes (version_of img) h name rule) at
  unfolding fin entered
  fin_here = start-same entered s at within ∙ ap (λ (r : List ℕ). with_start r at) entered_here

  fin_other : (t : ℕ) → t < count_of img → (t ≡ s → ⊥) → rec_at fin t ≡ rec_at ready t
  unfolding fin entered
  fin_other t l z =
      start-other entered s at within t (header-within entered files-entered.header t (rw count-entered l)) z ∙ entered-other t l z

  whole : length (record_bytes (version_of img) h name rule) ≡ 64
  whole = ap length (sym entered_here) ∙ length_record entered s within.0

  header_fin : SameHeader entered fin
  unfolding fin entered
  header_fin = header-start entered s at within

  restarted : Restarted entered fin
  restarted = record { header = header_fin; records = λ t l. go t (rw count-entered at l) (same_or t s) }
    where
      go : (t : ℕ) → t < count_of img → (t ≡ s) ⊎ (t ≡ s → ⊥) → Again (version_of entered) (rec_at entered t) (rec_at fin t)
      go t l (inl e) =
          rw (e, version-entered, entered_here)
          (moved (rw (body-made (version_of img) h name rule) some) at fin_here)
      go t l (inr z) = stays (fin_other t l z ∙ sym (entered-other t l z))

  files_fin : Files fin
  files_fin = files_restarted entered fin files-entered restarted

  count_fin : count_of fin ≡ count_of img
  count_fin = same_count entered fin (same_front entered fin header_fin) ∙ count-entered

  version_fin : version_of fin ≡ version_of img
  version_fin = same_version entered fin (same_front entered fin header_fin) ∙ version-entered

  start_fin : start_at fin s ≡ at
  unfolding start_at
  start_fin = ap start_of fin_here ∙ start-set (record_bytes (version_of img) h name rule) at whole

  body_fin : body_at fin s ≡ m
  unfolding body_at body_of new_body
  body_fin =
      rw (
        version_fin,
        fin_here,
        kind-kept (record_bytes (version_of img) h name rule) at whole,
        size-kept (record_bytes (version_of img) h name rule) at whole,
        kind-made (version_of img) h name rule,
        size-made (version_of img) h name rule,
      )

  long_fin : pool_length fin ≡ pool_length img
  long_fin =
      ap (λ (x : View). x.size) (ap view_of (fin_other 0 (omega (arith, sound.header.least)) (not_root img s h name rule sound c)))
      ∙ ap (λ (t : ℕ → View). (t 0).size) k.table

  other_fin : (t : ℕ) → t < count_of img → (t ≡ s → ⊥) → (start_at ready t ≡ start_at fin t) × (body_at ready t ≡ body_at fin t)
  other_fin t l z = body_same ready fin t (version_fin ∙ sym version_ready) (fin_other t l z)

  pool : List ℕ
  pool = replicate (pool_length img) 0

  pool-long : length pool ≡ pool_length img
  unfolding pool
  pool-long = length-replicate {A = ℕ} (pool_length img) 0

  gap_is : new_gap img h ≡ lowest_gap (count_of img) (start_at img) (body_at img) (length pool) m
  unfolding new_gap gap_for
  gap_is = ap (λ (x : ℕ). lowest_gap (count_of img) (start_at img) (body_at img) x (new_body (version_of img) h)) (sym pool-long)

  old_laid : Laid (count_of img) (start_at img) (body_at img) (length pool)
  old_laid = rw pool-long sound.bodies

  old_room : sum_below (count_of img) (body_at img) + m ≤ length pool
  old_room = rw pool-long (body-fits img s h name rule sound c)

  -- the place of the new body is in the pool, and in no other body
  pub place_inside : at + m ≤ pool_length img
  place_inside = rw pool-long at (place-room (count_of img) m img pool (sound-sized img sound) old_laid old_room (new_gap img h) gap_is)

  pub place-clear : fits (count_of img) (start_at ready) (body_at ready) m at ≡ true
  place-clear = place-free (count_of img) m img pool (sound-sized img sound) old_laid old_room (new_gap img h) gap_is

  laid_fin : Laid (count_of img) (start_at fin) (body_at fin) (pool_length img)
  laid_fin =
      laid_added (count_of img) (start_at ready) (body_at ready) (start_at fin) (body_at fin) (pool_length img)
      (rw (count_ready, ap (λ (t : ℕ → View). (t 0).size) k.table) at k.sound.bodies) s at m place-clear place_inside start_fin body_fin
      (λ t l z x. other_fin t l z)

  sound_bodied : Sound fin
  sound_bodied = files-sound fin files_fin (rw (count_fin, long_fin) laid_fin)

  front_fin : SameFront img fin
  unfolding entered
  front_fin =
      front_trans img ready fin (same_front img ready k.header)
      (front_trans ready entered fin (front_created ready s h name rule k.sound creates_ready) (same_front entered fin header_fin))

  df_fin : current_df_of fin ≡ cond (eqb h.kind df) s (current_df_of img)
  unfolding entered
  df_fin =
      same-df entered fin header_fin ∙ df-created ready s h name rule k.sound creates_ready
      ∙ ap (λ (d : ℕ). cond (eqb h.kind df) s d) df_ready

  ef_fin : current_ef_of fin ≡ cond (eqb h.kind df) none s
  unfolding entered
  ef_fin = same-ef entered fin header_fin ∙ ef-created ready s h name rule k.sound creates_ready

  byte_fin : (j : ℕ) → j < 4 → get_or fin (7 + j) 0
      ≡ get_or (be16 (cond (eqb h.kind df) s (current_df_of img)) ++ be16 (cond (eqb h.kind df) none s)) j 0
  unfolding entered
  byte_fin j l =
      header_fin.bytes (7 + j) (omega arith) ∙ byte_created ready s h name rule k.sound creates_ready j l
      ∙ ap (λ (d : ℕ). get_or (be16 (cond (eqb h.kind df) s d) ++ be16 (cond (eqb h.kind df) none s)) j 0) df_ready

-- CREATE, whatever the new file is
module _ (img : List ℕ) (s : ℕ) (h : Head) (name rule : List ℕ) (sound : Sound img) (c : Creates img s h name rule) where
  body-or : (new_body (version_of img) h ≡ 0) ⊎ (new_body (version_of img) h ≡ 0 → ⊥)
  body-or = same_or (new_body (version_of img) h) 0

  has : (new_body (version_of img) h ≡ 0 → ⊥) → 0 < new_body (version_of img) h
  has z = ⊎_elim (λ x. x) (λ x. absurd (z (omega arith))) (lt-or 0 (new_body (version_of img) h))

  -- by cases on whether it has a body
  either_way : (P : List ℕ → Type 0) → (new_body (version_of img) h ≡ 0 → P (created img s h name rule))
      → ((some : 0 < new_body (version_of img) h) → P (fin img s h name rule sound c some)) → P (made img s h name rule)
  unfolding made fin
  either_way P f g = ⊎_elim (λ e. rw (eq-eqb (new_body (version_of img) h) 0 e) (f e))
      (λ z. rw (ne_eqb (new_body (version_of img) h) 0 z) (g (has z))) body-or

  pub sound-made : Sound (made img s h name rule)
  sound-made =
      either_way Sound (λ e. sound_bodiless img s h name rule sound c e) (λ x. sound_bodied img s h name rule sound c x)

  pub front_made : SameFront img (made img s h name rule)
  front_made =
      either_way (λ x. SameFront img x) (λ e. front_created img s h name rule sound c) (λ x. front_fin img s h name rule sound c x)

  pub df-made : current_df_of (made img s h name rule) ≡ cond (eqb h.kind df) s (current_df_of img)
  df-made =
      either_way (λ x. current_df_of x ≡ cond (eqb h.kind df) s (current_df_of img)) (λ e. df-created img s h name rule sound c)
      (λ x. df_fin img s h name rule sound c x)

  pub ef-made : current_ef_of (made img s h name rule) ≡ cond (eqb h.kind df) none s
  ef-made =
      either_way (λ x. current_ef_of x ≡ cond (eqb h.kind df) none s) (λ e. ef-created img s h name rule sound c)
      (λ x. ef_fin img s h name rule sound c x)

  pub byte_made : (j : ℕ) → j < 4 → get_or (made img s h name rule) (7 + j) 0
      ≡ get_or (be16 (cond (eqb h.kind df) s (current_df_of img)) ++ be16 (cond (eqb h.kind df) none s)) j 0
  byte_made j l =
      either_way (λ x. get_or x (7 + j) 0
      ≡ get_or (be16 (cond (eqb h.kind df) s (current_df_of img)) ++ be16 (cond (eqb h.kind df) none s)) j 0)
      (λ e. byte_created img s h name rule sound c j l) (λ x. byte_fin img s h name rule sound c x j l)

  pub record_made : rec_at (made img s h name rule) s ≡ new_bytes img h name rule
  unfolding new_bytes
  record_made = ⊎_elim (λ e. rw (eq-eqb (new_body (version_of img) h) 0 e) (unfold made in rw (eq-eqb (new_body (version_of img) h) 0 e) (created-here img s h name rule sound c)))
      (λ z. rw (ne_eqb (new_body (version_of img) h) 0 z) (unfold made fin in rw (ne_eqb (new_body (version_of img) h) 0 z) (fin_here img s h name rule sound c (has z)))) body-or

  pub other-made : (t : ℕ) → t < count_of img → (t ≡ s → ⊥) → rec_at (made img s h name rule) t ≡ other_record img h t
  unfolding other_record
  other-made t l z = ⊎_elim (λ e. rw (eq-eqb (new_body (version_of img) h) 0 e) (unfold made in rw (eq-eqb (new_body (version_of img) h) 0 e) (created-other img s h name rule sound c t l z)))
      (λ y. rw (ne_eqb (new_body (version_of img) h) 0 y) (unfold made fin in rw (ne_eqb (new_body (version_of img) h) 0 y)
      (fin_other img s h name rule sound c (has y) t l z ∙ kept_record_lem img sound (new_gap img h) t l))) body-or

-- Who writes which life-cycle byte (specs/Lives): by the verdict, which has its byte from the command, and by the record after it.
use mathlib.Core.Path.{◌≡◌, refl, sym, ap, ◌∙◌}
use mathlib.Core.Bool.{Bool, true, false, false≢true}
use mathlib.Core.List.{List}
use mathlib.Core.Logic.{◌⊎◌, inl, inr, ⊎_elim}
use Prim.Native.Nat.{ℕ, ◌<◌}
use native.Mathlib.Omega.{arith}
use lib.Dec.{eqb}
use lib.ListN.{length}
use borrow.Author.Tests.{eq-eqb}
use Rattle.std.specs.Prelude.{Ok, Err}
use Rattle.image.specs.declared.Head.{Head}
use Rattle.image.specs.Layout.{version_of, rec_at, record_bytes, life_cycle_of, count_of}
use Rattle.image.proofs.Lives.{life-set}
use Rattle.image.proofs.Made.{life-made, length-made}
use Rattle.image.proofs.Starts.{life-kept}
use Rattle.access.proofs.Fits.{fits-short}
use Rattle.image.proofs.Places.{length_record}
use Rattle.sound.specs.Table.{view_at}
use Rattle.sound.specs.Sound.{soundb}
use Rattle.sound.specs.Kinship.{free_slot, at_or_beneath}
use Rattle.sound.specs.Effects.{new_body, new_bytes}
use Rattle.sound.proofs.Says.{sound-says}
use Rattle.sound.proofs.Front.{sound-sized}
use Rattle.create_data.specs.declared.Data.{Data}
use Rattle.std.specs.Prelude.{Option, Some, None}
use Rattle.create_data.specs.declared.Data.TheVariants.{Df, Ef}
use Rattle.create_data.specs.Data.{data_of}
use Rattle.create_data.specs.Grammar.{DfData, EfData, DfRead, EfRead, first}
use Rattle.create_data.proofs.Grammar.{data_read}
use Rattle.verdict.specs.declared.State.{State}
use Rattle.verdict.specs.declared.Effect.TheVariants.{Select, Create, Delete, SetLife, Read, Update}
use Rattle.verdict.specs.Applied.{Verdict, sent_data, word_of}
use Rattle.judge_target.specs.Target.{life_at, slot_in}
use Rattle.apdu.specs.Apdu.{instruction, is_body, is_binary, is_record}
use Rattle.card.specs.Command.{due_of, image_of}
use Rattle.card.specs.After.{record_after}
use Rattle.card.specs.Lives.{LifeCommand, written_by, TransitionsWrite, OnlyCreated, KeptAsGiven}
use Rattle.card.proofs.Steps.{cond_by}
use Rattle.card.proofs.Tells.{Tells}
use Rattle.card.proofs.Speaks.{Spoken}
use Rattle.card.proofs.Ordered.{Ordered, sent_life}
use Rattle.card.proofs.Due.{due_tells, due_speaks, due_ordered}
use Rattle.card.proofs.Answered.{damaged-left, damaged-word, word_is}
use Rattle.card.proofs.Demands.{effect-and-no-other}

-- over a command i a life cycle stays, is the command's own, is erased by DELETE, or was sent by CREATE
abbrev pub Changes : ℕ → ℕ → ℕ → Type 0
Changes i before after = (after ≡ before) ⊎ ((after ≡ written_by i) ⊎ (((i ≡ 0xE4) × (after ≡ 0)) ⊎ (i ≡ 0xE0)))

-- under one verdict
verdict_changes : (img c : List ℕ) (s : ℕ) → length (rec_at img s) ≡ 64 → (v : Verdict) → Ordered img c v
    → Changes (instruction c) (life_at img s) (life_cycle_of (record_after img c v s))
unfolding life_cycle_of
verdict_changes img c s whole (Err w) o = inl refl
verdict_changes img c s whole (Ok (Select d e w)) o = inl refl
verdict_changes img c s whole (Ok (Create x)) o = inr (inr (inr o.0))
verdict_changes img c s whole (Ok (Delete x)) o =
    cond_by (λ (r : List ℕ). Changes (instruction c) (life_at img s) (life_cycle_of r)) (at_or_beneath (view_at img) x s) _ _
    (λ q. inr (inr (inl (o.0, refl)))) (λ q. inl refl)
verdict_changes img c s whole (Ok (SetLife x life)) o =
    cond_by (λ (r : List ℕ). Changes (instruction c) (life_at img s) (life_cycle_of r)) (eqb s x) _ _
    (λ q. inr (inl (life-set (rec_at img s) life whole ∙ o.1))) (λ q. inl refl)
verdict_changes img c s whole (Ok (Read at n)) o = inl refl
verdict_changes img c s whole (Ok (Update at)) o = inl refl

-- .. and under a call, whatever the image
changes : (img pool c : List ℕ) (st : State) (lent s : ℕ) → s < count_of img
    → Changes (instruction c) (life_at img s) (life_at (image_of img pool c st lent) s)
changes img pool c st lent s low = go (soundb img) refl
  where
    go : (b : Bool) → soundb img ≡ b → Changes (instruction c) (life_at img s) (life_at (image_of img pool c st lent) s)
    go true q =
        let sound = (sound-says img).0 q in
        rw ((effect-and-no-other img pool c st lent sound).records s low)
        (verdict_changes img c s (length_record img s (omega (arith, sound-sized img sound))) (due_of img pool c st lent)
        (due_ordered img pool c st lent))
    go false q = inl (ap (λ (x : List ℕ). life_at x s) (damaged-left img pool c st lent q))

-- a life-cycle command is none that isn't one, such as DELETE and CREATE
no_other : (i k : ℕ) → LifeCommand i → (LifeCommand k → ⊥) → i ≡ k → ⊥
no_other i k h z e = z (rw e at h)

pub transitions_write : TransitionsWrite
transitions_write img pool c st lent s low command = ⊎_elim inl
    (λ g. ⊎_elim inr
    (λ h. ⊎_elim (λ k. absurd (no_other _ 0xE4 command false≢true k.0)) (λ k. absurd (no_other _ 0xE0 command false≢true k)) h) g)
    (changes img pool c st lent s low)

-- what a command writes is neither 06 nor 07
Plain : ℕ → Type 0
Plain x = (x ≡ 0x06) ⊎ (x ≡ 0x07) → ⊥

written-plain : (i : ℕ) → Plain (written_by i)
unfolding Plain
written-plain i =
    cond_by Plain (eqb i 0x44) _ _ (λ q. ⊎_elim (λ h. omega arith) (λ h. omega arith))
    (λ q. cond_by Plain (eqb i 0x04) _ _ (λ q. ⊎_elim (λ h. omega arith) (λ h. omega arith))
    (λ q. ⊎_elim (λ h. omega arith) (λ h. omega arith)))

neither : (i x : ℕ) → x ≡ written_by i → (x ≡ 0x06) ⊎ (x ≡ 0x07) → ⊥
unfolding Plain
neither i x e h = written-plain i (rw e at h)

pub only-created : OnlyCreated
only-created img pool c st lent s low other h = ⊎_elim (λ e. e)
    (λ g. ⊎_elim (λ e. absurd (neither (instruction c) _ e h))
    (λ k. ⊎_elim (λ e. ⊎_elim (λ l. absurd (omega (arith, e.1, l))) (λ l. absurd (omega (arith, e.1, l))) h) (λ e. absurd (other e)) k) g)
    (changes img pool c st lent s low)

-- the life cycle that is read is the one in object 8A
read_df : (v : ℕ) (s : List ℕ) (t : DfData v s) (x : Option Data) → DfRead v s t x → sent_life x ≡ first t.life
read_df v s t None k = absurd k
read_df v s t (Some (Ef x)) k = absurd k
read_df v s t (Some (Df x)) k = k.2

read_ef : (v : ℕ) (s : List ℕ) (t : EfData v s) (x : Option Data) → EfRead v s t x → sent_life x ≡ first t.life
read_ef v s t None k = absurd k
read_ef v s t (Some (Df x)) k = absurd k
read_ef v s t (Some (Ef x)) k = k.2

-- the new record has the life cycle of its head
new_bytes-life : (img : List ℕ) (h : Head) (name rule : List ℕ) → length (record_bytes (version_of img) h name rule) ≡ 64
    → life_cycle_of (new_bytes img h name rule) ≡ h.life
unfolding new_bytes
new_bytes-life img h name rule whole =
    cond_by (λ (r : List ℕ). life_cycle_of r ≡ h.life) (eqb (new_body (version_of img) h) 0) _ _ (λ q. life-made (version_of img) h name rule)
    (λ q. life-kept (record_bytes (version_of img) h name rule) _ whole ∙ life-made (version_of img) h name rule)

-- a CREATE that was carried out: the record in the new slot has the life cycle that was read
new-life : (img c left : List ℕ) (v : Verdict) → instruction c ≡ 0xE0 → word_of v ≡ 0x9000 → Spoken v → Ordered img c v → Tells img c v
    → ((t : ℕ) → t < count_of img → rec_at left t ≡ record_after img c v t)
    → life_at left (slot_in (free_slot (count_of img) (view_at img))) ≡ sent_life (data_of (version_of img) (sent_data c))
new-life img c left (Err w) e done spoken o k r = absurd (spoken (inl done))
new-life img c left (Ok (Select d f w)) e done spoken o k r = absurd (omega (arith, e, o))
new-life img c left (Ok (Create x)) e done spoken o k r =
    ap (λ (t : ℕ). life_at left t) (sym o.1)
    ∙ ap life_cycle_of (rw (eq-eqb x.slot x.slot refl) at (r x.slot k.0.low))
    ∙ new_bytes-life img x.head _ _ (length-made (version_of img) x.head _ _ k.1.good.name-short (fits-short _ _ _ k.1.good.formed))
    ∙ o.2
new-life img c left (Ok (Delete x)) e done spoken o k r = absurd (omega (arith, e, o.0))
new-life img c left (Ok (SetLife x life)) e done spoken o k r = absurd (o.0 e)
new-life img c left (Ok (Read at n)) e done spoken o k r = absurd (false≢true (unfold is_body is_binary is_record in (rw e at o.0)))
new-life img c left (Ok (Update at)) e done spoken o k r = absurd (false≢true (unfold is_body is_binary is_record in (rw e at o.0)))

pub kept_as_given : KeptAsGiven
kept_as_given img pool c st lent e done = go (soundb img) refl
  where
    go : (b : Bool) → soundb img ≡ b
        → ((t : DfData (version_of img) (sent_data c))
        → life_at (image_of img pool c st lent) (slot_in (free_slot (count_of img) (view_at img))) ≡ first t.life)
        × ((t : EfData (version_of img) (sent_data c))
        → life_at (image_of img pool c st lent) (slot_in (free_slot (count_of img) (view_at img))) ≡ first t.life)
    go true q =
        let sound = (sound-says img).0 q in
        let life =
        new-life img c (image_of img pool c st lent) (due_of img pool c st lent) e (sym (word_is img pool c st lent sound) ∙ done)
        (due_speaks img pool c st lent) (due_ordered img pool c st lent) (due_tells img pool c st lent sound)
        (effect-and-no-other img pool c st lent sound).records
        in
        let read = data_read (version_of img) (sent_data c) in
        let new = data_of (version_of img) (sent_data c) in (
          (λ t. life ∙ read_df (version_of img) (sent_data c) t new (read.0 t)),
          (λ t. life ∙ read_ef (version_of img) (sent_data c) t new (read.1 t)),
        )
    go false q = absurd (omega (arith, done, damaged-word img pool c st lent q))

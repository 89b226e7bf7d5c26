-- What stands where after an effect: each record, the header, the current slots; from what the verdict tells.
use mathlib.Core.Path.{◌≡◌, refl, sym, ap, ◌∙◌}
use mathlib.Core.Bool.{cond}
use mathlib.Core.List.{List}
use mathlib.Core.Logic.{⊎_elim}
use Prim.Native.Nat.{ℕ, ◌+◌, ◌<◌, ◌≤◌}
use native.Mathlib.Omega.{arith}
use lib.Dec.{eqb}
use lib.ListN.{length, get_or}
use borrow.Author.Tests.{eq-eqb, ne_eqb}
use Rattle.std.specs.Prelude.{Ok, Err}
use Rattle.laws.proofs.Says.{same_or}
use Rattle.laws.proofs.Splices.{get_or-part}
use Rattle.image.specs.declared.Head.{Head}
use Rattle.image.specs.Layout.{Within, rec_at, set_life, count_of, current_df_of}
use Rattle.image.specs.Layout.{current_ef_of}
use Rattle.image.proofs.Lives.{life-same, life-other}
use Rattle.image.proofs.Headers.{SameFront, SameHeader, same_front, same-df, same-ef, front_refl, front_trans, header-life}
use Rattle.image.proofs.Headers.{front_current, current_byte, df-current, ef-current, record_current}
use Rattle.sound.specs.Table.{view_at}
use Rattle.sound.specs.Sound.{Sound}
use Rattle.sound.specs.Kinship.{at_or_beneath}
use Rattle.sound.specs.Effects.{Creates, clear_below, made, new_bytes, other_record, deleted}
use Rattle.sound.proofs.Front.{sound-sized, sound-within}
use Rattle.sound.proofs.Cleared.{header-clear, record_clear}
use Rattle.sound.proofs.Made.{record_made, other-made, front_made, byte_made, df-made, ef-made}
use Rattle.verdict.specs.declared.Effect.TheVariants.{Select, Create, Delete, SetLife, Read, Update}
use Rattle.verdict.specs.Applied.{Verdict, applied_of}
use Rattle.card.specs.After.{record_after, current_after, df_after, ef_after}
use Rattle.card.proofs.Tells.{Tells}

module _ (img c : List ℕ) (sound : Sound img) where
  within : (t : ℕ) → t < count_of img → Within img t
  within = sound-within img sound

  header-long : 16 ≤ length img
  header-long = omega (arith, sound.header.long)

  -- CREATE
  made_record : (s : ℕ) (h : Head) (name rule : List ℕ) → Creates img s h name rule → (t : ℕ) → t < count_of img
      → rec_at (made img s h name rule) t ≡ cond (eqb t s) (new_bytes img h name rule) (other_record img h t)
  made_record s h name rule k t l = ⊎_elim
      (λ e. ap (λ (x : ℕ). rec_at (made img s h name rule) x) e ∙ record_made img s h name rule sound k ∙ sym (rw (eq-eqb t s e)))
      (λ z. other-made img s h name rule sound k t l z ∙ sym (rw (ne_eqb t s z)))
      (same_or t s)

  -- DELETE
  module _ (d : ℕ) where
    cleared : SameHeader img (clear_below (count_of img) (at_or_beneath (view_at img) d) img)
    cleared = header-clear img (count_of img) (at_or_beneath (view_at img) d) (sound-sized img sound) (count_of img) (omega arith)

    cleared_long : 16 ≤ length (clear_below (count_of img) (at_or_beneath (view_at img) d) img)
    cleared_long = omega (arith, cleared.long, header-long)

    deleted_front : SameFront img (deleted img d)
    unfolding deleted
    deleted_front = front_trans img _ _ (same_front img _ cleared) (front_current _ _ _ cleared_long)

    deleted_record : (t : ℕ) → t < count_of img → rec_at (deleted img d) t ≡ record_after img c (Ok (Delete d)) t
    unfolding deleted
    deleted_record t l =
        record_current _ _ _ cleared_long t (omega (arith, cleared.long, (within t l).0))
        ∙ record_clear img (count_of img) (at_or_beneath (view_at img) d) (sound-sized img sound) (count_of img) (omega arith) t l

  -- a life cycle
  lived_record :
      (s life : ℕ) → s < count_of img → (t : ℕ) → t < count_of img → rec_at (set_life img s life) t ≡ record_after img c (Ok (SetLife s life)) t
  lived_record s life low t l = ⊎_elim
      (λ e. ap (λ (x : ℕ). rec_at (set_life img s life) x) e ∙ life-same img s life (within s low) ∙ sym (rw (eq-eqb t s e, e)))
      (λ z. life-other img s life (within s low) t (within t l) z ∙ sym (rw (ne_eqb t s z)))
      (same_or t s)

  pub records-after : (v : Verdict) → Tells img c v → (t : ℕ) → t < count_of img → rec_at (applied_of img c v) t ≡ record_after img c v t
  records-after (Err w) k t l = refl
  records-after (Ok (Select d e w)) k t l = record_current img d e header-long t (within t l).0
  records-after (Ok (Create x)) k t l = made_record x.slot x.head _ _ k.1 t l
  records-after (Ok (Delete s)) k t l = deleted_record s t l
  records-after (Ok (SetLife s life)) k t l = lived_record s life k.0.low t l
  records-after (Ok (Read at n)) k t l = refl
  records-after (Ok (Update at)) k t l = refl

  -- mark, version, slot count, zeros and the length are as they were
  pub front_after : (v : Verdict) → Tells img c v → SameFront img (applied_of img c v)
  front_after (Err w) k = front_refl img
  front_after (Ok (Select d e w)) k = front_current img d e header-long
  front_after (Ok (Create x)) k = front_made img x.slot x.head _ _ sound k.1
  front_after (Ok (Delete s)) k = deleted_front s
  front_after (Ok (SetLife s life)) k = same_front img _ (header-life img s life (within s k.0.low))
  front_after (Ok (Read at n)) k = front_refl img
  front_after (Ok (Update at)) k = front_refl img

  -- the four bytes that tell what is current
  pub current-after : (v : Verdict) → Tells img c v → (k : ℕ) → k < 4 → get_or (applied_of img c v) (7 + k) 0 ≡ get_or (current_after img v) k 0
  unfolding deleted
  current-after (Err w) t k l = sym (get_or-part img 7 4 k l)
  current-after (Ok (Select d e w)) t k l = current_byte img d e header-long k l
  current-after (Ok (Create x)) t k l = byte_made img x.slot x.head _ _ sound t.1 k l
  current-after (Ok (Delete s)) t k l = current_byte _ _ _ (cleared_long s) k l
  current-after (Ok (SetLife s life)) t k l =
      (header-life img s life (within s t.0.low)).bytes (7 + k) (omega arith) ∙ sym (get_or-part img 7 4 k l)
  current-after (Ok (Read at n)) t k l = sym (get_or-part img 7 4 k l)
  current-after (Ok (Update at)) t k l = sym (get_or-part img 7 4 k l)

  -- the current DF and the current EF
  pub df-after : (v : Verdict) → Tells img c v → current_df_of (applied_of img c v) ≡ df_after img v
  unfolding deleted
  df-after (Err w) k = refl
  df-after (Ok (Select d e w)) k = df-current img d e header-long
  df-after (Ok (Create x)) k = df-made img x.slot x.head _ _ sound k.1
  df-after (Ok (Delete s)) k = df-current _ _ _ (cleared_long s)
  df-after (Ok (SetLife s life)) k = same-df img _ (header-life img s life (within s k.0.low))
  df-after (Ok (Read at n)) k = refl
  df-after (Ok (Update at)) k = refl

  pub ef-after : (v : Verdict) → Tells img c v → current_ef_of (applied_of img c v) ≡ ef_after img v
  unfolding deleted
  ef-after (Err w) k = refl
  ef-after (Ok (Select d e w)) k = ef-current img d e header-long
  ef-after (Ok (Create x)) k = ef-made img x.slot x.head _ _ sound k.1
  ef-after (Ok (Delete s)) k = ef-current _ _ _ (cleared_long s)
  ef-after (Ok (SetLife s life)) k = same-ef img _ (header-life img s life (within s k.0.low))
  ef-after (Ok (Read at n)) k = refl
  ef-after (Ok (Update at)) k = refl

-- DELETE keeps an image sound: `sound-deleted`.
use mathlib.Core.Path.{◌≡◌, refl, sym, ap, ◌∙◌}
use mathlib.Core.List.{List}
use mathlib.Core.Bool.{Bool, true, false, cond, false≢true}
use mathlib.Core.Logic.{◌⊎◌, inl, inr, ⊎_elim}
use Prim.Native.Nat.{ℕ, suc, ◌+◌, ◌-◌, ◌<◌, ◌≤◌}
use native.Mathlib.Omega.{arith}
use lib.Dec.{eqb}
use borrow.Author.Tests.{eq-eqb, ne_eqb}
use Rattle.laws.proofs.Says.{same_or, untrue}
use Rattle.image.specs.Layout.{version_of, rec_at, kind_of, parent_of, free_bytes, count_of, current_df_of, current_ef_of, none}
use Rattle.image.proofs.Headers.{SameFront, same_front, same_version, same_count}
use Rattle.pool.specs.Bodies.{body_of, start_at, body_at}
use Rattle.sound.specs.Table.{View, File, up, view_at, view_of}
use Rattle.sound.specs.Own.{Own}
use Rattle.sound.specs.Kin.{Kin}
use Rattle.sound.specs.Sound.{Current, Sound}
use Rattle.sound.specs.Kinship.{at_or_beneath}
use Rattle.sound.specs.Effects.{Deletes, clear_below, deleted}
use Rattle.sound.proofs.Says.{AtOrBeneath, beneath-says}
use Rattle.sound.proofs.Climbing.{up_none, up_shift}
use Rattle.sound.proofs.Kept.{gone, kin-kept}
use Rattle.sound.proofs.NewRecords.{view_free, own-free, no_body}
use Rattle.sound.proofs.Front.{Files, files-set, files-sound, bodies_kept, body_same, header_front, sound-sized}
use Rattle.sound.proofs.Front.{count-current, version-current, current_record}
use Rattle.sound.proofs.Cleared.{header-clear, record_clear}

module _ (img : List ℕ) (d : ℕ) (sound : Sound img) (c : Deletes img d) where
  p : ℕ → Bool
  p = at_or_beneath (view_at img) d

  after : List ℕ
  after = clear_below (count_of img) (at_or_beneath (view_at img) d) img

  -- where d is placed
  level : (view_at img d).level ≡ (view_at img (current_df_of img)).level + 1
  level = rw c.child at (sound.kin.placed d c.low c.file).up

  rec : (t : ℕ) → t < count_of img → rec_at after t ≡ cond (p t) (free_bytes) (rec_at img t)
  unfolding after p
  rec t l = record_clear img (count_of img) (at_or_beneath (view_at img) d) (sound-sized img sound) (count_of img) (omega arith) t l

  kept : (t : ℕ) → t < count_of img → p t ≡ false → rec_at after t ≡ rec_at img t
  kept t l e = rw e at (rec t l)

  clear : (t : ℕ) → t < count_of img → p t ≡ true → rec_at after t ≡ free_bytes
  clear t l e = rw e at (rec t l)

  -- a file whose parent goes, goes
  orphan : (t : ℕ) → t < count_of img → File (view_at img) t → p t ≡ false → p (view_at img t).parent ≡ false
  unfolding p
  orphan t l f e =
      untrue _
      (λ h. false≢true (sym e ∙ (beneath-says (view_at img) d t).1 (lower ((beneath-says (view_at img) d (view_at img t).parent).0 h))))
    where
      lower : AtOrBeneath (view_at img) d (view_at img t).parent → AtOrBeneath (view_at img) d t
      lower b =
          let q = (sound.kin.placed t l f).up in
          let k : (view_at img t).level - (view_at img d).level ≡ suc ((view_at img (view_at img t).parent).level - (view_at img d).level) =
          omega (arith, b.deep) in
          record {
            used = f.0;
            deep = omega (arith, b.deep);
            over = ap (λ (j : ℕ). up (view_at img) j t) k
                ∙ sym (up_shift (view_at img) ((view_at img (view_at img t).parent).level - (view_at img d).level) t) ∙ b.over;
          }

  -- what is not deeper than the current DF stays
  shallow : (t : ℕ) → (view_at img t).level ≤ (view_at img (current_df_of img)).level → p t ≡ false
  unfolding p
  shallow t h = untrue _ (λ e. not-deep ((beneath-says (view_at img) d t).0 e))
    where
      not-deep : AtOrBeneath (view_at img) d t → ⊥
      not-deep b = omega (arith, b.deep, level)

  own : (t : ℕ) → t < count_of img → (b : Bool) → p t ≡ b → Own (version_of img) (rec_at after t)
  own t l true e = rw (clear t l e) (own-free (version_of img))
  own t l false e = rw (kept t l e) (sound.records t l)

  same : (t : ℕ) → t < count_of img → (b : Bool) → p t ≡ b → (view_at after t ≡ view_at img t) ⊎ (view_at after t ≡ gone)
  same t l true e = inr (ap view_of (clear t l e) ∙ view_free)
  same t l false e = inl (ap view_of (kept t l e))

  closed : (t : ℕ) → t < count_of img → File (view_at after) t → (b : Bool) → p t ≡ b
      → view_at after (view_at img t).parent ≡ view_at img (view_at img t).parent
  closed t l f true e = absurd (f.0 (ap (λ (x : View). x.kind) (ap view_of (clear t l e) ∙ view_free)))
  closed t l f false e =
      let g : File (view_at img) t = ((λ z. f.0 (ap kind_of (kept t l e) ∙ z)), f.1) in
      ap view_of (kept (view_at img t).parent (sound.kin.placed t l g).low (orphan t l g e))

  kin : Kin (count_of img) (view_at after)
  kin = kin-kept (count_of img) (view_at img) (view_at after) sound.kin (λ t l. same t l (p t) refl)
      (ap view_of (kept 0 (omega (arith, sound.header.least)) (shallow 0 (omega (arith, sound.kin.root-level)))))
      (λ t l f. closed t l f (p t) refl)

  -- a current EF that is not deleted stays
  ef_stays : (current_ef_of img ≡ none → ⊥) → (current_ef_of img ≡ d → ⊥) → rec_at after (current_ef_of img) ≡ rec_at img (current_ef_of img)
  unfolding p
  ef_stays z y = kept (current_ef_of img) (q.ef-low z) (untrue _ (λ e. not_it ((beneath-says (view_at img) d (current_ef_of img)).0 e)))
    where
      q : Current (count_of img) (view_at img) (current_df_of img) (current_ef_of img)
      q = sound.current

      file : File (view_at img) (current_ef_of img)
      file = (
        (λ e. omega (arith, q.ef-file z)),
        (λ e. omega (arith, q.ef-file z, sound.kin.root-kind, ap (λ (x : ℕ). kind_of (rec_at img x)) e)),
      )

      deep : (view_at img (current_ef_of img)).level ≡ (view_at img (current_df_of img)).level + 1
      deep = rw (q.ef-child z) at (sound.kin.placed (current_ef_of img) (q.ef-low z) file).up

      not_it : AtOrBeneath (view_at img) d (current_ef_of img) → ⊥
      not_it b =
          let k : (view_at img (current_ef_of img)).level - (view_at img d).level ≡ 0 = omega (arith, deep, level) in
          y (sym (up_none (view_at img) (current_ef_of img)) ∙ ap (λ (j : ℕ). up (view_at img) j (current_ef_of img)) (sym k) ∙ b.over)

  current : Current (count_of img) (view_at after) (current_df_of img) (cond (eqb (current_ef_of img) d) none (current_ef_of img))
  current = ⊎_elim
      (λ e. rw (eq-eqb (current_ef_of img) d e)
      (record {
        df-low = df.0;
        df-dir = df.1;
        ef-low = λ z. absurd (z refl);
        ef-file = λ z. absurd (z refl);
        ef-child = λ z. absurd (z refl);
      }))
      (λ y. rw (ne_eqb (current_ef_of img) d y) (record {
        df-low = df.0;
        df-dir = df.1;
        ef-low = sound.current.ef-low;
        ef-file = λ z. ap kind_of (ef_stays z y) ∙ sound.current.ef-file z;
        ef-child = λ z. ap parent_of (ef_stays z y) ∙ sound.current.ef-child z;
      }))
      (same_or (current_ef_of img) d)
    where
      df : (current_df_of img < count_of img) × ((view_at after (current_df_of img)).kind ≡ 1)
      df = (
        sound.current.df-low,
        ap kind_of (kept (current_df_of img) sound.current.df-low (shallow (current_df_of img) (omega arith)))
            ∙ sound.current.df-dir,
      )

  front : SameFront img after
  unfolding after
  front =
      same_front img after
      (header-clear img (count_of img) (at_or_beneath (view_at img) d) (sound-sized img sound) (count_of img) (omega arith))

  files : Files (deleted img d)
  unfolding deleted after
  files =
      files-set img after (current_df_of img) (cond (eqb (current_ef_of img) d) none (current_ef_of img)) sound.header front
      (λ t l. own t l (p t) refl) kin current

  count : count_of (deleted img d) ≡ count_of img
  unfolding deleted after
  count = count-current after _ _ (header_front img after front sound.header) ∙ same_count img after front

  version : version_of (deleted img d) ≡ version_of img
  unfolding deleted after
  version = version-current after _ _ (header_front img after front sound.header) ∙ same_version img after front

  record-after : (t : ℕ) → t < count_of img → rec_at (deleted img d) t ≡ rec_at after t
  unfolding deleted after
  record-after t l = current_record after _ _ (header_front img after front sound.header) t (rw (same_count img after front) l)

  -- a body that is left lies where it did
  body : (t : ℕ) → t < count_of img → (b : Bool) → p t ≡ b → 0 < body_at (deleted img d) t
      → (start_at img t ≡ start_at (deleted img d) t) × (body_at img t ≡ body_at (deleted img d) t)
  unfolding body_at
  body t l false e x = body_same img (deleted img d) t version (record-after t l ∙ kept t l e)
  body t l true e x = absurd (omega (arith, ap (body_of (version_of (deleted img d))) (record-after t l ∙ clear t l e), no_body (version_of (deleted img d))))

  pub sound-deleted : Sound (deleted img d)
  sound-deleted =
      files-sound (deleted img d) files
      (bodies_kept img (deleted img d) sound count
      (ap (λ (v : View). v.size) (ap view_of (record-after 0 (omega (arith, sound.header.least))
      ∙ kept 0 (omega (arith, sound.header.least)) (shallow 0 (omega (arith, sound.kin.root-level))))))
      (λ t l x. body t l (p t) refl x))

-- CREATE's record keeps what holds of and between records: `files-created`, from exactly what CREATE checks.
use mathlib.Core.Path.{◌≡◌, refl, ap, ◌∙◌}
use mathlib.Core.List.{List, [], ◌++◌}
use mathlib.Core.Bool.{Bool, true, false, cond}
use mathlib.Core.Logic.{◌↔◌, ◌⊎◌, inl, inr, ⊎_elim}
use Prim.Native.Nat.{ℕ, suc, ◌+◌, ◌<◌, ◌≤◌}
use native.Mathlib.Omega.{arith}
use lib.ListN.{length, get_or}
use lib.Dec.{eqb}
use borrow.Author.Tests.{eq-eqb, ne_eqb, eqb-true}
use Rattle.laws.proofs.Says.{says, eq-says, not-says, same_or}
use Rattle.laws.proofs.Firsts.{first_is}
use Rattle.laws.specs.Walks.{FirstAt}
use Rattle.rules.specs.Descriptor.{class_of, is_df, is_ef, df}
use Rattle.image.specs.declared.Head.{Head}
use Rattle.image.specs.Layout.{version_of, Within, rec_at, put_record, kind_of, record_bytes, count_of, current_df_of, current_ef_of, none}
use Rattle.image.proofs.Records.{record_same, record_other}
use Rattle.image.proofs.Made.{length-made}
use Rattle.numbers.specs.Numbers.{be16}
use Rattle.image.proofs.Headers.{SameFront, header_put, same_front, same_version, same_count, front_trans, front_current, df-current}
use Rattle.image.proofs.Headers.{ef-current, current_byte}
use Rattle.access.proofs.Fits.{fits-short}
use Rattle.sound.specs.Table.{View, File, up, has_identifier, view_at, view_of}
use Rattle.sound.specs.Own.{Own}
use Rattle.sound.specs.Kin.{Kin}
use Rattle.sound.specs.Sound.{Current, Sound}
use Rattle.sound.specs.Kinship.{is_child, is_child_named, named_up, identifier_free, name_free, free_slot, total_for, room_for, fits_room}
use Rattle.sound.specs.Effects.{Creates, created}
use Rattle.sound.proofs.Climbing.{upward-says}
use Rattle.sound.proofs.Added.{Fits, kin_added}
use Rattle.sound.proofs.Front.{Files, files-set, header_front, count-current, version-current, current_record, sound-within}
use Rattle.sound.proofs.NewRecords.{view_made, view_made_lem, own-made}

-- what the tests of CREATE say
pub identifier-says : (n : ℕ) (v : ℕ → View) (d x : ℕ) → (identifier_free n v d x ≡ true)
    ↔
    (((t : ℕ) → t < n → (File v t × ((v t).parent ≡ d)) × ((v t).identifier ≡ x) → ⊥)
    × ((k : ℕ) → k < suc (v d).level → (v (up v k d)).identifier ≡ x → ⊥))
unfolding identifier_free named_up is_child_named is_child
identifier-says n v d x = simp says (
  (λ h. (h.0, λ k l e. (upward-says v (has_identifier v x) _ d).0 ((not-says _).1 h.1) k l ((eq-says _ _).1 e))),
  (λ h. (h.0, (not-says _).0 ((upward-says v (has_identifier v x) _ d).1 (λ k l e. h.1 k l ((eq-says _ _).0 e))))),
)

pub name-says : (n : ℕ) (v : ℕ → View) (name : List ℕ) → (name_free n v name ≡ true)
    ↔ ((name ≡ [] → ⊥) → (t : ℕ) → t < n → (v t).name ≡ name → ⊥)
unfolding name_free
name-says n v name = simp says ((λ h. h), (λ h. h))

pub room_says : (n : ℕ) (v : ℕ → View) (d z : ℕ) → (fits_room n v d z ≡ true) ↔ (z + 64 ≤ room_for n v d)
unfolding fits_room
room_says n v d z = simp says ((λ h. h), (λ h. h))

-- a kind that the class table gives is 0, 1 or 2
pub class_low : (d : ℕ) → class_of d ≤ 2
unfolding class_of
class_low d = go (is_df d) (is_ef d)
  where
    go : (a b : Bool) → cond a 1 (cond b 2 0) ≤ 2
    go true b = omega arith
    go false true = omega arith
    go false false = omega arith

module _ (img : List ℕ) (s : ℕ) (h : Head) (name rule : List ℕ) (sound : Sound img) (c : Creates img s h name rule) where
  found : FirstAt (count_of img) (λ t. eqb (view_at img t).kind 0) s
  unfolding free_slot
  found = first_is (count_of img) (λ t. eqb (view_at img t).kind 0) s c.slot

  free : kind_of (rec_at img s) ≡ 0
  free = eqb-true (kind_of (rec_at img s)) 0 found.here

  fits : Fits (count_of img) (view_at img) (current_df_of img) (view_made h name)
  unfolding room_for total_for
  fits =
      let i = (identifier-says (count_of img) (view_at img) (current_df_of img) h.identifier).0 c.identifier in
      let r = (room_says (count_of img) (view_at img) (current_df_of img) h.size).0 c.room in
      record {
        low = sound.current.df-low;
        dir = sound.current.df-dir;
        used = c.good.some;
        parent = c.parent;
        level = c.level;
        fresh = λ t l f p e. i.0 t l ((f, p), e);
        above = λ k l. i.1 k (omega arith);
        name = (name-says (count_of img) (view_at img) name).0 c.name_is_free;
        room = omega (arith, r);
      }

  whole : length (record_bytes (version_of img) h name rule) ≡ 64
  whole = length-made (version_of img) h name rule c.good.name-short (fits-short _ _ rule c.good.formed)

  within : (t : ℕ) → t < count_of img → Within img t
  within = sound-within img sound

  after : List ℕ
  after = put_record img s (record_bytes (version_of img) h name rule)

  here : rec_at after s ≡ record_bytes (version_of img) h name rule
  unfolding after
  here = record_same img s (record_bytes (version_of img) h name rule) (within s found.low) whole

  there : (t : ℕ) → t < count_of img → (t ≡ s → ⊥) → rec_at after t ≡ rec_at img t
  unfolding after
  there t l z = record_other img s (record_bytes (version_of img) h name rule) (within s found.low) whole t (within t l) z

  own : (t : ℕ) → t < count_of img → (t ≡ s) ⊎ (t ≡ s → ⊥) → Own (version_of img) (rec_at after t)
  own t l (inl e) = rw (e, here) (own-made (version_of img) h name rule c.good)
  own t l (inr z) = rw (there t l z) (sound.records t l)

  seen : view_at after s ≡ view_made h name
  seen = ap view_of here ∙ view_made_lem (version_of img) h name rule

  kin : Kin (count_of img) (view_at after)
  kin =
      kin_added (count_of img) (view_at img) (view_at after) sound.kin s (current_df_of img) found.low free
      (λ t l z. ap view_of (there t l z)) (rw seen fits)

  current : Current (count_of img) (view_at after) (cond (eqb h.kind 1) s (current_df_of img)) (cond (eqb h.kind 1) none s)
  current = ⊎_elim
      (λ e. rw (eq-eqb h.kind 1 e) (record {
        df-low = found.low;
        df-dir = ap (λ (x : View). x.kind) seen ∙ e;
        ef-low = λ z. absurd (z refl);
        ef-file = λ z. absurd (z refl);
        ef-child = λ z. absurd (z refl);
      }))
      (λ f. rw (ne_eqb h.kind 1 f) (record {
        df-low = fits.low;
        df-dir = ap (λ (x : View). x.kind)
            (ap view_of (there (current_df_of img) fits.low (λ e. omega (arith, fits.dir, free, ap (λ (x : ℕ). kind_of (rec_at img x)) e))))
            ∙ fits.dir;
        ef-low = λ z. found.low;
        ef-file = λ z. ap (λ (x : View). x.kind) seen ∙ two f;
        ef-child = λ z. ap (λ (x : View). x.parent) seen ∙ fits.parent;
      }))
      (same_or h.kind 1)
    where
      two : (h.kind ≡ 1 → ⊥) → h.kind ≡ 2
      two f = omega (arith, c.good.class, class_low h.descriptor, c.good.some)

  front : SameFront img after
  unfolding after
  front = same_front img after (header_put img s (record_bytes (version_of img) h name rule) (within s found.low) whole)

  pub files-created : Files (created img s h name rule)
  unfolding created after
  files-created =
      files-set img after (cond (eqb h.kind 1) s (current_df_of img)) (cond (eqb h.kind 1) none s) sound.header front
      (λ t l. own t l (same_or t s)) kin current

  -- what it leaves of the rest
  pub slot-low : s < count_of img
  slot-low = found.low

  pub slot-free : kind_of (rec_at img s) ≡ 0
  slot-free = free

  set-fits : 16 ≤ length after
  set-fits = omega (arith, front.long, sound.header.long)

  -- the header: only what is current differs
  pub front_created : SameFront img (created img s h name rule)
  unfolding created after
  front_created = front_trans img after (created img s h name rule) front (front_current after _ _ set-fits)

  pub df-created : current_df_of (created img s h name rule) ≡ cond (eqb h.kind df) s (current_df_of img)
  unfolding created after
  df-created = df-current after _ _ set-fits

  pub ef-created : current_ef_of (created img s h name rule) ≡ cond (eqb h.kind df) none s
  unfolding created after
  ef-created = ef-current after _ _ set-fits

  pub byte_created : (k : ℕ) → k < 4 → get_or (created img s h name rule) (7 + k) 0
      ≡ get_or (be16 (cond (eqb h.kind df) s (current_df_of img)) ++ be16 (cond (eqb h.kind df) none s)) k 0
  unfolding created after
  byte_created k l = current_byte after _ _ set-fits k l

  pub count-created : count_of (created img s h name rule) ≡ count_of img
  unfolding created after
  count-created = count-current after _ _ (header_front img after front sound.header) ∙ same_count img after front

  pub version-created : version_of (created img s h name rule) ≡ version_of img
  unfolding created after
  version-created = version-current after _ _ (header_front img after front sound.header) ∙ same_version img after front

  record-after : (t : ℕ) → t < count_of img → rec_at (created img s h name rule) t ≡ rec_at after t
  unfolding created after
  record-after t l = current_record after _ _ (header_front img after front sound.header) t (rw (same_count img after front) l)

  pub created-here : rec_at (created img s h name rule) s ≡ record_bytes (version_of img) h name rule
  created-here = record-after s found.low ∙ here

  pub created-other : (t : ℕ) → t < count_of img → (t ≡ s → ⊥) → rec_at (created img s h name rule) t ≡ rec_at img t
  created-other t l z = record-after t l ∙ there t l z

-- What each effect leaves of an image (01 "Making", "SELECT", "CREATE", "DELETE", the life cycles) and of the pool (02 Ticket 4),
-- byte for byte. SELECT leaves `set_current`, a change of life cycle `set_life`.
use Rattle.std.specs.Prelude.{◌≡◌, List, [], ◌++◌, ◌∷◌, Bool, true, cond, ◌&&◌, ℕ, zero, suc, ◌+◌, ◌*◌, ◌-◌}
use Rattle.std.specs.Prelude.{◌<◌, ◌≤◌, eqb, ltb, length, Option, Some, None}
use Rattle.std.specs.Prelude.{replicate}
use Rattle.laws.specs.Lists.{splice}
use Rattle.numbers.specs.Numbers.{be16}
use Rattle.rules.specs.Descriptor.{class_of, df, ef}
use Rattle.rules.specs.Life.{known_life, activated_byte}
use Rattle.rules.specs.Value.{good_identifier, good_length}
use Rattle.image.specs.declared.Head.{Head}
use Rattle.image.specs.Layout.{version_of, count_of, current_df_of, current_ef_of, none, record_bytes, put_record, clear_record}
use Rattle.image.specs.Layout.{set_current}
use Rattle.image.specs.Layout.{has_bodies, rec_at, with_start, set_start}
use Rattle.access.specs.Access.{fits_record}
use Rattle.pool.specs.Bodies.{start_at, body_at}
use Rattle.pool.specs.Packed.{packed_start}
use Rattle.pool.specs.Places.{gap_for, place_at, place_image, place_pool}
use Rattle.pool.specs.Wiped.{wipe_below}
use Rattle.sound.specs.Table.{File, view_at}
use Rattle.sound.specs.Sound.{pool_length}
use Rattle.sound.specs.Kinship.{free_slot, identifier_free, name_free, fits_room, at_or_beneath}

-- CREATE: the new record in slot s; a new DF becomes current with no EF, a new EF becomes current EF
unfoldable pub created : List ℕ → ℕ → Head → List ℕ → List ℕ → List ℕ
created img s h name rule =
    set_current (put_record img s (record_bytes (version_of img) h name rule))
    (cond (eqb h.kind df) s (current_df_of img))
    (cond (eqb h.kind df) none s)

-- how many bytes of the pool a new file needs: an EF its size, where the version has bodies
unfoldable pub new_body : ℕ → Head → ℕ
new_body v h = cond (has_bodies v && eqb h.kind ef) h.size 0

-- the lowest gap that fits it, before any body is moved
unfoldable pub new_gap : List ℕ → Head → Option ℕ
new_gap img h = gap_for (count_of img) img (pool_length img) (new_body (version_of img) h)

-- CREATE with the body: where no gap fits, bodies are moved down first; then the record, and where its body starts
unfoldable pub made : List ℕ → ℕ → Head → List ℕ → List ℕ → List ℕ
made img s h name rule =
    cond (eqb (new_body (version_of img) h) 0) (created img s h name rule)
    (set_start (created (place_image (new_gap img h) (count_of img) img) s h name rule) s (place_at (new_gap img h) (count_of img) img))

-- so this is the new record
unfoldable pub new_bytes : List ℕ → Head → List ℕ → List ℕ → List ℕ
new_bytes img h name rule =
    cond (eqb (new_body (version_of img) h) 0) (record_bytes (version_of img) h name rule)
    (with_start (record_bytes (version_of img) h name rule) (place_at (new_gap img h) (count_of img) img))

-- .. and this every other: as it was, but for the start of a body that was moved down, since no gap fits
unfoldable pub kept_record : Option ℕ → List ℕ → ℕ → List ℕ
kept_record (Some p) img t = rec_at img t
kept_record None img t =
    cond (ltb 0 (body_at img t)) (with_start (rec_at img t) (packed_start (count_of img) (start_at img) (body_at img) t)) (rec_at img t)

unfoldable pub other_record : List ℕ → Head → ℕ → List ℕ
other_record img h t = cond (eqb (new_body (version_of img) h) 0) (rec_at img t) (kept_record (new_gap img h) img t)

-- .. and the pool: the new body is all FF
unfoldable pub filled : List ℕ → List ℕ → Head → List ℕ
filled img pool h =
    cond (eqb (new_body (version_of img) h) 0) pool
    (splice (place_pool (new_gap img h) (count_of img) img pool) (place_at (new_gap img h) (count_of img) img)
    (replicate (new_body (version_of img) h) 0xFF))

-- what the data of a new file must satisfy by themselves, on a card of a version
pub record GoodRecord (v : ℕ) (h : Head) (name rule : List ℕ) : Type 0 where
  pub class : class_of h.descriptor ≡ h.kind
  pub some : h.kind ≡ 0 → ⊥
  pub life : known_life h.life ≡ true
  pub identifier : good_identifier h.identifier ≡ true
  pub size : 1 ≤ h.size
  pub records : good_length h.descriptor h.record_length h.size ≡ true
  pub name-short : length name ≤ 16
  pub nameless : h.kind ≡ ef → length name ≡ 0
  pub formed : fits_record v h.form rule ≡ true

-- what CREATE has checked and found when it takes slot s, the lowest free one
pub record Creates (img : List ℕ) (s : ℕ) (h : Head) (name rule : List ℕ) : Type 0 where
  pub good : GoodRecord (version_of img) h name rule
  pub parent : h.parent ≡ current_df_of img
  pub level : h.level ≡ (view_at img (current_df_of img)).level + 1
  pub identifier : identifier_free (count_of img) (view_at img) (current_df_of img) h.identifier ≡ true
  pub name_is_free : name_free (count_of img) (view_at img) name ≡ true
  pub room : fits_room (count_of img) (view_at img) (current_df_of img) h.size ≡ true
  pub slot : free_slot (count_of img) (view_at img) ≡ Some s

-- a free record in slot s, where the test holds; in each slot below n of which p holds
unfoldable pub clear_if : Bool → List ℕ → ℕ → List ℕ
clear_if b img s = cond b (clear_record img s) img

unfoldable pub clear_below : ℕ → (ℕ → Bool) → List ℕ → List ℕ
clear_below zero p img = img
clear_below (suc k) p img = clear_if (p k) (clear_below k p img) k

-- DELETE: d and all beneath it, as the image had them, become zero records; a deleted current EF becomes none
unfoldable pub deleted : List ℕ → ℕ → List ℕ
deleted img d =
    set_current (clear_below (count_of img) (at_or_beneath (view_at img) d) img)
    (current_df_of img)
    (cond (eqb (current_ef_of img) d) none (current_ef_of img))

-- .. and their bytes of the pool become 00
unfoldable pub wiped : List ℕ → List ℕ → ℕ → List ℕ
wiped img pool d = wipe_below (count_of img) (at_or_beneath (view_at img) d) (start_at img) (body_at img) pool

-- what DELETE has found: a child of the current DF
pub record Deletes (img : List ℕ) (d : ℕ) : Type 0 where
  pub low : d < count_of img
  pub file : File (view_at img) d
  pub child : (view_at img d).parent ≡ current_df_of img

-- the root of a fresh card: descriptor 38, life cycle 05
abbrev pub root_head : ℕ → ℕ → Head
root_head total form = record {
  kind = df;
  descriptor = 0x38;
  life = activated_byte;
  form = form;
  identifier = 0x3F00;
  parent = 0;
  level = 0;
  record_length = 0;
  size = total;
}

-- the header of a fresh card of a version and n slots: root current, no EF
unfoldable pub fresh_header : ℕ → ℕ → List ℕ
fresh_header v n =
    (0x55 ∷ 0x46 ∷ 0x54 ∷ [])
    ++ be16 v ++ be16 n ++ be16 0 ++ be16 none ++ replicate 5 0

-- the maker: the header, the root with no name, all else free
unfoldable pub fresh : ℕ → ℕ → ℕ → ℕ → List ℕ → List ℕ
fresh v n total form rule = fresh_header v n ++ (record_bytes v (root_head total form) [] rule ++ replicate (64 * (n - 1)) 0)

-- The maker's image is sound: `sound-fresh`.
use mathlib.Core.Path.{◌≡◌, refl, sym, ap, ◌∙◌}
use mathlib.Core.List.{List, [], ◌∷◌, ◌++◌, append_assoc}
use mathlib.Core.Bool.{true}
use mathlib.Core.Logic.{◌⊎◌, inl, inr, ⊎_elim}
use Prim.Native.Nat.{ℕ, ◌+◌, ◌*◌, ◌-◌, ◌/◌, ◌%◌, ◌<◌, ◌≤◌}
use native.Mathlib.Omega.{arith}
use lib.ListN.{length, get_or, replicate, take, length-append, length-replicate, get_or-replicate, get_or-append}
use lib.Seq.{get_or-append-add, take_at, drop_at, ext_get_or}
use borrow.Author.Tests.{lt-ltb}
use Rattle.laws.specs.Lists.{part}
use Rattle.laws.specs.Tests.{either}
use Rattle.laws.proofs.Sums.{sum-none}
use Rattle.laws.proofs.Says.{same_or}
use Rattle.numbers.specs.Numbers.{u16_at}
use Rattle.rules.specs.Descriptor.{class_of, has_records}
use Rattle.rules.specs.Value.{good_identifier, good_length}
use Rattle.rules.proofs.Lives.{activated-known}
use Rattle.image.specs.Layout.{forms_of, known_version, base, rec_at, record_bytes, free_bytes, count_of, version_of, current_df_of, current_ef_of}
use Rattle.image.specs.Layout.{none}
use Rattle.image.proofs.Made.{length-made}
use Rattle.image.proofs.Places.{byte_in, length_record}
use Rattle.access.specs.Access.{fits_record}
use Rattle.access.proofs.Fits.{fits-says, fits-short}
use Rattle.sound.specs.Table.{View, File, view_at, view_of, charged, charge_of}
use Rattle.sound.specs.Own.{Own}
use Rattle.sound.specs.Kin.{Kin}
use Rattle.sound.specs.Sound.{Header, Sound}
use Rattle.sound.specs.Effects.{GoodRecord, root_head, fresh_header, fresh}
use Rattle.sound.proofs.Kept.{gone}
use Rattle.sound.proofs.Charges.{charge_free, charge_stranger}
use Rattle.sound.proofs.NewRecords.{view_made, view_made_lem, own-made, view_free, own-free, no_body, no_directory_body}
use Rattle.pool.specs.Bodies.{body_of, body_at}
use Rattle.sound.specs.Theorems.{SoundFresh}

-- a table whose only file is the root
pub kin-alone :
    (n : ℕ) (v : ℕ → View) → (v 0).kind ≡ 1 → (v 0).identifier ≡ 0x3F00 → (v 0).parent ≡ 0 → (v 0).level ≡ 0 → (v 0).size ≤ 64 * (n - 1)
    → (v 0).name ≡ []
    → ((t : ℕ) → t < n → (t ≡ 0 → ⊥) → v t ≡ gone) → Kin n v
unfolding charged
kin-alone n v kind id parent level size name free = record {
  root-kind = kind;
  root-identifier = id;
  root-parent = parent;
  root-level = level;
  root-size = size;
  placed = λ s l f. absurd (nofile s l f);
  siblings = λ s l f. absurd (nofile s l f);
  above = λ s l f. absurd (nofile s l f);
  names = λ s l t m w. absurd (w.0 (noname s l (same_or s 0)));
  charges = λ d l e. rw
      (sum-none n (λ s. charge_of d s (v s))
      (λ s m. ⊎_elim (λ q. charge_stranger d s (v s) (λ u z w. z q)) (λ z. charge_free d s (v s) (ap (λ (x : View). x.kind) (free s m z)))
      (same_or s 0)))
      (omega arith);
}
  where
    nofile : (s : ℕ) → s < n → File v s → ⊥
    nofile s l f = f.0 (ap (λ (x : View). x.kind) (free s l f.1))

    noname : (s : ℕ) → s < n → (s ≡ 0) ⊎ (s ≡ 0 → ⊥) → (v s).name ≡ []
    noname s l (inl e) = ap (λ (x : ℕ). (v x).name) e ∙ name
    noname s l (inr z) = ap (λ (x : View). x.name) (free s l z)

module _ (v n total form : ℕ) (rule : List ℕ) (least : 2 ≤ n) (most : n ≤ 1023) (some : 1 ≤ total) (within : total ≤ 64 * (n - 1))
    (formed : fits_record v form rule ≡ true) where
  good : GoodRecord v (root_head total form) [] rule
  unfolding class_of good_identifier good_length has_records either
  good = record {
    class = refl;
    some = λ e. omega arith;
    life = activated-known;
    identifier = refl;
    size = some;
    records = refl;
    name-short = omega arith;
    nameless = λ e. refl;
    formed = formed;
  }

  whole : length (record_bytes v (root_head total form) [] rule) ≡ 64
  whole = length-made v (root_head total form) [] rule (omega arith) (fits-short v form rule formed)

  long : length (fresh v n total form rule) ≡ 16 + 64 * n
  unfolding fresh fresh_header
  long =
      rw (
        length-append (fresh_header v n),
        length-append (record_bytes v (root_head total form) [] rule),
        whole,
        length-replicate {A = ℕ}
            (64 * (n - 1)) 0,
      )
      (omega arith)

  pub count : count_of (fresh v n total form rule) ≡ n
  unfolding fresh fresh_header count_of u16_at
  count = omega arith

  pub fresh-version : version_of (fresh v n total form rule) ≡ v
  unfolding fresh fresh_header version_of u16_at
  fresh-version = omega arith

  header : Header (fresh v n total form rule)
  unfolding known_version
  header =
      record {
        long = rw count long;
        least = rw count least;
        most = rw count most;
        mark_0 = m0;
        mark_1 = m1;
        mark_2 = m2;
        version = rw fresh-version (lt-ltb 0 (forms_of v) (omega (arith, ((fits-says v form rule).0 formed).known)));
        zeros = zs;
      }
    where
      first : List ℕ
      first = 0x55 ∷ 0x46 ∷ 0x54 ∷ v / 256 ∷ v % 256 ∷ n / 256 ∷ n % 256 ∷ 0 ∷ 0 ∷ 0xFF ∷ 0xFF ∷ []

      more : List ℕ
      more = record_bytes v (root_head total form) [] rule ++ replicate (64 * (n - 1)) 0

      m0 : get_or (fresh v n total form rule) 0 0 ≡ 0x55
      m0 = unfold fresh fresh_header in refl

      m1 : get_or (fresh v n total form rule) 1 0 ≡ 0x46
      m1 = unfold fresh fresh_header in refl

      m2 : get_or (fresh v n total form rule) 2 0 ≡ 0x54
      m2 = unfold fresh fresh_header in refl

      zs : (k : ℕ) → k < 5 → get_or (fresh v n total form rule) (11 + k) 0 ≡ 0
      zs k l =
          unfold fresh fresh_header in get_or-append-add first (replicate 5 0 ++ more) k 0 ∙ get_or-append (replicate 5 0) more 0 k l
          ∙ get_or-replicate 5 k 0 0 l

  pub root : rec_at (fresh v n total form rule) 0 ≡ record_bytes v (root_head total form) [] rule
  unfolding fresh fresh_header rec_at part
  root =
      ap (λ (x : List ℕ). take 64 x) (drop_at (fresh_header v n)
      (record_bytes v (root_head total form) [] rule ++ replicate (64 * (n - 1)) 0) 16 refl)
      ∙ take_at (record_bytes v (root_head total form) [] rule) (replicate (64 * (n - 1)) 0) 64 whole

  front : length (fresh_header v n ++ record_bytes v (root_head total form) [] rule) ≡ 80
  front = rw (length-append (fresh_header v n), whole, header-length)
    where
      header-length : length (fresh_header v n) ≡ 16
      header-length = unfold fresh_header in refl

  tail : (i j : ℕ) → i ≡ 80 + j → j < 64 * (n - 1) → get_or (fresh v n total form rule) i 0 ≡ 0
  unfolding fresh fresh_header
  tail i j e l =
      let f : i ≡ length (fresh_header v n ++ record_bytes v (root_head total form) [] rule) + j = omega (arith, front) in
      ap (λ (m : ℕ). get_or (fresh v n total form rule) m 0) f
      ∙ ap (λ (x : List ℕ). get_or x (length (fresh_header v n ++ record_bytes v (root_head total form) [] rule) + j) 0)
      (sym (append_assoc (fresh_header v n) (record_bytes v (root_head total form) [] rule) (replicate (64 * (n - 1)) 0)))
      ∙ get_or-append-add (fresh_header v n ++ record_bytes v (root_head total form) [] rule) (replicate (64 * (n - 1)) 0) j 0
      ∙ get_or-replicate (64 * (n - 1)) j 0 0 l

  rest : (t : ℕ) → t < n → (t ≡ 0 → ⊥) → rec_at (fresh v n total form rule) t ≡ free_bytes
  rest t l z =
      ext_get_or 0 (rec_at (fresh v n total form rule) t) (free_bytes) cut
      (λ k m. byte k (omega (arith, cut)) ∙ sym (get_or-replicate 64 k 0 0 (omega (arith, cut))))
    where
      cut : length (rec_at (fresh v n total form rule) t) ≡ 64
      cut = length_record (fresh v n total form rule) t (omega (arith, long))

      byte : (k : ℕ) → k < 64 → get_or (rec_at (fresh v n total form rule) t) k 0 ≡ 0
      byte k h = byte_in (fresh v n total form rule) t k h ∙ tail (base t + k) (base t + k - 80) (omega arith) (omega arith)

  pub view_root : view_at (fresh v n total form rule) 0 ≡ view_made (root_head total form) []
  view_root = ap view_of root ∙ view_made_lem v (root_head total form) [] rule

  pub view_rest : (t : ℕ) → t < n → (t ≡ 0 → ⊥) → view_at (fresh v n total form rule) t ≡ gone
  view_rest t l z = ap view_of (rest t l z) ∙ view_free

  own : (t : ℕ) → t < n → (t ≡ 0) ⊎ (t ≡ 0 → ⊥) → Own v (rec_at (fresh v n total form rule) t)
  own t l (inl e) = rw (e, root) (own-made v (root_head total form) [] rule good)
  own t l (inr z) = rw (rest t l z) (own-free v)

  kin : Kin n (view_at (fresh v n total form rule))
  kin =
      kin-alone n (view_at (fresh v n total form rule)) (ap (λ (x : View). x.kind) view_root) (ap (λ (x : View). x.identifier) view_root)
      (ap (λ (x : View). x.parent) view_root) (ap (λ (x : View). x.level) view_root)
      (rw (ap (λ (x : View). x.size) view_root) within) (ap (λ (x : View). x.name) view_root) view_rest

  pub root-current : current_df_of (fresh v n total form rule) ≡ 0
  unfolding fresh fresh_header current_df_of u16_at
  root-current = refl

  ef : current_ef_of (fresh v n total form rule) ≡ none
  unfolding fresh fresh_header current_ef_of u16_at
  ef = refl

  -- no file has a body
  none_has : (t : ℕ) → t < n → (t ≡ 0) ⊎ (t ≡ 0 → ⊥) → body_at (fresh v n total form rule) t ≡ 0
  unfolding body_at
  none_has t l (inl e) = rw (e, root) (no_directory_body (version_of (fresh v n total form rule)) v (root_head total form) [] rule refl)
  none_has t l (inr z) = ap (body_of (version_of (fresh v n total form rule))) (rest t l z) ∙ no_body (version_of (fresh v n total form rule))

  fresh-sound : Sound (fresh v n total form rule)
  fresh-sound = record {
    header = header;
    records = rw (count, fresh-version) (λ s l. own s l (same_or s 0));
    kin = rw count kin;
    current = rw (count, root-current, ef)
        (record {
          df-low = omega arith;
          df-dir = ap (λ (x : View). x.kind) view_root;
          ef-low = λ z. absurd (z refl);
          ef-file = λ z. absurd
              (z refl);
          ef-child = λ z. absurd (z refl);
        });
    bodies = rw count (record {
      inside = λ t l x. absurd (omega (arith, none_has t l (same_or t 0)));
      apart = λ s t k l x y. absurd (omega (arith, none_has s k (same_or s 0)));
    });
  }

pub sound-fresh : SoundFresh
sound-fresh = fresh-sound

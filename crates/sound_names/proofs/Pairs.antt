-- Names as parts of the image, and the walk over pairs of them: how far a record looks back, each turn, each end.
use mathlib.Core.Path.{◌≡◌, sym, ◌∙◌, ap}
use mathlib.Core.Bool.{Bool, true, false, not, ◌&&◌, false≢true}
use mathlib.Core.List.{List, []}
use Prim.Native.Nat.{ℕ, ◌+◌, ◌<◌, ◌≤◌}
use native.Mathlib.Omega.{arith}
use lib.ListN.{length}
use Rattle.laws.specs.Walks.{all_below}
use Rattle.laws.specs.Lists.{same_list}
use Rattle.laws.proofs.Says.{and-says, not-says, same-says}
use Rattle.laws.proofs.Walks.{all-zero, all_more, all_fails, each_all}
use Rattle.keys.specs.Marks.{marked, Keyed}
use Rattle.image.specs.Layout.{Sized, rec_at, name_of}
use Rattle.image.proofs.Places.{length_record}
use Rattle.image.proofs.Records.{within-sized}
use Rattle.sound.specs.Table.{View, view_at}
use Rattle.sound.specs.Kin.{same_name, names_at, namesb}
use Rattle.sound.specs.Sound.{recordsb}
use Rattle.kinship.proofs.Sameness.{no_name, some-name}
use Rattle.sound_names.specs.Key.{name_key, name_key_at, has_name, LooksBack}
use Rattle.sound_names.proofs.Alike.{name_padded, same-name_key}

-- b is the name of s that was read, and a that of t
module _ (img : List ℕ) (s t : ℕ) (b : List ℕ) (q : b ≡ name_of (rec_at img s)) where
  pub name-none : length b ≡ 0 → false ≡ same_name (view_at img) s t
  unfolding same_name
  name-none h = rw (← q, no_name b h)

  pub name_is : (length b ≡ 0 → ⊥) → (a : List ℕ) (r : Bool) → a ≡ name_of (rec_at img t) → r ≡ same_list a b → r ≡ same_name (view_at img) s t
  unfolding same_name
  name_is y a r p e = rw (← q, ← p, some-name b y) e

-- a and b are the records of s and t that were read, and r is whether they have one name
pub same_name_is : (img : List ℕ) (s t : ℕ) (a b : List ℕ) (r : Bool) → a ≡ rec_at img s → b ≡ rec_at img t
    → r ≡ (not (same_list (name_of a) []) && same_list (name_of b) (name_of a)) → r ≡ same_name (view_at img) s t
unfolding same_name
same_name_is img s t a b r p q e = rw (← p, ← q) e

-- the walk over pairs: no name of a pair (v, u), u < v < s, is one; nor of a pair (s, u), u < t
pub record Apart (img : List ℕ) (s : ℕ) : Type 0 where
  pub told : all_below s (names_at (view_at img)) ≡ true

pub record ApartTo (img : List ℕ) (s t : ℕ) : Type 0 where
  pub told : all_below t (λ u. not (same_name (view_at img) s u)) ≡ true

module _ (img : List ℕ) where
  pub apart-start : Apart img 0
  apart-start = record { told = all-zero (names_at (view_at img)) }

  module _ (s : ℕ) where
    pub pair_start : ApartTo img s 0
    pair_start = record { told = all-zero (λ u. not (same_name (view_at img) s u)) }

    pub pair_turn : (t : ℕ) (r : Bool) → ApartTo img s t → r ≡ same_name (view_at img) s t → r ≡ false → ApartTo img s (t + 1)
    pair_turn t r h e g = record { told = all_more (λ u. not (same_name (view_at img) s u)) t h.told (ap not (sym e ∙ g)) }

    -- s looked back at all records below r
    module _ (r : ℕ) (looks : LooksBack (view_at img) s r) where
      pub apart_turn : (t : ℕ) → Apart img s → t ≤ r → r ≤ t → ApartTo img s t → Apart img (s + 1)
      apart_turn t h a b p =
          let e : t ≡ r = omega arith in
          record { told = all_more (names_at (view_at img)) s h.told (looks.rest (rw e at p.told)) }

      pub apart_stop : (n t : ℕ) (b : Bool) → s < n → t < r → b ≡ same_name (view_at img) s t → b ≡ true → false ≡ namesb n (view_at img)
      unfolding namesb names_at
      apart_stop n t b l m e g =
          sym
          (all_fails (names_at (view_at img)) n s l
          (all_fails (λ u. not (same_name (view_at img) s u)) s t (omega (arith, looks.low)) (ap not (sym e ∙ g))))

    pub apart-end : (n : ℕ) (r : Bool) → s ≤ n → n ≤ s → r ≡ true → Apart img s → r ≡ namesb n (view_at img)
    unfolding namesb
    apart-end n r a b g h = let e : s ≡ n = omega arith in g ∙ sym (rw e at h.told)

-- how far s looks back: all the way
pub looks_all : (v : ℕ → View) (s : ℕ) → LooksBack v s s
unfolding names_at
looks_all v s = record { low = omega arith; rest = λ h. h }

-- not at all, where it has no name; b is the one that was read
module _ (img : List ℕ) (s : ℕ) (b : List ℕ) (q : b ≡ name_of (rec_at img s)) (h : length b ≡ 0) where
  pub unnamed : has_name (view_at img) s ≡ false
  unfolding has_name
  unnamed = rw (← q, no_name b h)

  pub looks_unnamed : LooksBack (view_at img) s 0
  unfolding names_at
  looks_unnamed =
      record {
        low = omega arith;
        rest = λ t. each_all (λ u. not (same_name (view_at img) s u)) s (λ u l. ap not (sym (name-none img s u b q h)));
      }

-- not at all, where its key k is new; r says whether k was seen
module _ (img : List ℕ) (n s : ℕ) (sized : Sized img n) (low : s < n) (good : recordsb img n ≡ true) (seen : List ℕ)
    (keyed : Keyed (has_name (view_at img)) (name_key_at img) s seen) (k : ℕ) (r : Bool) (e : k ≡ name_key (rec_at img s)) (f : r ≡ marked seen k)
    (g : r ≡ false) where
  long : (t : ℕ) → t < n → length (rec_at img t) ≡ 64
  long t l = length_record img t (within-sized img n t sized l).0

  -- the same name was seen before, with its key
  other : (t : ℕ) → t < s → same_name (view_at img) s t ≡ true → ⊥
  unfolding same_name has_name
  other t l h =
      let p = (and-says (not (same_list (name_of (rec_at img s)) [])) (same_list (name_of (rec_at img t)) (name_of (rec_at img s)))).0 h in
      let same : name_of (rec_at img t) ≡ name_of (rec_at img s) = (same-says (name_of (rec_at img t)) (name_of (rec_at img s))).0 p.1 in
      let key = same-name_key (rec_at img t) (rec_at img s) (long t (omega arith)) (long s low) (name_padded img n t good (omega arith))
      (name_padded img n s good low) same in
      false≢true (sym g ∙ f ∙ ap (marked seen) (e ∙ sym key) ∙ keyed.has t l (rw same p.0))

  pub looks_new : LooksBack (view_at img) s 0
  unfolding names_at
  looks_new =
      record {
        low = omega arith;
        rest = λ t. each_all (λ u. not (same_name (view_at img) s u)) s
            (λ u l. (not-says (same_name (view_at img) s u)).1 (other u l));
      }

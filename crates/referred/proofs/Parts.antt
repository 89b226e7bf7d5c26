-- The part that a place tells lies within its slice, and is the rule that decides.
use mathlib.Core.Path.{◌≡◌, refl, sym, ◌∙◌, ap, subst}
use mathlib.Core.Bool.{Bool, true, false, cond, ◌&&◌}
use mathlib.Core.List.{List, []}
use Prim.Native.Nat.{ℕ, suc, ◌+◌, ◌-◌, ◌≤◌}
use native.Mathlib.Omega.{arith}
use lib.ListN.{length, get_or, take, drop, length-drop}
use lib.Dec.{eqb}
use borrow.Author.Tests.{eqb-false}
use Rattle.std.specs.Prelude.{Option, Some, None, unwrap_or}
use Rattle.laws.specs.Lists.{part}
use Rattle.laws.specs.Walks.{first_below}
use Rattle.laws.proofs.Firsts.{first_is}
use Rattle.image.specs.Layout.{rec_at, form_of, record_length_of}
use Rattle.access.specs.Access.{referred}
use Rattle.pool.specs.Records.{has_record}
use Rattle.sound.specs.Table.{view_at}
use Rattle.kinship.specs.Climb.{Rooted, Stands}
use Rattle.referred.specs.declared.Place.{Place}
use Rattle.referred.specs.declared.Place.TheVariants.{InImage, InPool}
use Rattle.referred.specs.Padding.{ends_at, unpadded_end}
use Rattle.referred.specs.Nearest.{nearest_of}
use Rattle.referred.specs.Deciding.{named_file_of, named_record_of, is_linear, record_start, row_at, in_pool, held_place, taken_place}
use Rattle.referred.specs.Deciding.{referred_place, own_place, place_of, Lies, PlaceLies, part_of, deciding_rule}
use Rattle.referred.proofs.Places.{take_short}

-- the rule of a record ends within it
pub end-within : (s : List ℕ) → unpadded_end s ≤ length s
unfolding unpadded_end
end-within s = go (first_below (suc (length s)) (ends_at s)) refl
  where
    go : (f : Option ℕ) → first_below (suc (length s)) (ends_at s) ≡ f → unwrap_or f 0 ≤ length s
    go None q = omega arith
    go (Some k) q = omega (arith, (first_is (suc (length s)) (ends_at s) k q).low)

part_left : (l : List ℕ) (a z : ℕ) → length (part l a z) ≤ length l - a
unfolding part
part_left l a z = omega (arith, (take_short z (drop a l)).1, length-drop a l)

module _ (img pool : List ℕ) where
  either : (b : Bool) (p q : Option Place) → (b ≡ true → PlaceLies img pool p) → (b ≡ false → PlaceLies img pool q) → PlaceLies img pool (cond b p q)
  either true p q f g = f refl
  either false p q f g = g refl

  held-within : (t k : ℕ) → PlaceLies img pool (held_place img pool t k)
  unfolding held_place
  held-within t k =
      either (is_linear (rec_at img t) && has_record img t k) (in_pool from end) None
      (λ e. either (eqb end 0) None (Some (InPool from (from + end))) (λ q. tt) (λ q. there (eqb-false end 0 q))) (λ e. tt)
    where
      from : ℕ
      from = record_start img t k

      end : ℕ
      end = unpadded_end (row_at img pool t k)

      long : length (row_at img pool t k) ≤ length pool - from
      long = part_left pool from (record_length_of (rec_at img t))

      there : (end ≡ 0 → ⊥) → Lies pool from (from + end)
      there z = record { order = omega arith; end = omega (arith, z, long, end-within (row_at img pool t k)) }

  taken_within : (s k : ℕ) (f : Option ℕ) → PlaceLies img pool (taken_place img pool s k f)
  taken_within s k None = tt
  taken_within s k (Some t) = either (eqb t s) None (held_place img pool t k) (λ e. tt) (λ e. held-within t k)

  -- every place that is told lies within its slice
  pub place-within : (n s : ℕ) → Rooted img n → Stands img n s → get_or (rec_at img s) 33 0 ≤ 30 → PlaceLies img pool (place_of n img pool s)
  unfolding place_of referred_place own_place
  place-within n s rooted st short =
      either (eqb (form_of (rec_at img s)) referred) (referred_place n img pool s) (Some (own_place img s))
      (λ e. taken_within s (named_record_of (rec_at img s)) (nearest_of n (view_at img) (view_at img s).parent (named_file_of (rec_at img s))))
      (λ e. record { order = omega arith; end = omega (arith, short, st.low, rooted.sized.long) })

-- r is the place that was told: what its part is
module _ (n : ℕ) (img pool : List ℕ) (s : ℕ) (r : Option Place) (e : r ≡ place_of n img pool s) where
  pub part_none : r ≡ None → [] ≡ deciding_rule n img pool s
  unfolding deciding_rule
  part_none q = ap (part_of img pool) (sym q ∙ e)

  -- .. where it is x, from one byte to another
  module _ (x : Place) (q : r ≡ Some x) (from to : ℕ) where
    pub part-image : x ≡ InImage from to → take (to - from) (drop from img) ≡ deciding_rule n img pool s
    unfolding deciding_rule part
    part-image h = ap (part_of img pool) (ap (λ (p : Place). Some p) (sym h) ∙ sym q ∙ e)

    pub part-pool : x ≡ InPool from to → take (to - from) (drop from pool) ≡ deciding_rule n img pool s
    unfolding deciding_rule part
    part-pool h = ap (part_of img pool) (ap (λ (p : Place). Some p) (sym h) ∙ sym q ∙ e)

    -- .. and that it lies there
    module _ (rooted : Rooted img n) (st : Stands img n s) (short : get_or (rec_at img s) 33 0 ≤ 30) where
      pub image_lies : x ≡ InImage from to → Lies img from to
      image_lies h = subst (PlaceLies img pool) (sym e ∙ q ∙ ap (λ (p : Place). Some p) h) (place-within img pool n s rooted st short)

      pub pool_lies : x ≡ InPool from to → Lies pool from to
      pool_lies h = subst (PlaceLies img pool) (sym e ∙ q ∙ ap (λ (p : Place). Some p) h) (place-within img pool n s rooted st short)

-- The rule that a record holds is its bytes without padding; so only those bytes of the pool tell which rule decides.
use mathlib.Core.Path.{◌≡◌, refl, sym, ◌∙◌, ap}
use mathlib.Core.Bool.{Bool, true, false, cond, ◌&&◌}
use mathlib.Core.List.{List, []}
use Prim.Native.Nat.{ℕ, ◌+◌, ◌-◌, ◌<◌, ◌≤◌}
use native.Mathlib.Omega.{arith}
use lib.Dec.{eqb}
use lib.ListN.{length, take, drop}
use lib.Seq.{take-take}
use borrow.Author.Tests.{eqb-true}
use Rattle.std.specs.Prelude.{Option, Some, None}
use Rattle.laws.specs.Lists.{part}
use Rattle.image.specs.Layout.{rec_at, form_of, record_length_of}
use Rattle.access.specs.Access.{referred}
use Rattle.pool.specs.Records.{has_record}
use Rattle.sound.specs.Table.{view_at}
use Rattle.referred.specs.declared.Place.TheVariants.{InPool}
use Rattle.referred.specs.Padding.{unpadded_end, unpadded}
use Rattle.referred.specs.Nearest.{nearest_of}
use Rattle.referred.specs.Deciding.{named_file_of, named_record_of, is_linear, record_start, row_at, in_pool, held_place, taken_place}
use Rattle.referred.specs.Deciding.{referred_place, own_place, place_of, part_of, deciding_rule}
use Rattle.referred.proofs.Climbing.{nearest-low}
use Rattle.referred.proofs.Places.{take_short}
use Rattle.referred.proofs.Parts.{end-within}

pub held-rule : (img pool : List ℕ) (t k : ℕ)
    → part_of img pool (held_place img pool t k) ≡ cond (is_linear (rec_at img t) && has_record img t k) (unpadded (row_at img pool t k)) []
unfolding held_place unpadded row_at part
held-rule img pool t k = go (is_linear (rec_at img t) && has_record img t k)
  where
    from : ℕ
    from = record_start img t k

    long : ℕ
    long = record_length_of (rec_at img t)

    row : List ℕ
    row = take long (drop from pool)

    there : (end : ℕ) → end ≤ length row → (b : Bool) → eqb end 0 ≡ b → part_of img pool (cond b None (Some (InPool from (from + end)))) ≡ take end row
    there end h true e = let z : end ≡ 0 = eqb-true end 0 e in rw z
    there end h false e =
        let z : from + end - from ≡ end = omega arith in
        ap (λ (j : ℕ). take j (drop from pool)) z
        ∙ sym (take-take end long (drop from pool) (omega (arith, h, (take_short long (drop from pool)).0)))

    go : (b : Bool) → part_of img pool (cond b (in_pool from (unpadded_end row)) None) ≡ cond b (take (unpadded_end row) row) []
    go true = there (unpadded_end row) (end-within row) (eqb (unpadded_end row) 0) refl
    go false = refl

-- two pools in which the record that slot s names is the same, in any file that could be meant
module _ (n : ℕ) (img pool other : List ℕ) (s : ℕ) where
  pub rule_alike : (form_of (rec_at img s) ≡ referred → (t : ℕ) → t < n → (is_linear (rec_at img t) && has_record img t (named_record_of (rec_at img s))) ≡ true
      → row_at img pool t (named_record_of (rec_at img s)) ≡ row_at img other t (named_record_of (rec_at img s)))
      → deciding_rule n img pool s ≡ deciding_rule n img other s
  unfolding deciding_rule place_of referred_place own_place
  rule_alike rows = form (eqb (form_of (rec_at img s)) referred) refl
    where
      k : ℕ
      k = named_record_of (rec_at img s)

      file : Option ℕ
      file = nearest_of n (view_at img) (view_at img s).parent (named_file_of (rec_at img s))

      at : (t : ℕ) → t < n → form_of (rec_at img s) ≡ referred → part_of img pool (held_place img pool t k) ≡ part_of img other (held_place img other t k)
      at t l e = held-rule img pool t k ∙ go (is_linear (rec_at img t) && has_record img t k) refl ∙ sym (held-rule img other t k)
        where
          go : (b : Bool) → (is_linear (rec_at img t) && has_record img t k) ≡ b
              → cond b (unpadded (row_at img pool t k)) [] ≡ cond b (unpadded (row_at img other t k)) []
          go true q = ap unpadded (rows e t l q)
          go false q = refl

      taken : (f : Option ℕ) → file ≡ f → form_of (rec_at img s) ≡ referred
          → part_of img pool (taken_place img pool s k f) ≡ part_of img other (taken_place img other s k f)
      taken None q e = refl
      taken (Some t) q e =
          go (eqb t s) (at t (nearest-low img n (view_at img s).parent (named_file_of (rec_at img s)) t q) e)
        where
          go : (b : Bool) → part_of img pool (held_place img pool t k) ≡ part_of img other (held_place img other t k)
              → part_of img pool (cond b None (held_place img pool t k)) ≡ part_of img other (cond b None (held_place img other t k))
          go true h = refl
          go false h = h

      form : (b : Bool) → eqb (form_of (rec_at img s)) referred ≡ b
          → part_of img pool (cond b (taken_place img pool s k file) (Some (own_place img s))) ≡ part_of img other (cond b (taken_place img other s k file) (Some (own_place img s)))
      form true q = taken file refl (eqb-true (form_of (rec_at img s)) referred q)
      form false q = refl

-- Where a rule stands, by each way out of the functions that tell it.
use mathlib.Core.Path.{◌≡◌, refl, sym, ◌∙◌, ap}
use mathlib.Core.Bool.{Bool, true, false, not}
use mathlib.Core.List.{List, []}
use mathlib.Core.Logic.{⊎_elim}
use Prim.Native.Nat.{ℕ, ◌+◌, ◌*◌, ◌-◌, ◌<◌, ◌≤◌, ◌%◌}
use native.Mathlib.Omega.{arith}
use lib.ListN.{length, get_or, take, drop, length-drop, drop_of_length-le}
use lib.Seq.{length-take-le, take_all}
use lib.Dec.{eqb}
use borrow.Author.Tests.{eq-eqb, ne_eqb, not-true, not-false}
use Rattle.std.specs.Prelude.{Option, Some, None}
use Rattle.laws.specs.Lists.{part}
use Rattle.laws.proofs.Says.{lt-or}
use Rattle.numbers.specs.Numbers.{u16_at}
use Rattle.rules.specs.Descriptor.{ef}
use Rattle.image.specs.Layout.{Within, base, rec_at, kind_of, descriptor_of, form_of, record_length_of, start_of}
use Rattle.image.proofs.Places.{byte_in, u16_in}
use Rattle.access.specs.Access.{referred}
use Rattle.pool.specs.Records.{has_record}
use Rattle.sound.specs.Table.{view_at}
use Rattle.kinship.specs.Climb.{Rooted, Stands}
use Rattle.referred.specs.declared.Place.{Place}
use Rattle.referred.specs.declared.Place.TheVariants.{InImage, InPool}
use Rattle.referred.specs.Padding.{unpadded_end}
use Rattle.referred.specs.Nearest.{nearest_of}
use Rattle.referred.specs.Deciding.{named_file_of, named_record_of, is_linear, record_start, row_at, held_place, taken_place, referred_place, own_place}
use Rattle.referred.specs.Deciding.{place_of}
use Rattle.referred.proofs.Climbing.{nearest-low}

-- the three bytes of a referred rule, and the length of any, read in the image
module _ (img : List ℕ) (s : ℕ) where
  pub file-in : named_file_of (rec_at img s) ≡ u16_at img (base s + 34)
  unfolding named_file_of
  file-in = u16_in img s 34 (omega arith)

  pub number_in : named_record_of (rec_at img s) ≡ get_or img (base s + 36) 0
  unfolding named_record_of
  number_in = byte_in img s 36 (omega arith)

  pub own_is : {z : ℕ} → z ≡ get_or img (base s + 33) 0 → InImage (base s + 34) (base s + 34 + z) ≡ own_place img s
  unfolding own_place
  own_is e = ap (λ (k : ℕ). InImage (base s + 34) (base s + 34 + k)) (e ∙ sym (byte_in img s 33 (omega arith)))

-- where record k begins: a is the start, z the record length, as they were read
pub start-at : (img : List ℕ) (t k : ℕ) {a z : ℕ} → a ≡ start_of (rec_at img t) → z ≡ record_length_of (rec_at img t)
    → a + (k - 1) * z ≡ record_start img t k
start-at img t k e f = rw (e, f) refl

-- a linear fixed EF: z is its kind, d its descriptor, as they were read
module _ (r : List ℕ) (z : ℕ) (e : z ≡ kind_of r) where
  pub linear-no : (z ≡ ef → ⊥) → false ≡ is_linear r
  unfolding is_linear
  linear-no h = rw (← e, ne_eqb z ef h)

  pub linear-last : (d : ℕ) → z ≡ ef → d ≡ descriptor_of r → eqb (d % 8) 2 ≡ is_linear r
  unfolding is_linear
  linear-last d h f = rw (← e, eq-eqb z ef h, ← f)

-- so many bytes of the pool from a place on: none, those that are left, all
module _ (pool : List ℕ) (from count : ℕ) where
  pub stretch_none : length pool ≤ from → [] ≡ part pool from count
  unfolding part
  stretch_none h = sym (ap (take count) (drop_of_length-le pool h) ∙ take_all count [] (omega arith))

  pub stretch_rest : length pool - from < count → take (length pool - from) (drop from pool) ≡ part pool from count
  unfolding part
  stretch_rest h =
      take_all (length pool - from) (drop from pool) (omega (arith, length-drop from pool))
      ∙ sym (take_all count (drop from pool) (omega (arith, length-drop from pool)))

  pub stretch_all : take (from + count - from) (drop from pool) ≡ part pool from count
  unfolding part
  stretch_all = let e : from + count - from ≡ count = omega arith in ap (λ (k : ℕ). take k (drop from pool)) e

-- a part has no more bytes than were asked for, and no more than there are
pub take_short : (z : ℕ) (l : List ℕ) → (length (take z l) ≤ z) × (length (take z l) ≤ length l)
take_short z l = ⊎_elim
    (λ h. let e : length (take z l) ≡ z = length-take-le z l (omega (arith, h)) in (omega (arith, e), omega (arith, e, h)))
    (λ h. let e : length (take z l) ≡ length l = ap length (take_all z l h) in (omega (arith, e, h), omega (arith, e)))
    (lt-or z (length l))

pub rule-small : (pool : List ℕ) (from z : ℕ) (row : List ℕ) (end : ℕ) → row ≡ part pool from z → end ≤ length row
    → from < 33554432 → z < 65536 → from + end < 67108864
unfolding part
rule-small pool from z row end e h a b =
    let f : length row ≡ length (take z (drop from pool)) = ap length e in
    omega (arith, f, h, a, b, (take_short z (drop from pool)).0)

-- the rule in record k of the file in slot t: b and h are what was answered of the file and of the number
module _ (img pool : List ℕ) (t k : ℕ) (b : Bool) (f : b ≡ is_linear (rec_at img t)) where
  pub held-other : not b ≡ true → None ≡ held_place img pool t k
  unfolding held_place
  held-other e = rw (← f, not-true b e)

  module _ (l : not b ≡ false) (h : Bool) (g : h ≡ has_record img t k) where
    pub held-past : not h ≡ true → None ≡ held_place img pool t k
    unfolding held_place
    held-past e = rw (← f, not-false b l, ← g, not-true h e)

    -- `from` and z are where the record begins and how long it is, row its bytes, end where its rule ends
    module _ (p : not h ≡ false) (from z : ℕ) (row : List ℕ) (i : from ≡ record_start img t k) (j : z ≡ record_length_of (rec_at img t))
        (q : row ≡ part pool from z) (end : ℕ) (u : end ≡ unpadded_end row) where
      whole : end ≡ unpadded_end (row_at img pool t k)
      whole = u ∙ ap unpadded_end (q ∙ ap (λ (a : ℕ). part pool a z) i ∙ ap (part pool (record_start img t k)) j)

      pub held-malformed : end ≡ 0 → None ≡ held_place img pool t k
      unfolding held_place
      held-malformed e = rw (← f, not-false b l, ← g, not-false h p, ← whole, eq-eqb end 0 e)

      pub held-there : (end ≡ 0 → ⊥) → Some (InPool from (from + end)) ≡ held_place img pool t k
      unfolding held_place
      held-there e = rw (← f, not-false b l, ← g, not-false h p, ← whole, ne_eqb end 0 e, ← i)

pub ruleset helds = (held-other, held-past, held-malformed, held-there)

-- the parent of a file stands
pub parent_stands : (img : List ℕ) (n s p : ℕ) → Rooted img n → Stands img n s → p ≡ (view_at img s).parent → Stands img n p
parent_stands img n s p rooted h e = rw e (rooted.parent s h)

-- the file that was found is a slot of the card
found-low : (img : List ℕ) (n p x t : ℕ) (f : Option ℕ) → f ≡ nearest_of n (view_at img) p x → f ≡ Some t → t < n
found-low img n p x t f e q = nearest-low img n p x t (sym e ∙ q)

pub found_within : (img : List ℕ) (n p x t : ℕ) (f : Option ℕ) → Rooted img n → f ≡ nearest_of n (view_at img) p x → f ≡ Some t → Within img t
found_within img n p x t f rooted e q =
    let h : t < n = found-low img n p x t f e q in
    (omega (arith, h, rooted.sized.long), omega (arith, h, rooted.sized.most))

-- the file that slot s names: p is its parent, x the identifier, f what was found
module _ (n : ℕ) (img pool : List ℕ) (s p x : ℕ) (f : Option ℕ) (a : p ≡ (view_at img s).parent) (b : x ≡ named_file_of (rec_at img s))
    (e : f ≡ nearest_of n (view_at img) p x) where
  same-file : f ≡ nearest_of n (view_at img) (view_at img s).parent (named_file_of (rec_at img s))
  same-file = e ∙ ap (λ (d : ℕ). nearest_of n (view_at img) d x) a ∙ ap (nearest_of n (view_at img) (view_at img s).parent) b

  pub referred-none : f ≡ None → None ≡ referred_place n img pool s
  unfolding referred_place
  referred-none q = ap (taken_place img pool s (named_record_of (rec_at img s))) (sym q ∙ same-file)

  module _ (t : ℕ) (q : f ≡ Some t) where
    found : taken_place img pool s (named_record_of (rec_at img s)) (Some t) ≡ referred_place n img pool s
    unfolding referred_place
    found = ap (taken_place img pool s (named_record_of (rec_at img s))) (sym q ∙ same-file)

    pub referred-itself : t ≡ s → None ≡ referred_place n img pool s
    referred-itself h = sym (rw (eq-eqb t s h)) ∙ found

    pub referred-held : (k : ℕ) {m : Option Place} → (t ≡ s → ⊥) → k ≡ named_record_of (rec_at img s) → m ≡ held_place img pool t k
        → m ≡ referred_place n img pool s
    referred-held k {m} h c d = d ∙ ap (held_place img pool t) c ∙ sym (rw (ne_eqb t s h)) ∙ found

pub ruleset referrals = (referred-none, referred-itself, referred-held)

-- the form z tells whether the rule stands elsewhere
module _ (n : ℕ) (img pool : List ℕ) (s z : ℕ) (e : z ≡ form_of (rec_at img s)) where
  pub place-referred : {m : Option Place} → z ≡ referred → m ≡ referred_place n img pool s → m ≡ place_of n img pool s
  unfolding place_of
  place-referred {m} h q = rw (← e, eq-eqb z referred h) q

  pub place-own : (z ≡ referred → ⊥) → {o : Place} → o ≡ own_place img s → Some o ≡ place_of n img pool s
  unfolding place_of
  place-own h q = rw (← e, ne_eqb z referred h) (ap (λ (k : Place). Some k) q)

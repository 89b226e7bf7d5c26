-- Where the rule that decides on a file stands, and the rule itself (02 Ticket 7): in the file's own record, or in a record of the linear
-- fixed EF that it names. n is the slot count. It is read in the pool as it is at that moment.
use Rattle.std.specs.Prelude.{ℕ, ◌+◌, ◌*◌, ◌-◌, ◌<◌, ◌≤◌, Bool, cond, ◌&&◌, List, [], eqb, length, get_or, Option, Some, None}
use Rattle.laws.specs.Lists.{part}
use Rattle.numbers.specs.Numbers.{u16_at}
use Rattle.rules.specs.Descriptor.{structure_of, ef}
use Rattle.image.specs.Layout.{base, rec_at, kind_of, descriptor_of, form_of, record_length_of, start_of}
use Rattle.access.specs.Access.{referred}
use Rattle.pool.specs.Records.{has_record}
use Rattle.sound.specs.Table.{view_at}
use Rattle.referred.specs.declared.Place.{Place}
use Rattle.referred.specs.declared.Place.TheVariants.{InImage, InPool}
use Rattle.referred.specs.Padding.{unpadded_end}
use Rattle.referred.specs.Nearest.{nearest_of}

-- the three bytes of a referred rule: the identifier of a file, the number of a record
unfoldable pub named_file_of : List ℕ → ℕ
named_file_of r = u16_at r 34

unfoldable pub named_record_of : List ℕ → ℕ
named_record_of r = get_or r 36 0

-- a linear fixed EF: structure 010. Its life cycle isn't regarded
unfoldable pub is_linear : List ℕ → Bool
is_linear r = eqb (kind_of r) ef && eqb (structure_of (descriptor_of r)) 0b010

-- record k of the file in slot t: where it begins in the pool, and its bytes
abbrev pub record_start : List ℕ → ℕ → ℕ → ℕ
record_start img t k = start_of (rec_at img t) + (k - 1) * record_length_of (rec_at img t)

abbrev pub row_at : List ℕ → List ℕ → ℕ → ℕ → List ℕ
row_at img pool t k = part pool (record_start img t k) (record_length_of (rec_at img t))

-- a rule of so many bytes from a byte of the pool on; one of no bytes stands nowhere: None, here and below
abbrev pub in_pool : ℕ → ℕ → Option Place
in_pool from count = cond (eqb count 0) None (Some (InPool from (from + count)))

-- the rule in record k of the file in slot t: of a linear fixed EF, a record from 1 to the last, without its padding
unfoldable pub held_place : List ℕ → List ℕ → ℕ → ℕ → Option Place
held_place img pool t k =
    cond (is_linear (rec_at img t) && has_record img t k)
    (in_pool (record_start img t k) (unpadded_end (row_at img pool t k)))
    None

-- .. of the file that was found for slot s; none, or the ruled file itself, denies
abbrev pub taken_place : List ℕ → List ℕ → ℕ → ℕ → Option ℕ → Option Place
taken_place img pool s k (Some t) = cond (eqb t s) None (held_place img pool t k)
taken_place img pool s k None = None

-- the rule that slot s names: the file is looked for in the DF that holds the ruled file (the root's is the root), then in each above
unfoldable pub referred_place : ℕ → List ℕ → List ℕ → ℕ → Option Place
referred_place n img pool s =
    taken_place img pool s (named_record_of (rec_at img s))
    (nearest_of n (view_at img) (view_at img s).parent (named_file_of (rec_at img s)))

-- a rule in the file's own record
unfoldable pub own_place : List ℕ → ℕ → Place
own_place img s = InImage (base s + 34) (base s + 34 + get_or (rec_at img s) 33 0)

-- WHERE THE RULE THAT DECIDES ON SLOT s STANDS
unfoldable pub place_of : ℕ → List ℕ → List ℕ → ℕ → Option Place
place_of n img pool s = cond (eqb (form_of (rec_at img s)) referred) (referred_place n img pool s) (Some (own_place img s))

-- the byte at which a place begins, and the one before which it ends
abbrev pub begin_of : Option Place → ℕ
begin_of None = 0
begin_of (Some (InImage from to)) = from
begin_of (Some (InPool from to)) = from

abbrev pub end_of : Option Place → ℕ
end_of None = 0
end_of (Some (InImage from to)) = to
end_of (Some (InPool from to)) = to

-- .. and that it lies within its slice
pub record Lies (s : List ℕ) (from to : ℕ) : Type 0 where
  pub order : from ≤ to
  pub end : to ≤ length s

abbrev pub PlaceLies : List ℕ → List ℕ → Option Place → Type 0
PlaceLies img pool None = Unit {0}
PlaceLies img pool (Some (InImage from to)) = Lies img from to
PlaceLies img pool (Some (InPool from to)) = Lies pool from to

-- .. and that numbers of 32 bits hold it
pub record Bounded (p : Option Place) : Type 0 where
  pub order : begin_of p ≤ end_of p
  pub short : end_of p < 67108864

-- the part of one of two slices that a place tells: from where to where, of the image or of the pool
abbrev pub part_of : List ℕ → List ℕ → Option Place → List ℕ
part_of img pool None = []
part_of img pool (Some (InImage from to)) = part img from (to - from)
part_of img pool (Some (InPool from to)) = part pool from (to - from)

-- .. and the rule; empty where the search denies
unfoldable pub deciding_rule : ℕ → List ℕ → List ℕ → ℕ → List ℕ
deciding_rule n img pool s = part_of img pool (place_of n img pool s)

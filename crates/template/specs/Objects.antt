-- The objects of a template, in 01's order, each at most once (01 "CREATE", data). What is gathered is one
-- value; Form and Data judge it.
use Rattle.std.specs.Prelude.{ℕ, zero, suc, ◌+◌, ◌-◌, ◌≤◌, ◌≡◌, cond, List, [], ◌∷◌, length, get_or, set, replicate, eqb, ltb}
use Rattle.std.specs.Prelude.{Option, Some, None, unwrap_or}
use Rattle.laws.specs.Lists.{part}
use Rattle.template.specs.declared.Object.{Object}
use Rattle.template.specs.declared.Objects.{Objects}
use Rattle.template.specs.declared.Span.{Span}

-- the data object at a place, if one is whole there: a tag, a length of one byte, 00-7F, and as many bytes; the value's place
unfoldable pub object_at : List ℕ → ℕ → Option Object
object_at s at =
    cond (ltb (length s) (at + 2)) None
    (cond (ltb 0x7F (get_or s (at + 1) 0)) None
    (cond (ltb (length s) (at + 2 + get_or s (at + 1) 0)) None
    (Some (record { tag = get_or s at 0; value = record { start = at + 2; end = at + 2 + get_or s (at + 1) 0 } }))))

-- the tags in 01's order, which is both the DF's and the EF's, with AB and 8B in 8C's place (02 Tickets 3 and 7); an object's
-- number is its place here
abbrev pub order : List ℕ
order = 0x82 ∷ 0x83 ∷ 0x84 ∷ 0x8A ∷ 0x8C ∷ 0xAB ∷ 0x8B ∷ 0x80 ∷ 0x81 ∷ 0xC6 ∷ 0x85 ∷ 0xA5 ∷ []

-- where the value of object k stands, 0 to 0 where it is not there; its start, its end, its length, its bytes
abbrev pub nowhere : Span
nowhere = record { start = 0; end = 0 }

abbrev pub place_in : Objects → ℕ → Span
place_in o k = unwrap_or (get_or o.values k None) nowhere

abbrev pub start_in : Objects → ℕ → ℕ
start_in o k = (place_in o k).start

abbrev pub end_in : Objects → ℕ → ℕ
end_in o k = (place_in o k).end

abbrev pub length_in : Objects → ℕ → ℕ
length_in o k = end_in o k - start_in o k

abbrev pub value_in : List ℕ → Objects → ℕ → List ℕ
value_in s o k = part s (start_in o k) (length_in o k)

-- the bytes of a stretch
abbrev pub bytes_at : List ℕ → Span → List ℕ
bytes_at s p = part s p.start (p.end - p.start)

-- object k noted, and the place after it
abbrev pub noted : Objects → ℕ → Span → Objects
noted o k value = record { values = set o.values k (Some value); next = value.end }

abbrev pub on_tag : Objects → ℕ → Option Object → Objects
on_tag o k None = o
on_tag o k (Some x) = cond (eqb x.tag (get_or order k 0)) (noted o k x.value) o

-- the object that comes next is noted, if it is number k
unfoldable pub taken_at : List ℕ → Objects → ℕ → Objects
taken_at s o k = on_tag o k (object_at s o.next)

-- none yet: the first stands behind 62 LL
abbrev pub no_objects : Objects
no_objects = record { values = replicate 12 None; next = 2 }

-- those among the first n of the list
unfoldable pub taken_below : ℕ → List ℕ → Objects
taken_below zero s = no_objects
taken_below (suc n) s = taken_at s (taken_below n s) n

unfoldable pub objects_of : List ℕ → Objects
objects_of s = taken_below 12 s

-- every value stands within the data
pub record InData (s : List ℕ) (o : Objects) : Type 0 where
  pub values_long : length o.values ≡ 12
  pub low : (k : ℕ) → start_in o k ≤ end_in o k
  pub high : (k : ℕ) → end_in o k ≤ length s

-- every value stands within the data, and one that starts at 0 ends there: it is not there, or empty
pub record Held (s : List ℕ) (o : Objects) : Type 0 where
  pub values_long : length o.values ≡ 12
  pub absent : (k : ℕ) → start_in o k ≡ 0 → end_in o k ≡ 0
  pub low : (k : ℕ) → start_in o k ≤ end_in o k
  pub high : (k : ℕ) → end_in o k ≤ length s

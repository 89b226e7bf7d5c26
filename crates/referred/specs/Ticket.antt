-- 02 Ticket 7, sentence by sentence: which file counts, what denies, and what decides. Each is proved in proofs/Ticket under the same name
-- in small letters. n is the slot count; s is the slot of the ruled file, t that of the file that its rule names.
use Rattle.std.specs.Prelude.{ℕ, ◌+◌, ◌*◌, ◌/◌, ◌<◌, ◌≤◌, ◌≡◌, true, false, List, [], ◌∷◌, ◌↔◌, length, get_or, Some, None}
use Rattle.rules.specs.Descriptor.{structure_of, ef}
use Rattle.image.specs.Layout.{Within, rec_at, kind_of, descriptor_of, form_of, rule_of, record_length_of, size_of}
use Rattle.access.specs.Access.{referred}
use Rattle.sound.specs.Table.{View, view_at, up}
use Rattle.sound.specs.Kinship.{child_named}
use Rattle.referred.specs.declared.Place.TheVariants.{InPool}
use Rattle.referred.specs.Padding.{is_padding, Padded}
use Rattle.referred.specs.Nearest.{nearest_of}
use Rattle.referred.specs.Deciding.{named_file_of, named_record_of, is_linear, record_start, row_at, own_place, place_of, deciding_rule}

-- t is the file with identifier x in the directory so many steps up from d, and no directory on the way has one: of any kind
pub record NearestAt (n : ℕ) (v : ℕ → View) (d x t : ℕ) : Type 0 where
  pub steps : ℕ
  pub above : steps ≤ (v d).level
  pub here : child_named n v (up v steps d) x ≡ Some t
  pub nearest : (k : ℕ) → k < steps → child_named n v (up v k d) x ≡ None

-- looked for in a directory, then in each above; the nearest counts, and there is none where no directory up to the root has one
abbrev pub NearestCounts : Type 0
NearestCounts = (n : ℕ) (v : ℕ → View) (d x : ℕ)
    → ((t : ℕ) → (nearest_of n v d x ≡ Some t) ↔ NearestAt n v d x t)
    × ((nearest_of n v d x ≡ None) ↔ ((k : ℕ) → k ≤ (v d).level → child_named n v (up v k d) x ≡ None))

-- a compact or an expanded rule stands in the record itself
abbrev pub OwnRule : Type 0
OwnRule = (n : ℕ) (img pool : List ℕ) (s : ℕ) → (form_of (rec_at img s) ≡ referred → ⊥)
    → (place_of n img pool s ≡ Some (own_place img s))
    × (Within img s → get_or (rec_at img s) 33 0 ≤ 30 → deciding_rule n img pool s ≡ rule_of (rec_at img s))

-- slot s has a referred rule, and the file that it names is in slot t: looked for from the DF that holds the ruled file on
pub record Names (n : ℕ) (img : List ℕ) (s t : ℕ) : Type 0 where
  pub form : form_of (rec_at img s) ≡ referred
  pub found : NearestAt n (view_at img) (view_at img s).parent (named_file_of (rec_at img s)) t

-- the three bytes of the rule: identifier, high byte first, and record number
abbrev pub ReferenceRead : Type 0
ReferenceRead = (r : List ℕ) (a b k : ℕ) → rule_of r ≡ a ∷ b ∷ k ∷ [] → (named_file_of r ≡ a * 256 + b) × (named_record_of r ≡ k)

-- a linear fixed EF is one by its kind and its structure, and by nothing else: its life cycle isn't regarded
abbrev pub LinearFixed : Type 0
LinearFixed = (r : List ℕ) → (is_linear r ≡ true) ↔ ((kind_of r ≡ ef) × (structure_of (descriptor_of r) ≡ 0b010))

-- padding is FF bytes, and nothing else
abbrev pub PaddingFF : Type 0
PaddingFF = (s : List ℕ) → (is_padding s ≡ true) ↔ ((i : ℕ) → i < length s → get_or s i 0 ≡ 0xFF)

-- no file denies; one that isn't linear fixed; a record number 0 or past the last; a malformed rule; a file that names itself
pub record Denials : Type 0 where
  pub missing : (n : ℕ) (img pool : List ℕ) (s : ℕ) → form_of (rec_at img s) ≡ referred
      → ((k : ℕ) → k ≤ (view_at img (view_at img s).parent).level
      → child_named n (view_at img) (up (view_at img) k (view_at img s).parent) (named_file_of (rec_at img s)) ≡ None)
      → place_of n img pool s ≡ None
  pub itself : (n : ℕ) (img pool : List ℕ) (s : ℕ) → Names n img s s → place_of n img pool s ≡ None
  pub other : (n : ℕ) (img pool : List ℕ) (s t : ℕ) → Names n img s t → is_linear (rec_at img t) ≡ false → place_of n img pool s ≡ None
  pub zeroth : (n : ℕ) (img pool : List ℕ) (s t : ℕ) → Names n img s t
      → named_record_of (rec_at img s) ≡ 0 → place_of n img pool s ≡ None
  pub past : (n : ℕ) (img pool : List ℕ) (s t : ℕ) → Names n img s t → 0 < record_length_of (rec_at img t)
      → size_of (rec_at img t) / record_length_of (rec_at img t) < named_record_of (rec_at img s) → place_of n img pool s ≡ None
  pub malformed : (n : ℕ) (img pool : List ℕ) (s t : ℕ) → Names n img s t
      → ((r : List ℕ) → Padded (row_at img pool t (named_record_of (rec_at img s))) r → ⊥) → place_of n img pool s ≡ None

-- .. each with an empty part
abbrev pub DeniedEmpty : Type 0
DeniedEmpty = (n : ℕ) (img pool : List ℕ) (s : ℕ) → place_of n img pool s ≡ None → deciding_rule n img pool s ≡ []

-- else the rule decides that the record holds, and it is that part of the pool, without padding
abbrev pub Decides : Type 0
Decides = (n : ℕ) (img pool : List ℕ) (s t : ℕ) (r : List ℕ) → Names n img s t → (t ≡ s → ⊥) → is_linear (rec_at img t) ≡ true
    → 0 < record_length_of (rec_at img t) → 1 ≤ named_record_of (rec_at img s)
    → named_record_of (rec_at img s) ≤ size_of (rec_at img t) / record_length_of (rec_at img t)
    → Padded (row_at img pool t (named_record_of (rec_at img s))) r
    → (place_of n img pool s
    ≡ Some (InPool (record_start img t (named_record_of (rec_at img s))) (record_start img t (named_record_of (rec_at img s)) + length r)))
    × (deciding_rule n img pool s ≡ r)

-- a record is one rule and padding at most
abbrev pub OneRule : Type 0
OneRule = (s r q : List ℕ) → Padded s r → Padded s q → r ≡ q

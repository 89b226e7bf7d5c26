-- Access rules of every form, by the number of the form that a record keeps: 0 compact (01 "Descriptor and rules"), 1 expanded
-- (02 Ticket 3), 2 referred (02 Ticket 7): it names a rule that stands elsewhere. What a rule decides, and which may stand in a record.
use Rattle.std.specs.Prelude.{ℕ, ◌≡◌, Bool, false, cond, ◌&&◌, List, length, eqb, ltb, leb}
use Rattle.rules.specs.declared.Right.{Right}
use Rattle.rules.specs.declared.Sets.{Sets}
use Rattle.rules.specs.Rule.{compact_formed, compact_grants}
use Rattle.expanded.specs.Expanded.{expanded_formed, expanded_grants}
use Rattle.expanded.specs.Writing.{expanded_writing}
use Rattle.image.specs.Layout.{longest_rule, forms_of}

abbrev pub compact : ℕ
compact = 0

abbrev pub expanded : ℕ
expanded = 1

abbrev pub referred : ℕ
referred = 2

-- the tag of the object that a rule of a form stands in, where CREATE takes it and SELECT tells it
abbrev pub tag_of : ℕ → ℕ
tag_of form = cond (eqb form compact) 0x8C (cond (eqb form expanded) 0xAB 0x8B)

-- a referred rule is well formed: an identifier and a record number, which nothing judges further
abbrev pub referred_formed : List ℕ → Bool
referred_formed rule = eqb (length rule) 3

-- a rule is well formed, by its form
unfoldable pub well_formed : ℕ → List ℕ → Bool
well_formed form rule =
    cond (eqb form compact) (compact_formed rule)
    (cond (eqb form expanded) (expanded_formed rule)
    (cond (eqb form referred) (referred_formed rule) false))

-- it may stand in a record of a version: 1 byte to as many as the version has for it, in a form that the version has, well formed
unfoldable pub fits_record : ℕ → ℕ → List ℕ → Bool
fits_record v form rule =
    leb 1 (length rule) && (leb (length rule) (longest_rule v) && (ltb form (forms_of v) && well_formed form rule))

-- what a rule decides on a right; a form that nobody knows denies. So does a referred rule: its three bytes are no rule but the place of
-- one, and only that one, where it is found, is asked
unfoldable pub granted_of : ℕ → List ℕ → Right → Sets → Bool
granted_of form rule right x =
    cond (eqb form compact) (compact_grants rule right x)
    (cond (eqb form expanded) (expanded_grants rule right x) false)

-- the form in which the rule that decides is asked: what a referred rule names is an expanded rule; any other rule decides itself
unfoldable pub asked_as : ℕ → ℕ
asked_as form = cond (eqb form referred) expanded form

-- the two writings of a rule, asked in the one way (proofs/Alike, `writings_alike`)
abbrev pub WritingsAlike : Type 0
WritingsAlike = (rule : List ℕ) (right : Right) (x : Sets)
    → granted_of expanded (expanded_writing rule) right x ≡ granted_of compact rule right x

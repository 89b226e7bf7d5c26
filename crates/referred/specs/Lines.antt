-- Both sides of each line of 02 Ticket 7, computed: where the rule of a padded record ends, and where the rule that decides stands on cards
-- of five slots. Proved in proofs/Lines, `ends-told`, `places_told`.
use Rattle.std.specs.Prelude.{ℕ, ◌/◌, ◌%◌, ◌≡◌, List, [], ◌∷◌, ◌++◌, replicate}
use Rattle.std.specs.Prelude.{Option, Some, None}
use Rattle.access.specs.Access.{compact, referred}
use Rattle.referred.specs.declared.Place.{Place}
use Rattle.referred.specs.declared.Place.TheVariants.{InImage, InPool}
use Rattle.referred.specs.Padding.{unpadded_end}
use Rattle.referred.specs.Deciding.{place_of, deciding_rule}
use Rattle.referred.specs.Ticket.{Names}

-- an SC byte FF and padding; the same without; two conditions; FF only; a rule cut by padding; something after padding; no byte; 00 as
-- padding
abbrev pub EndsTold : Type 0
EndsTold =
    (unpadded_end (0x80 ∷ 0x01 ∷ 0x08 ∷ 0x9E ∷ 0x01 ∷ 0xFF ∷ 0xFF ∷ 0xFF ∷ [])
    ∷ unpadded_end (0x80 ∷ 0x01 ∷ 0x08 ∷ 0x9E ∷ 0x01 ∷ 0xFF ∷ [])
    ∷ unpadded_end (0x80 ∷ 0x01 ∷ 0x40 ∷ 0x90 ∷ 0x00 ∷ 0x97 ∷ 0x00 ∷ 0xFF ∷ [])
    ∷ unpadded_end (0xFF ∷ 0xFF ∷ 0xFF ∷ [])
    ∷ unpadded_end (0x80 ∷ 0x01 ∷ 0x7F ∷ 0x9E ∷ 0xFF ∷ 0xFF ∷ [])
    ∷ unpadded_end (0x80 ∷ 0x01 ∷ 0x7F ∷ 0x90 ∷ 0x00 ∷ 0xFF ∷ 0x90 ∷ 0x00 ∷ [])
    ∷ unpadded_end []
    ∷ unpadded_end (0x80 ∷ 0x01 ∷ 0x7F ∷ 0x90 ∷ 0x00 ∷ 0x00 ∷ [])
    ∷ [])
    ≡ 6 ∷ 6 ∷ 7 ∷ 0 ∷ 0 ∷ 0 ∷ 0 ∷ 0 ∷ []

-- A card: 0 the root; 1 a DF 7F10 in it; 2 a file 6F06 in the root; 3 an EF 6F07 in 7F10; 4 another file in 7F10. All but the last have a
-- referred rule: 6F06, record k

-- a record: kind, descriptor, life cycle, form, identifier, parent, level, record length, size, the record number of its rule, start
abbrev pub file : ℕ → ℕ → ℕ → ℕ → ℕ → ℕ → ℕ → ℕ → ℕ → ℕ → ℕ → List ℕ
file kind descriptor life form id parent level each size k start =
    (kind ∷ descriptor ∷ life ∷ form ∷ id / 256 ∷ id % 256 ∷ 0 ∷ parent ∷ 0 ∷ level ∷ 0 ∷ each ∷ 0 ∷ 0 ∷ 0 ∷ size ∷ [])
    ++ replicate 17 0
    ++ (3 ∷ 0x6F ∷ 0x06 ∷ k ∷ [])
    ++ replicate 25 0
    ++ (0 ∷ start ∷ [])

-- 6F06 in the root, of two records of 8 bytes from byte 4 of the pool on, by its descriptor and its life cycle; and 6F06 in 7F10, of one of
-- 5 bytes from byte 20 on, without padding, by its kind and descriptor
abbrev pub rules_as : ℕ → ℕ → ℕ → List ℕ
rules_as descriptor life k = file 2 descriptor life referred 0x6F06 0 1 8 16 k 4

abbrev pub nearer_as : ℕ → ℕ → List ℕ
nearer_as kind descriptor = file kind descriptor 0x05 compact 0x6F06 1 2 5 5 1 20

abbrev pub nothing : List ℕ
nothing = replicate 64 0

abbrev pub card : List ℕ → List ℕ → ℕ → List ℕ
card second fourth k =
    replicate 16 0
    ++ file 1 0x38 0x05 referred 0x3F00 0 0 0 100 k 0
    ++ file 1 0x38 0x05 referred 0x7F10 0 1 0 100 k 0
    ++ second
    ++ file 2 0x01 0x05 referred 0x6F07 1 2 0 4 k 0
    ++ fourth

abbrev pub pool : List ℕ
pool =
    replicate 4 0
    ++ (0x80 ∷ 0x01 ∷ 0x7F ∷ 0x90 ∷ 0x00 ∷ 0xFF ∷ 0xFF ∷ 0xFF ∷ [])
    ++ (0x80 ∷ 0x01 ∷ 0x7F ∷ 0x9E ∷ 0x01 ∷ 0xFF ∷ 0xFF ∷ 0xFF ∷ [])
    ++ (0x80 ∷ 0x01 ∷ 0x01 ∷ 0x97 ∷ 0x00 ∷ [])

abbrev pub on : ℕ → List ℕ → ℕ → Option Place
on s fourth k = place_of 5 (card (rules_as 0x02 0x05 k) fourth k) pool s

-- on the EF: records 1 and 2, 0 and 3; nearer a linear fixed file, its record 1 and 2; nearer a transparent, a cyclic one and a DF
abbrev pub OfTheEf : Type 0
OfTheEf =
    (on 3 nothing 1 ∷ on 3 nothing 2 ∷ on 3 nothing 0 ∷ on 3 nothing 3
    ∷ on 3 (nearer_as 2 0x02) 1 ∷ on 3 (nearer_as 2 0x02) 2
    ∷ on 3 (nearer_as 2 0x01) 1 ∷ on 3 (nearer_as 2 0x06) 1 ∷ on 3 (nearer_as 1 0x38) 1
    ∷ [])
    ≡ Some (InPool 4 9) ∷ Some (InPool 12 18) ∷ None ∷ None ∷ Some (InPool 20 25) ∷ None ∷ None ∷ None ∷ None ∷ []

-- on the root and on 7F10, in which a 6F06 is not asked for 7F10's own; on the rule file itself; on a rule of its own
abbrev pub OfOthers : Type 0
OfOthers =
    (on 0 (nearer_as 2 0x02) 1 ∷ on 1 (nearer_as 2 0x02) 1 ∷ on 2 nothing 1 ∷ on 4 (nearer_as 2 0x02) 1 ∷ [])
    ≡ Some (InPool 4 9) ∷ Some (InPool 4 9) ∷ None ∷ Some (InImage 306 309) ∷ []

-- the rule file deactivated, terminated, of an internal type, shareable; cyclic and transparent
abbrev pub ByTheFile : Type 0
ByTheFile =
    (place_of 5 (card (rules_as 0x02 0x04 1) nothing 1) pool 3 ∷ place_of 5 (card (rules_as 0x02 0x0C 1) nothing 1) pool 3
    ∷ place_of 5 (card (rules_as 0x0A 0x05 1) nothing 1) pool 3 ∷ place_of 5 (card (rules_as 0x42 0x05 1) nothing 1) pool 3
    ∷ place_of 5 (card (rules_as 0x06 0x05 1) nothing 1) pool 3 ∷ place_of 5 (card (rules_as 0x01 0x05 1) nothing 1) pool 3
    ∷ [])
    ≡ Some (InPool 4 9) ∷ Some (InPool 4 9) ∷ Some (InPool 4 9) ∷ Some (InPool 4 9) ∷ None ∷ None ∷ []

-- the rule itself, of record 2: its last byte is FF, and no padding
abbrev pub TheRule : Type 0
TheRule = deciding_rule 5 (card (rules_as 0x02 0x05 2) nothing 2) pool 3 ≡ 0x80 ∷ 0x01 ∷ 0x7F ∷ 0x9E ∷ 0x01 ∷ 0xFF ∷ []

-- the file that the EF's rule names, as the ticket's sentences speak of it: in the root, or nearer
abbrev pub NamesTold : Type 0
NamesTold =
    Names 5 (card (rules_as 0x02 0x05 1) nothing 1) 3 2
    × Names 5 (card (rules_as 0x02 0x05 1) (nearer_as 2 0x02) 1) 3 4
    × Names 5 (card (rules_as 0x02 0x05 1) nothing 1) 2 2

abbrev pub PlacesTold : Type 0
PlacesTold = OfTheEf × OfOthers × ByTheFile × TheRule

-- The expanded writing of a compact rule (02 Ticket 3): per SC byte, 80 with one bit and 9E.
use Rattle.std.specs.Prelude.{ℕ, zero, suc, ◌+◌, Bool, cond, List, [], ◌∷◌, length, get_or, eqb, ltb}
use Rattle.rules.specs.Group.{b7, b6, b5, b4, b3, b2, b1, slots_of, next_of}

-- one SC byte before the rest of the writing, for a bit that is set
abbrev pub written : ℕ → ℕ → List ℕ → List ℕ
written bit sc rest = 0x80 ∷ 1 ∷ bit ∷ 0x9E ∷ 1 ∷ sc ∷ rest

abbrev pub write_one : ℕ → ℕ → ℕ → List ℕ → List ℕ
write_one on bit sc rest = cond (eqb on 1) (written bit sc rest) rest

-- the SC bytes of the group at `at`, highest bit first, before the rest
unfoldable pub write_group : List ℕ → ℕ → List ℕ → List ℕ
write_group rule at rest =
    let am : ℕ = get_or rule at 0 in
    write_one (b7 am) 64 (get_or (slots_of rule at) 0 0)
    (write_one (b6 am) 32 (get_or (slots_of rule at) 1 0)
    (write_one (b5 am) 16 (get_or (slots_of rule at) 2 0)
    (write_one (b4 am) 8 (get_or (slots_of rule at) 3 0)
    (write_one (b3 am) 4 (get_or (slots_of rule at) 4 0)
    (write_one (b2 am) 2 (get_or (slots_of rule at) 5 0)
    (write_one (b1 am) 1 (get_or (slots_of rule at) 6 0) rest))))))

-- the groups from `at` on; the first number bounds them
unfoldable pub writing_from : ℕ → List ℕ → ℕ → List ℕ
writing_from zero rule at = []
writing_from (suc more) rule at =
    cond (ltb at (length rule)) (write_group rule at (writing_from more rule (next_of rule at))) []

unfoldable pub expanded_writing : List ℕ → List ℕ
expanded_writing rule = writing_from (suc (length rule)) rule 0

-- the group at `at` has an SC byte: it ends past its AM byte
unfoldable pub has_sc : List ℕ → ℕ → Bool
has_sc rule at = ltb (at + 1) (next_of rule at)

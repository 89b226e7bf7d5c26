-- One group of a compact rule: an AM byte and one SC byte per set bit of b7-b1, highest first. It unpacks
-- into seven condition slots: slot 0 is b7, slot 6 is b1 (01 "Descriptor and rules").
use Rattle.std.specs.Prelude.{ℕ, zero, suc, ◌/◌, ◌%◌, ◌+◌, ◌<◌, ◌≡◌, Bool, false, cond, ◌||◌, List, [], ◌∷◌, length, get_or, eqb, ltb}

-- whether the AM byte has the bit of slot 0 (b7), .., of slot 6 (b1): 1 or 0
abbrev pub b7 : ℕ → ℕ
b7 am = am / 64 % 2

abbrev pub b6 : ℕ → ℕ
b6 am = am / 32 % 2

abbrev pub b5 : ℕ → ℕ
b5 am = am / 16 % 2

abbrev pub b4 : ℕ → ℕ
b4 am = am / 8 % 2

abbrev pub b3 : ℕ → ℕ
b3 am = am / 4 % 2

abbrev pub b2 : ℕ → ℕ
b2 am = am / 2 % 2

abbrev pub b1 : ℕ → ℕ
b1 am = am % 2

-- the SC byte at a place, for a bit that is set; FF, never, for one that is not, and past the end of the rule
unfoldable pub sc_at : List ℕ → ℕ → ℕ → ℕ
sc_at rule at on = cond (eqb on 1) (cond (ltb at (length rule)) (get_or rule at 0) 0xFF) 0xFF

-- the seven slots of the group at `at`: each SC byte stands after those of the higher bits
unfoldable pub slots_of : List ℕ → ℕ → List ℕ
slots_of rule at =
    let am : ℕ = get_or rule at 0 in
    sc_at rule (at + 1) (b7 am)
    ∷ sc_at rule (at + 1 + b7 am) (b6 am)
    ∷ sc_at rule (at + 1 + b7 am + b6 am) (b5 am)
    ∷ sc_at rule (at + 1 + b7 am + b6 am + b5 am) (b4 am)
    ∷ sc_at rule (at + 1 + b7 am + b6 am + b5 am + b4 am) (b3 am)
    ∷ sc_at rule (at + 1 + b7 am + b6 am + b5 am + b4 am + b3 am) (b2 am)
    ∷ sc_at rule (at + 1 + b7 am + b6 am + b5 am + b4 am + b3 am + b2 am) (b1 am)
    ∷ []

-- the place after the group at `at`: past its AM byte and one SC byte per set bit
unfoldable pub next_of : List ℕ → ℕ → ℕ
next_of rule at =
    let am : ℕ = get_or rule at 0 in
    at + 1 + b7 am + b6 am + b5 am + b4 am + b3 am + b2 am + b1 am

-- how many bytes the group of an AM byte has; none where b8 is set
unfoldable pub group_length : ℕ → ℕ
group_length am = cond (ltb am 128) (1 + b7 am + b6 am + b5 am + b4 am + b3 am + b2 am + b1 am) 0

-- a table of these lengths for all bytes
pub record Lengths (table : List ℕ) : Type 0 where
  pub right : (am : ℕ) → am < 256 → get_or table am 0 ≡ group_length am

-- p holds of one of the groups from `at` on; the first number bounds them
abbrev pub some_from : ℕ → (ℕ → Bool) → List ℕ → ℕ → Bool
some_from zero p rule at = false
some_from (suc more) p rule at = cond (ltb at (length rule)) (p at || some_from more p rule (next_of rule at)) false

-- p holds of one of the groups of the rule, which has at most as many groups as bytes
unfoldable pub some_group : (ℕ → Bool) → List ℕ → Bool
some_group p rule = some_from (suc (length rule)) p rule 0

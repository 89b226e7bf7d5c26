-- Which bytes are known, of all 256: how many descriptor bytes have each class, and which life-cycle bytes (01 "Descriptor
-- and rules", "Image"; 02 Ticket 1). Each is computed.
use Rattle.std.specs.Prelude.{ℕ, zero, suc, ◌≡◌, refl, Bool, cond, List, [], ◌∷◌, ◌++◌, eqb, Option}
use Rattle.laws.specs.Walks.{count_below, sum_below}
use Rattle.rules.specs.Descriptor.{class_of, df, ef, neither}
use Rattle.rules.specs.declared.life_cycle.Life.{Life}
use Rattle.rules.specs.Life.{same_life, life_of, creation, initialisation, is_activated, is_deactivated, is_terminated}
use Rattle.rules.specs.Life.{known_life, new_life, can_activate}

-- how many descriptor bytes have a class
abbrev pub how_many : ℕ → ℕ
how_many class = count_below 256 (λ d. eqb (class_of d) class)

-- 2 are DF, 12 EF, 242 neither
pub two_twelve_and_the_rest : how_many df ∷ how_many ef ∷ how_many neither ∷ [] ≡ 2 ∷ 12 ∷ 242 ∷ []
unfolding count_below sum_below class_of
two_twelve_and_the_rest = refl

-- the numbers below n of which p holds
abbrev pub these : ℕ → (ℕ → Bool) → List ℕ
these zero p = []
these (suc n) p = these n p ++ cond (p n) (n ∷ []) []

-- the life-cycle bytes that a record may hold; that CREATE takes; that ACTIVATE takes
pub known-lives : these 256 known_life ∷ these 256 new_life ∷ these 256 can_activate ∷ []
    ≡ (0x01 ∷ 0x03 ∷ 0x04 ∷ 0x05 ∷ 0x06 ∷ 0x07 ∷ 0x0C ∷ [])
    ∷ (0x01 ∷ 0x03 ∷ 0x04 ∷ 0x05 ∷ 0x06 ∷ 0x07 ∷ [])
    ∷ (0x01 ∷ 0x03 ∷ 0x04 ∷ 0x06 ∷ [])
    ∷ []
unfolding known_life new_life can_activate life_of
known-lives = refl

-- those of each class: creation, initialisation, activated, deactivated, terminated
abbrev pub lives_in : Option Life → List ℕ
lives_in class = these 256 (λ x. same_life (life_of x) class)

pub classed_lives :
    lives_in creation ∷ lives_in initialisation ∷ these 256 is_activated ∷ these 256 is_deactivated ∷ these 256 is_terminated ∷ []
    ≡ (0x01 ∷ []) ∷ (0x03 ∷ []) ∷ (0x05 ∷ 0x07 ∷ []) ∷ (0x04 ∷ 0x06 ∷ []) ∷ (0x0C ∷ []) ∷ []
unfolding life_of
classed_lives = refl

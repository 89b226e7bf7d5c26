-- An SC byte against the three sets of the caller (01 "Descriptor and rules", SC).
use Rattle.std.specs.Prelude.{ℕ, ◌/◌, ◌%◌, ◌^◌, ◌<◌, ◌≡◌, Bool, true, false, cond, ◌&&◌, ◌||◌, eqb}
use Rattle.rules.specs.declared.Sets.{Sets}

-- bit n of a set, bit 0 the lowest
abbrev pub bit : ℕ → ℕ → Bool
bit set n = eqb (set / 2 ^ n % 2) 1

-- a condition is named, and holds at n; it holds at n where it is named
unfoldable pub met : ℕ → ℕ → ℕ → Bool
met named set n = eqb named 1 && bit set n

unfoldable pub fulfilled : ℕ → ℕ → ℕ → Bool
fulfilled named set n = cond (eqb named 1) (bit set n) true

-- b7 names secure messaging, b6 external, b5 user authentication; b4-b1 is the environment n
unfoldable pub one_of : ℕ → Sets → Bool
one_of sc x =
    met (sc / 64 % 2) x.messaging (sc % 16)
    || (met (sc / 32 % 2) x.external (sc % 16)
    || met (sc / 16 % 2) x.user (sc % 16))

unfoldable pub all_of : ℕ → Sets → Bool
all_of sc x =
    fulfilled (sc / 64 % 2) x.messaging (sc % 16)
    && (fulfilled (sc / 32 % 2) x.external (sc % 16)
    && fulfilled (sc / 16 % 2) x.user (sc % 16))

-- 00 always, FF never; n = 15, or none of b7-b5, never; else b8 asks for all of the named conditions, or for one
unfoldable pub holds_of : ℕ → Sets → Bool
holds_of sc x =
    cond (eqb sc 0x00) true
    (cond (eqb sc 0xFF) false
    (cond (eqb (sc % 16) 15) false
    (cond (eqb (sc / 16 % 8) 0) false
    (cond (eqb (sc / 128) 1) (all_of sc x) (one_of sc x)))))

-- y has each environment that x has, of each kind (02 Ticket 6)
pub record Wider (x y : Sets) : Type 0 where
  pub messaging : (n : ℕ) → n < 16 → bit x.messaging n ≡ true → bit y.messaging n ≡ true
  pub external : (n : ℕ) → n < 16 → bit x.external n ≡ true → bit y.external n ≡ true
  pub user : (n : ℕ) → n < 16 → bit x.user n ≡ true → bit y.user n ≡ true

-- The versions: none has a rule past the end of a record, and none more forms than a byte can tell; two bytes hold each of them.
use mathlib.Core.Path.{◌≡◌, refl}
use mathlib.Core.Bool.{Bool, true, false, cond, false≢true}
use Prim.Native.Nat.{ℕ, ◌<◌, ◌≤◌}
use native.Mathlib.Omega.{arith}
use lib.Dec.{eqb, ltb}
use borrow.Author.Tests.{eqb-true, ltb-true}
use Rattle.image.specs.Layout.{longest_rule, forms_of, known_version, has_bodies}

pub longest_within : (v : ℕ) → longest_rule v ≤ 30
unfolding longest_rule
longest_within v = go (eqb v 1) (eqb v 2) (eqb v 3)
  where
    go : (a b c : Bool) → cond a 16 (cond b 30 (cond c 28 0)) ≤ 30
    go true b c = omega arith
    go false true c = omega arith
    go false false true = omega arith
    go false false false = omega arith

pub known-low : (v : ℕ) → known_version v ≡ true → v ≤ 3
unfolding known_version forms_of
known-low v k = go (eqb v 1) (eqb v 2) (eqb v 3) refl refl refl k
  where
    go : (a b c : Bool) → eqb v 1 ≡ a → eqb v 2 ≡ b → eqb v 3 ≡ c → ltb 0 (cond a 1 (cond b 2 (cond c 3 0))) ≡ true → v ≤ 3
    go true b c p q r t = omega (arith, eqb-true v 1 p)
    go false true c p q r t = omega (arith, eqb-true v 2 q)
    go false false true p q r t = omega (arith, eqb-true v 3 r)
    go false false false p q r t = absurd (false≢true t)

pub known_narrow : (v : ℕ) → known_version v ≡ true → v < 65536
known_narrow v k = omega (arith, known-low v k)

-- a version that is known has a form, and room for rules of 16 bytes
pub known-form : (v : ℕ) → known_version v ≡ true → 0 < forms_of v
unfolding known_version
known-form v k = ltb-true 0 (forms_of v) k

pub longest_least : (v : ℕ) → known_version v ≡ true → 16 ≤ longest_rule v
unfolding known_version forms_of longest_rule
longest_least v k = go (eqb v 1) (eqb v 2) (eqb v 3) k
  where
    go : (a b c : Bool) → ltb 0 (cond a 1 (cond b 2 (cond c 3 0))) ≡ true → 16 ≤ cond a 16 (cond b 30 (cond c 28 0))
    go true b c t = omega arith
    go false true c t = omega arith
    go false false true t = omega arith
    go false false false t = absurd (false≢true t)

pub forms-few : (v : ℕ) → forms_of v ≤ 3
unfolding forms_of
forms-few v = go (eqb v 1) (eqb v 2) (eqb v 3)
  where
    go : (a b c : Bool) → cond a 1 (cond b 2 (cond c 3 0)) ≤ 3
    go true b c = omega arith
    go false true c = omega arith
    go false false true = omega arith
    go false false false = omega arith

-- where there are bodies, the rule leaves two bytes for a start
pub bodies-third : (v : ℕ) → has_bodies v ≡ true → v ≡ 3
unfolding has_bodies
bodies-third v h = eqb-true v 3 h

pub bodies-rule : (v : ℕ) → has_bodies v ≡ true → longest_rule v ≡ 28
unfolding longest_rule
bodies-rule v h = rw (bodies-third v h)

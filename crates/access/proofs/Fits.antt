-- What it says that a rule may stand in a record: how long it is, its form, that it is well formed.
use mathlib.Core.Path.{◌≡◌, refl, sym, ◌∙◌}
use mathlib.Core.Bool.{Bool, true, false, not}
use mathlib.Core.List.{List}
use mathlib.Core.Logic.{◌↔◌}
use Prim.Native.Nat.{ℕ, ◌<◌, ◌≤◌}
use native.Mathlib.Omega.{arith}
use lib.Dec.{ltb, leb}
use lib.ListN.{length}
use borrow.Author.Tests.{le-leb, lt-leb, lt-ltb, leb-true, not-true, not-false}
use Rattle.laws.proofs.Says.{and-says}
use Rattle.laws.proofs.Chains.{and-on, and_off}
use Rattle.image.specs.Layout.{longest_rule, forms_of}
use Rattle.image.proofs.Versions.{forms-few}
use Rattle.access.specs.Access.{well_formed, fits_record}

pub record Fits (v form : ℕ) (rule : List ℕ) : Type 0 where
  pub some : 1 ≤ length rule
  pub short : length rule ≤ longest_rule v
  pub known : form < forms_of v
  pub formed : well_formed form rule ≡ true

module _ (v form : ℕ) (rule : List ℕ) where
  pub fits-says : (fits_record v form rule ≡ true) ↔ Fits v form rule
  unfolding fits_record
  fits-says = (
    λ e.
        let p = (and-says (leb 1 (length rule)) _).0 e in
        let q = (and-says (leb (length rule) (longest_rule v)) _).0 p.1 in
        let r = (and-says (ltb form (forms_of v)) _).0 q.1 in
        record { some = leb-true _ _ p.0; short = leb-true _ _ q.0; known = leb-true _ _ r.0; formed = r.1 },
    λ f.
        (and-says _ _).1 (
          le-leb _ _ f.some,
          (and-says _ _).1 (le-leb _ _ f.short, (and-says _ _).1 (lt-ltb form (forms_of v) f.known, f.formed)),
        ),
  )

  pub fits-short : fits_record v form rule ≡ true → length rule ≤ longest_rule v
  fits-short e = (fits-says.0 e).short

  pub fits-form : fits_record v form rule ≡ true → form < 3
  fits-form e = omega (arith, (fits-says.0 e).known, forms-few v)

  -- one test after the other: m is what the version has for a rule, k whether it has the form
  pub fits-none : length rule < 1 → false ≡ fits_record v form rule
  unfolding fits_record
  fits-none h = and_off _ _ (lt-leb 1 (length rule) h) refl

  module _ (some : 1 ≤ length rule) {m : ℕ} (most : m ≡ longest_rule v) where
    pub fits-long : m < length rule → false ≡ fits_record v form rule
    unfolding fits_record
    fits-long h = and-on _ _ (le-leb 1 (length rule) some) (and_off _ _ (lt-leb (length rule) (longest_rule v) (rw most at h)) refl)

    module _ (short : length rule ≤ m) {k : Bool} (has : k ≡ ltb form (forms_of v)) where
      within : length rule ≤ longest_rule v
      within = rw most at short

      pub fits_unknown : not k ≡ true → false ≡ fits_record v form rule
      unfolding fits_record
      fits_unknown h =
          and-on _ _ (le-leb 1 (length rule) some)
          (and-on _ _ (le-leb (length rule) (longest_rule v) within) (and_off _ _ (sym has ∙ not-true k h) refl))

      pub fits-formed : not k ≡ false → (r : Bool) → r ≡ well_formed form rule → r ≡ fits_record v form rule
      unfolding fits_record
      fits-formed h r e =
          and-on _ _ (le-leb 1 (length rule) some)
          (and-on _ _ (le-leb (length rule) (longest_rule v) within) (and-on _ _ (sym has ∙ not-false k h) e))

pub ruleset fitting = (fits-none, fits-long, fits_unknown, fits-formed)

-- The object at a place: whether it is whole, its line, its bounds; r is what the reader gave there.
use mathlib.Core.Path.{◌≡◌, sym, ap, subst}
use mathlib.Core.Bool.{true, false, true≢false}
use mathlib.Core.List.{List}
use Prim.Native.Nat.{ℕ, ◌+◌, ◌-◌, ◌*◌, ◌<◌, ◌≤◌}
use native.Mathlib.Omega.{arith}
use lib.ListN.{length}
use Rattle.template.specs.declared.Object.{Object}
use Rattle.std.specs.Prelude.{Option, Some, None, is_some}
use Rattle.template.specs.Objects.{object_at}
use Rattle.template.proofs.Holding.{Inside, inside}
use Rattle.reader.specs.Places.{end_or, place_after}
use Rattle.objects_text.specs.Lines.{mark_line}
use Rattle.objects_text.specs.Listing.{line_of, whole_at, line_at}
use Rattle.objects_text.proofs.Lives.{rest-short}

-- the object x that stands there
module _ (s : List ℕ) (at : ℕ) (x : Object) (q : Some x ≡ object_at s at) where
  within : Inside s at (Some x)
  within = subst (Inside s at) (sym q) (inside s at)

  pub in_order : x.value.start ≤ x.value.end
  in_order = within.1

  pub short : x.value.end - x.value.start < 128
  short = omega (arith, within.0, within.1, within.2)

  pub inside_data : x.value.end ≤ length s
  inside_data = within.3

  pub is-whole : whole_at s at ≡ true
  unfolding whole_at
  is-whole = ap is_some (sym q)

  pub its-line : line_of s at (Some x) ≡ line_at s at
  unfolding line_at
  its-line = ap (line_of s at) q

  pub its-end : x.value.end ≡ place_after s at
  unfolding place_after
  its-end = ap (end_or at) q

pub not-whole : (s : List ℕ) (at : ℕ) → None ≡ object_at s at → whole_at s at ≡ false
unfolding whole_at
not-whole s at q = ap is_some (sym q)

-- the place after a whole object is further on and within the data, and its line no longer than nine times the way there
module _ (s : List ℕ) (at : ℕ) (h : whole_at s at ≡ true) where
  abbrev Further : Option Object → Type 0
  Further x = (at + 2 ≤ end_or at x) × (end_or at x ≤ length s) × (length (line_of s at x) ≤ 9 * (end_or at x - at))

  further : (x : Option Object) → Inside s at x → is_some x ≡ true → Further x
  unfolding mark_line
  further None i f = absurd (true≢false (sym f))
  further (Some x) i f = (omega (arith, i.0, i.1), i.3, omega (arith, rest-short s x, i.0, i.1))

  pub on : (at + 2 ≤ place_after s at) × (place_after s at ≤ length s) × (length (line_at s at) ≤ 9 * (place_after s at - at))
  unfolding whole_at place_after line_at
  on = further (object_at s at) (inside s at) h

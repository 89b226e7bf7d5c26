-- A value in CREATE's data, taken as a part of the command; and UPDATE's data, written into the pool.
use mathlib.Core.Path.{◌≡◌, ap, sym, ◌∙◌}
use mathlib.Core.List.{List}
use Prim.Native.Nat.{ℕ, ◌+◌, ◌-◌, ◌≤◌}
use native.Mathlib.Omega.{arith}
use lib.ListN.{length, take, drop, length-drop}
use lib.Seq.{drop-drop}
use Rattle.laws.specs.Lists.{part, splice}
use Rattle.laws.proofs.Splices.{length_part}
use Rattle.template.specs.declared.Span.{Span}
use Rattle.template.specs.Objects.{bytes_at}
use Rattle.verdict.specs.Applied.{sent_data}
use Rattle.effect.specs.Fit.{FieldSent}

module _ (c : List ℕ) (p : Span) where
  pub part-sent : take (5 + p.end - (5 + p.start)) (drop (5 + p.start) c) ≡ bytes_at (sent_data c) p
  unfolding part
  part-sent =
      let e : 5 + p.end - (5 + p.start) ≡ p.end - p.start = omega arith in
      ap (λ (k : ℕ). take k (drop (5 + p.start) c)) e ∙ ap (λ (x : List ℕ). take (p.end - p.start) x) (sym (drop-drop p.start 5 c))

  pub length-sent : (most : ℕ) → FieldSent most c p → length (bytes_at (sent_data c) p) ≤ most
  length-sent most f =
      let l = length-drop 5 c in
      omega (arith, length_part (sent_data c) p.start (p.end - p.start) (omega (arith, l, f.order, f.inside)), f.short)

-- d is what was sent, y the pool after it was written
module _ (pool c d : List ℕ) (at : ℕ) (e : d ≡ sent_data c) where
  pub data_fits : at + (length c - 5) ≤ length pool → at + length d ≤ length pool
  data_fits h = omega (arith, ap (λ (x : List ℕ). length x) e, length-drop 5 c)

  pub data_written : (y : List ℕ) → y ≡ splice pool at d → y ≡ splice pool at (sent_data c)
  data_written y f = f ∙ ap (λ (x : List ℕ). splice pool at x) e

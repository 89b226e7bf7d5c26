-- The word of identifier and parent slot: its halves, and that what is read of a record is its word.
use mathlib.Core.Path.{◌≡◌, sym, ap, ◌∙◌}
use mathlib.Core.Bool.{false}
use mathlib.Core.List.{List}
use mathlib.Core.Logic.{⊎_elim}
use Prim.Native.Nat.{ℕ, ◌+◌, ◌*◌, ◌/◌, ◌%◌, ◌<◌, ◌≤◌}
use native.Mathlib.Omega.{arith}
use lib.Dec.{eqb}
use mir.Val.{Fits}
use mir.Syntax.{w8}
use lib.ListN.{get_or}
use borrow.Author.Tests.{eq-eqb, ne_eqb}
use Rattle.laws.proofs.Says.{same_or}
use Rattle.numbers.specs.Numbers.{u16_at}
use Rattle.image.specs.Layout.{base, rec_at, identifier_of, parent_of}
use Rattle.image.specs.Kin.{turned, kin_word, KinAt}
use Rattle.image.proofs.Places.{identifier_in, parent_in}

-- a high part and a low one below the step between them
module _ (a b c d : ℕ) where
  pub halves : b < 65536 → d < 65536 → a * 65536 + b ≡ c * 65536 + d → (a ≡ c) × (b ≡ d)
  halves l m e = omega arith

  bytes : b < 256 → d < 256 → a * 256 + b ≡ c * 256 + d → (a ≡ c) × (b ≡ d)
  bytes l m e = omega arith

pub turned-low : (x : ℕ) → x < 65536 → turned x < 65536
unfolding turned
turned-low x l = omega arith

pub turned_back : (x y : ℕ) → x < 65536 → y < 65536 → turned x ≡ turned y → x ≡ y
unfolding turned
turned_back x y l m e =
    let both = bytes (x % 256) (x / 256) (y % 256) (y / 256) (omega arith) (omega arith) e in
    omega (arith, both.0, both.1)

-- w is what was read of record s, identifier and parent, the first byte least
pub kin_read : (img : List ℕ) (s w : ℕ) → ((i : ℕ) → Fits w8 (get_or img i 0))
    → w ≡ get_or img (base s + 4) 0 + get_or img (base s + 4 + 1) 0 * 0x100 + get_or img (base s + 4 + 2) 0 * 0x1_0000
    + get_or img (base s + 4 + 3) 0 * 0x100_0000 → KinAt img s w
unfolding kin_word turned u16_at
kin_read img s w fits e =
    let identifier : identifier_of (rec_at img s) ≡ get_or img (base s + 4) 0 * 256 + get_or img (base s + 4 + 1) 0 = identifier_in img s in
    let parent : parent_of (rec_at img s) ≡ get_or img (base s + 4 + 2) 0 * 256 + get_or img (base s + 4 + 3) 0 =
    parent_in img s ∙ ap (λ (k : ℕ). u16_at img k) (omega arith) ∙ ap (λ (k : ℕ). get_or img (base s + 4 + 2) 0 * 256 + get_or img k 0) (omega arith) in
    let a = fits (base s + 4) in
    let b = fits (base s + 4 + 1) in
    let c = fits (base s + 4 + 2) in
    let d = fits (base s + 4 + 3) in
    record {
      word = omega (arith, e, identifier, parent, a, b, c, d);
      identifier-low = omega (arith, identifier, a, b);
      parent-low = omega (arith, parent, c, d);
    }

-- p is what was read as the parent slot of record s
module _ (img : List ℕ) (s p : ℕ) (e : p ≡ turned (u16_at img (base s + 6))) (l : u16_at img (base s + 6) < 65536) (d : ℕ) where
  pub never_in : 65535 < d → false ≡ eqb (parent_of (rec_at img s)) d
  never_in h = sym (ne_eqb (parent_of (rec_at img s)) d (λ q. omega (arith, parent_in img s)))

  pub in_or-not : (t : ℕ) → t ≡ turned d → d ≤ 65535 → eqb p t ≡ eqb (parent_of (rec_at img s)) d
  in_or-not t f h = ⊎_elim same other (same_or (parent_of (rec_at img s)) d)
    where
      same : parent_of (rec_at img s) ≡ d → eqb p t ≡ eqb (parent_of (rec_at img s)) d
      same q = eq-eqb p t (e ∙ ap turned (sym (parent_in img s) ∙ q) ∙ sym f) ∙ sym (eq-eqb (parent_of (rec_at img s)) d q)

      other : (parent_of (rec_at img s) ≡ d → ⊥) → eqb p t ≡ eqb (parent_of (rec_at img s)) d
      other q =
          ne_eqb p t (λ i. q (parent_in img s ∙ turned_back (u16_at img (base s + 6)) d l (omega arith) (sym e ∙ i ∙ f)))
          ∙ sym (ne_eqb (parent_of (rec_at img s)) d q)

-- A record with a name and another have one where the two numbers that stand for its bytes are the same, and its length; else they do not.
use mathlib.Core.Path.{◌≡◌, refl, sym, ◌∙◌, ap}
use mathlib.Core.Bool.{Bool, true, false, not, ◌&&◌, false≢true}
use mathlib.Core.List.{List, []}
use mathlib.Core.Logic.{⊎_elim}
use Prim.Native.Nat.{ℕ, ◌+◌, ◌*◌, ◌/◌, ◌%◌, ◌-◌, ◌<◌, ◌≤◌}
use native.Mathlib.Omega.{arith}
use lib.Dec.{eqb}
use lib.ListN.{length, get_or}
use Rattle.std.proofs.lemmas.List.{ext_get_or}
use Rattle.std.proofs.lemmas.Nat.{div-mul-add, mod-mul-add}
use mir.Val.{Fits}
use mir.Syntax.{w8}
use borrow.Author.Tests.{eq-eqb, eqb-true}
use Rattle.laws.specs.Lists.{Bytes, same_list}
use Rattle.laws.proofs.Chains.{and_off}
use Rattle.laws.proofs.Says.{and-says, same-says, lt-or, same_test, untrue}
use Rattle.laws.proofs.Splices.{length_part, get_or-part}
use Rattle.numbers.specs.Numbers.{u16_at, u32_at}
use Rattle.numbers.proofs.Reading.{u16_at-lt, u32_at-lt}
use Rattle.image.specs.Layout.{name_of, field_at}
use Rattle.sound.specs.Own.{Padded}
use Rattle.kinship.proofs.Sameness.{no_name, some-name}
use Rattle.sound_names.proofs.Alike.{same_length, same_word}

as-bytes : (s : List ℕ) → ((i : ℕ) → Fits w8 (get_or s i 0)) → Bytes s
as-bytes s fits i = omega (arith, fits i)

-- the number of the eight bytes from i on
abbrev eight : List ℕ → ℕ → ℕ
eight s i = u32_at s i * 4294967296 + u32_at s (i + 4)

module _ (r q : List ℕ) where
  -- where the numbers f of w bytes are the same, so are the bytes
  abbrev Tells : (List ℕ → ℕ → ℕ) → ℕ → Type 0
  Tells f w = (i : ℕ) → f r i ≡ f q i → (k : ℕ) → i ≤ k → k < i + w → get_or r k 0 ≡ get_or q k 0

  one_byte : Tells (λ s i. get_or s i 0) 1
  one_byte i e k l m = let here : k ≡ i = omega arith in rw here e

  -- two such numbers below n side by side, as one
  side-by-side : (f : List ℕ → ℕ → ℕ) (w n : ℕ) → ((i : ℕ) → f r i < n) → ((i : ℕ) → f q i < n) → Tells f w
      → Tells (λ s i. f s i * n + f s (i + w)) (w + w)
  side-by-side f w n less less' tells i e k l m = ⊎_elim (λ x. tells i high k l x) (λ x. tells (i + w) low k x (omega arith)) (lt-or k (i + w))
    where
      high : f r i ≡ f q i
      high =
          sym (div-mul-add (f r i) n (f r (i + w)) (less (i + w)))
          ∙ ap (λ x. x / n) e
          ∙ div-mul-add (f q i) n (f q (i + w)) (less' (i + w))

      low : f r (i + w) ≡ f q (i + w)
      low =
          sym (mod-mul-add (f r i) n (f r (i + w)) (less (i + w)))
          ∙ ap (λ x. x % n) e
          ∙ mod-mul-add (f q i) n (f q (i + w)) (less' (i + w))

  module _ (bytes : Bytes r) (bytes' : Bytes q) where
    two : Tells u16_at 2
    unfolding u16_at
    two = side-by-side (λ s i. get_or s i 0) 1 256 bytes bytes' one_byte

    four : Tells u32_at 4
    unfolding u32_at
    four = side-by-side u16_at 2 65536 (λ i. u16_at-lt r i bytes) (λ i. u16_at-lt q i bytes') two

    each : Tells eight 8
    each = side-by-side u32_at 4 4294967296 (λ i. u32_at-lt r i bytes) (λ i. u32_at-lt q i bytes') four

-- x and y are the numbers of b and a that were read, and the same
pub same_at : (a b : List ℕ) (i x y : ℕ) → x ≡ eight b i → y ≡ eight a i → x ≡ y → eight b i ≡ eight a i
same_at a b i x y p q e = sym p ∙ e ∙ q

module _ (a b : List ℕ) (long : length a ≡ 64) (long' : length b ≡ 64) (pad : Padded 16 a 16) (pad' : Padded 16 b 16) where
  -- a has a name, and b the same
  abbrev one : Bool
  one = not (same_list (name_of a) []) && same_list (name_of b) (name_of a)

  length-name : (r : List ℕ) → length r ≡ 64 → Padded 16 r 16 → length (name_of r) ≡ get_or r 16 0
  unfolding name_of field_at
  length-name r l p = length_part r 17 (get_or r 16 0) (omega (arith, p.short))

  same-names : one ≡ true → name_of b ≡ name_of a
  same-names h =
      (same-says (name_of b) (name_of a)).0 ((and-says (not (same_list (name_of a) [])) (same_list (name_of b) (name_of a))).0 h).1

  pub unnamed_one : get_or a 16 0 ≡ 0 → false ≡ one
  unnamed_one e = and_off _ _ (ap not (no_name (name_of a) (length-name a long pad ∙ e))) refl

  -- x and y are the numbers that stand there
  pub other_one : (i x y : ℕ) → 17 ≤ i → i + 8 ≤ 33 → x ≡ eight b i → y ≡ eight a i → (x ≡ y → ⊥) → false ≡ one
  other_one i x y l m p q h = sym (untrue one (λ t. h (p ∙ same (same-names t) ∙ sym q)))
    where
      same : name_of b ≡ name_of a → eight b i ≡ eight a i
      same e =
          let word = same_word b a long' long pad' pad e in
          rw (word i (i - 17) (omega arith) (omega arith), word (i + 4) (i - 13) (omega arith) (omega arith))

  module _ (bytes : (i : ℕ) → Fits w8 (get_or a i 0)) (bytes' : (i : ℕ) → Fits w8 (get_or b i 0)) (last : eight b 25 ≡ eight a 25)
      (first : eight b 17 ≡ eight a 17) where
    byte : (k : ℕ) → 17 ≤ k → k < 33 → get_or b k 0 ≡ get_or a k 0
    byte k l m =
        let number = each b a (as-bytes b bytes') (as-bytes a bytes) in
        ⊎_elim (λ h. number 17 first k l h) (λ h. number 25 last k h m) (lt-or k 25)

    alike : get_or b 16 0 ≡ get_or a 16 0 → name_of b ≡ name_of a
    unfolding name_of field_at
    alike e =
        ext_get_or 0 (name_of b) (name_of a) (length-name b long' pad' ∙ e ∙ sym (length-name a long pad)) (λ k l.
        let m : k < get_or b 16 0 = omega (arith, l, length-name b long' pad') in
        get_or-part b 17 (get_or b 16 0) k m
        ∙ byte (17 + k) (omega arith) (omega (arith, m, pad'.short))
        ∙ sym (get_or-part a 17 (get_or a 16 0) k (omega (arith, m, e))))

    pub one_is : (get_or a 16 0 ≡ 0 → ⊥) → eqb (get_or b 16 0) (get_or a 16 0) ≡ one
    one_is some =
        same_test _ one
        (λ t. eq-eqb (get_or b 16 0) (get_or a 16 0) (same_length b a long' long pad' pad (same-names t)))
        (λ f. untrue _ (λ t. false≢true (sym f ∙ (and-says (not (same_list (name_of a) [])) (same_list (name_of b) (name_of a))).1 (
          some-name (name_of a) (λ z. some (sym (length-name a long pad) ∙ z)),
          (same-says (name_of b) (name_of a)).1 (alike (eqb-true _ _ t)),
        ))))

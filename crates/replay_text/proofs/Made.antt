-- From the maker's answer to the text of a stream: only the buffer's length counts, and a refusal is `BAD`.
use native.Mathlib.Omega.{arith}
use mathlib.Core.Path.{◌≡◌, refl, sym, ◌∙◌, ap}
use mathlib.Core.Bool.{Bool, true, false, cond, ◌&&◌}
use mathlib.Core.List.{List}
use Prim.Native.Nat.{ℕ, ◌+◌, ◌*◌, ◌-◌, ◌/◌, ◌<◌, ◌≤◌}
use lib.Dec.{eqb, leb}
use lib.ListN.{length, take, replicate, length-replicate}
use lib.Seq.{length-take-le}
use borrow.Author.Tests.{lt-ltb, le-ltb, lt-leb, leb-true}
use Rattle.std.specs.Prelude.{Result, Ok, Err}
use Rattle.laws.specs.Lists.{splice}
use Rattle.laws.proofs.Says.{and-says}
use Rattle.numbers.specs.Numbers.{u16_at, u32_at}
use Rattle.access.specs.Access.{compact}
use Rattle.maker.specs.declared.Edition.{Edition}
use Rattle.maker.specs.declared.MakeError.{MakeError}
use Rattle.maker.specs.declared.MakeError.TheVariants.{BadLength, BadTotal, BadRule}
use Rattle.maker.specs.Making.{slots_in, fits_length, fits_buffer, made_of, made_number, left_by}
use Rattle.sound.specs.Effects.{fresh}
use Rattle.text.specs.Written.{Wrote, big}
use Rattle.text.proofs.Written.{from_start}
use Rattle.replay_text.specs.Text.{bad}
use Rattle.replay_text.specs.Replay.{root_rule, first_edition, run_of, good_header, perform_of, replay_of}

-- what is written, by the maker's answer
by_made : List ℕ → List ℕ → Result Unit MakeError → List ℕ
by_made s img m = cond (eqb (made_number m) 0) (run_of (length s) s 11 (left_by m img first_edition (u32_at s 7) compact root_rule)) bad

perform_made : (s img : List ℕ) (m : Result Unit MakeError) → made_of img first_edition (u32_at s 7) compact root_rule ≡ m → by_made s img m ≡ perform_of s img
unfolding perform_of by_made
perform_made s img m e =
    ap (λ (t : Result Unit MakeError). cond (eqb (made_number t) 0) (run_of (length s) s 11 (left_by t img first_edition (u32_at s 7) compact root_rule)) bad)
    (sym e)

refused_bad : (s img : List ℕ) (d : MakeError) → by_made s img (Err d) ≡ bad
unfolding by_made
refused_bad s img BadLength = refl
refused_bad s img BadTotal = refl
refused_bad s img BadRule = refl

module _ (s img : List ℕ) (total : ℕ) (r : Result Unit MakeError) (et : total ≡ u32_at s 7) (er : r ≡ made_of img first_edition total compact root_rule) where
  made_is : (m : Result Unit MakeError) → r ≡ m → made_of img first_edition (u32_at s 7) compact root_rule ≡ m
  made_is m e = ap (λ (n : ℕ). made_of img first_edition n compact root_rule) (sym et) ∙ sym er ∙ e

  pub performed : (y : List ℕ) → r ≡ Ok tt → y ≡ left_by r img first_edition total compact root_rule → run_of (length s) s 11 y ≡ perform_of s img
  unfolding by_made
  performed y e h =
      ap (λ (x : List ℕ). run_of (length s) s 11 x)
      (h ∙ ap (λ (m : Result Unit MakeError). left_by m img first_edition total compact root_rule) e
      ∙ ap (λ (n : ℕ). left_by (Ok tt) img first_edition n compact root_rule) et)
      ∙ perform_made s img (Ok tt) (made_is (Ok tt) e)

  pub refused : {d : MakeError} → r ≡ Err d → bad ≡ perform_of s img
  refused {d} e = sym (refused_bad s img d) ∙ perform_made s img (Err d) (made_is (Err d) e)

-- only the length of the buffer counts
by_length : (s a b : List ℕ) (m : Result Unit MakeError) → length a ≡ length b → by_made s a m ≡ by_made s b m
unfolding by_made
by_length s a b (Ok u) e = ap (λ (n : ℕ). run_of (length s) s 11 (fresh 1 (slots_in n) (u32_at s 7) compact root_rule)) e
by_length s a b (Err d) e = refused_bad s a d ∙ sym (refused_bad s b d)

made-length : (a b : List ℕ) (e : Edition) (total form : ℕ) (rule : List ℕ) → length a ≡ length b
    → made_of a e total form rule ≡ made_of b e total form rule
unfolding made_of
made-length a b e total form rule q = rw q

perform_length : (s a b : List ℕ) → length a ≡ length b → perform_of s a ≡ perform_of s b
perform_length s a b e =
    sym (perform_made s a (made_of a first_edition (u32_at s 7) compact root_rule) refl)
    ∙ by_length s a b (made_of a first_edition (u32_at s 7) compact root_rule) e
    ∙ perform_made s b (made_of a first_edition (u32_at s 7) compact root_rule)
    (sym (made-length a b first_edition (u32_at s 7) compact root_rule e))

-- more slots than the maker takes
too_many : (n : ℕ) → 1023 < n → fits_length (16 + 64 * n) ≡ false
unfolding fits_length slots_in
too_many n h =
    let e : (16 + 64 * n - 16) / 64 ≡ n = omega arith in
    rw (e, lt-leb n 1023 h) (and-false (leb 2 n))
  where
    and-false : (b : Bool) → (b && false) ≡ false
    and-false true = refl
    and-false false = refl

refuses : (s : List ℕ) (n : ℕ) → 1023 < n → bad ≡ perform_of s (replicate (16 + 64 * n) 0)
unfolding by_made made_of fits_buffer
refuses s n h =
    perform_made s (replicate (16 + 64 * n) 0) (Err BadLength)
    (rw (length-replicate {A = ℕ} (16 + 64 * n) 0, too_many n h))

-- the three ways of `replay`
pub header-long : (s : List ℕ) → good_header s ≡ true → 11 ≤ length s
unfolding good_header
header-long s e = leb-true 11 (length s) ((and-says (leb 11 (length s)) _).0 e).0

pub too_big : (s out y : List ℕ) → 32768 < length s → 4 ≤ length out → y ≡ splice out 0 big → Wrote 4 out y (replay_of s)
unfolding replay_of
too_big s out y h f e = rw (lt-ltb 32768 (length s) h) (from_start big refl f e)

pub bad-header : (s : List ℕ) → length s ≤ 32768 → good_header s ≡ false → bad ≡ replay_of s
unfolding replay_of
bad-header s h e = sym (simp (le-ltb 32768 (length s) h, e))

good_start : (s : List ℕ) → length s ≤ 32768 → good_header s ≡ true → perform_of s (replicate (16 + 64 * u16_at s 5) 0) ≡ replay_of s
unfolding replay_of
good_start s h e = sym (simp (le-ltb 32768 (length s) h, e))

pub many_slots : (s : List ℕ) (n : ℕ) → length s ≤ 32768 → good_header s ≡ true → n ≡ u16_at s 5 → 1023 < n → bad ≡ replay_of s
many_slots s n h e en m = refuses s (u16_at s 5) (omega (arith, en)) ∙ good_start s h e

-- a buffer for n slots, cut out of one for the most
pub cut_to : (n : ℕ) (l : List ℕ) → n ≤ 1023 → 65488 ≡ length l → 16 + 64 * n ≡ length (take (16 + 64 * n) l)
cut_to n l h e = sym (length-take-le (16 + 64 * n) l (omega (arith, e)))

pub played : (s img : List ℕ) (n : ℕ) → length s ≤ 32768 → good_header s ≡ true → n ≡ u16_at s 5 → length img ≡ 16 + 64 * n
    → perform_of s img ≡ replay_of s
played s img n h e en l =
    perform_length s img (replicate (16 + 64 * u16_at s 5) 0)
    (l ∙ ap (λ (k : ℕ). 16 + 64 * k) en ∙ sym (length-replicate (16 + 64 * u16_at s 5) 0))
    ∙ good_start s h e

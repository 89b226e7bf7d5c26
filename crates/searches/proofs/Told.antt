-- How many records an image has, by what was read of it; and what is told then.
use mathlib.Core.Path.{◌≡◌, refl, sym, ◌∙◌}
use mathlib.Core.List.{List}
use mathlib.Core.Bool.{Bool, true, false, cond}
use Prim.Native.Nat.{ℕ, ◌+◌, ◌*◌, ◌<◌, ◌≤◌}
use native.Mathlib.Omega.{arith}
use lib.ListN.{length}
use borrow.Author.Tests.{eq-eqb, le-leb, eqb-true, leb-true}
use Rattle.std.specs.Prelude.{Option, Some, None, unwrap_or}
use Rattle.std.proofs.lemmas.Option.{none-some, same_Some}
use Rattle.laws.proofs.Says.{and-says}
use Rattle.image.specs.Layout.{Sized, count_of}
use Rattle.sound.specs.Table.{view_at}
use Rattle.sound.specs.Kinship.{child_named}
use Rattle.kinship.specs.Search.{df_named}
use Rattle.searches.specs.Told.{sizedb, told_of, Slots}

module _ (img : List ℕ) where
  says : sizedb img ≡ true → Sized img (count_of img)
  unfolding sizedb
  says e =
      let p = (and-says _ _).0 e in
      let q = (and-says _ _).0 p.1 in
      record {
        long = eqb-true (length img) (16 + 64 * count_of img) q.1;
        least = leb-true 2 (count_of img) p.0;
        most = leb-true (count_of img) 1023 q.0;
      }

  unfit : (Sized img (count_of img) → ⊥) → Slots img None
  unfit f = go (sizedb img) refl
    where
      go : (b : Bool) → sizedb img ≡ b → Slots img None
      go true q = absurd (f (says q))
      go false q = record { count = rw q; sized = λ n z. absurd (none-some n z) }

  pub too_short : length img < 16 → Slots img None
  too_short h = unfit (λ z. omega (arith, z.long))

  module _ (n : ℕ) (e : n ≡ count_of img) where
    pub too_few : n < 2 → Slots img None
    too_few h = unfit (λ z. omega (arith, z.least))

    pub too_many : 1023 < n → Slots img None
    too_many h = unfit (λ z. omega (arith, z.most))

    pub not_so_long : (length img ≡ 16 + 64 * n → ⊥) → Slots img None
    not_so_long h = unfit (λ z. h (omega (arith, z.long)))

    pub as_long : 2 ≤ n → n ≤ 1023 → length img ≡ 16 + 64 * n → Slots img (Some n)
    unfolding sizedb
    as_long l m h =
        record {
          count = rw (← e, le-leb 2 n l, le-leb n 1023 m, eq-eqb (length img) (16 + 64 * n) h);
          sized = λ k z. rw (← same_Some n k z) (record { long = h; least = l; most = m });
        }

  -- r is what was counted
  module _ (r : Option ℕ) (s : Slots img r) where
    pub is_sized : {n : ℕ} → r ≡ Some n → Sized img n
    is_sized {n} z = s.sized n z

    pub told_none : (found : Option ℕ) → r ≡ None → 65537 ≡ told_of img found
    unfolding told_of
    told_none found z = go (sizedb img) refl
      where
        go : (b : Bool) → sizedb img ≡ b → 65537 ≡ cond b (unwrap_or found 65536) 65537
        go true q = absurd (none-some (count_of img) (sym z ∙ rw q at s.count))
        go false q = refl

    -- what f finds among n records is y, and w is told
    told-found : (f : ℕ → Option ℕ) {n : ℕ} → r ≡ Some n → (y : Option ℕ) (w : ℕ) → y ≡ f n → w ≡ unwrap_or y 65536 → w ≡ told_of img (f (count_of img))
    unfolding told_of
    told-found f {n} z y w e h = go (sizedb img) refl
      where
        go : (b : Bool) → sizedb img ≡ b → w ≡ cond b (unwrap_or (f (count_of img)) 65536) 65537
        go true q = rw (← same_Some n (count_of img) (sym z ∙ rw q at s.count), ← e) h
        go false q = absurd (none-some n (sym (rw q at s.count) ∙ z))

    module _ {n : ℕ} (z : r ≡ Some n) (d x : ℕ) (y : Option ℕ) (w : ℕ) where
      pub told_child : y ≡ child_named n (view_at img) d x → w ≡ unwrap_or y 65536 → w ≡ told_of img (child_named (count_of img) (view_at img) d x)
      told_child e h = told-found (λ k. child_named k (view_at img) d x) z y w e h

      pub told-df : y ≡ df_named n (view_at img) d x → w ≡ unwrap_or y 65536 → w ≡ told_of img (df_named (count_of img) (view_at img) d x)
      told-df e h = told-found (λ k. df_named k (view_at img) d x) z y w e h

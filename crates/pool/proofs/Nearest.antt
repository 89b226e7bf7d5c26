-- What lies ahead of a byte of the pool, as the code looks for it along a chain, and what it says of the bodies.
use mathlib.Core.Path.{◌≡◌, refl, sym, ap, subst, ◌∙◌}
use mathlib.Core.Bool.{cond}
use mathlib.Core.Logic.{◌⊎◌, inl, inr, ⊎_elim}
use Prim.Native.Nat.{ℕ, suc, ◌/◌, ◌<◌, ◌≤◌, min}
use native.Mathlib.Omega.{arith}
use lib.Dec.{leb, ltb}
use lib.ListN.{get_or}
use borrow.Author.Tests.{lt-ltb, le-ltb, le-leb, lt-leb}
use Rattle.std.specs.Prelude.{Option, Some, None}
use Rattle.laws.proofs.Says.{lt-or}
use Rattle.pool.specs.declared.Ahead.{Ahead}
use Rattle.pool.specs.declared.index.Index.{Index}
use Rattle.pool.specs.Index.{mark_of, first_in, next_of, place_of, cell_end, On, here, there, Linked, Chained, StartsAt, nearer_of}
use Rattle.pool.specs.Index.{Marked, leads, follows, Seen}
use Rattle.pool.proofs.Apart.{NoneFrom}

-- an answer that is no slot is none
pub none_of : (o : Option ℕ) → ((s : ℕ) → o ≡ Some s → ⊥) → o ≡ None
none_of None f = refl
none_of (Some s) f = absurd (f s refl)

-- the nearer of two, a law for each way out: f is the start that was read
module _ (index : Index) (p s : ℕ) (best : Ahead) (f : ℕ) (read : f ≡ place_of index s) where
  pub nearer-below : f < p → best ≡ nearer_of index p best s
  unfolding nearer_of
  nearer-below h = rw (lt-ltb (place_of index s) p (omega (arith, read)))

  pub nearer-past : p ≤ f → best.end ≤ f → best ≡ nearer_of index p best s
  unfolding nearer_of
  nearer-past h k =
      rw (le-ltb (place_of index s) p (omega (arith, read)), le-leb best.end (place_of index s) (omega (arith, read)))

  pub nearer-is : p ≤ f → f < best.end → record { end = f; next = Some s } ≡ nearer_of index p best s
  unfolding nearer_of
  nearer-is h k =
      rw (le-ltb (place_of index s) p (omega (arith, read)), lt-leb best.end (place_of index s) (omega (arith, read)))
      (ap (λ (u : ℕ). record { end = u; next = Some s }) read)

-- the best so far, with the chain from mark x on still to be looked at
pub record Nearest (index : Index) (len p : ℕ) (best : Ahead) (x : ℕ) : Type 0 where
  pub up : p ≤ best.end
  pub in-pool : best.end ≤ len
  pub in_cell : best.end ≤ cell_end p
  pub free : best.next ≡ None → p < best.end
  pub there : (s : ℕ) → best.next ≡ Some s → place_of index s ≡ best.end
  pub real : (s : ℕ) → best.next ≡ Some s → Marked index s
  pub rest : (s : ℕ) → On index s (first_in index p) → p ≤ place_of index s → (best.end ≤ place_of index s) ⊎ On index s x
  pub few : x ≤ 1023
  pub next : (s : ℕ) → x ≡ suc s → Marked index s

module _ (index : Index) (len p : ℕ) (i : Linked index) where
  pub near-start : (e x : ℕ) → p < len → len < 65536 → e ≡ min len (cell_end p) → x ≡ first_in index p
      → Nearest index len p (record { end = e; next = None }) x
  near-start e x h l f r =
      record {
        up = omega (arith, f);
        in-pool = omega (arith, f);
        in_cell = omega (arith, f);
        free = λ z. omega (arith, f);
        there = λ s z. absurd (omega (arith, ap mark_of z));
        real = λ s z. absurd (omega (arith, ap mark_of z));
        rest = λ s o m. inr (subst (λ (y : ℕ). On index s y) (sym r) o);
        few = omega (arith, r, i.few (p / 64) (omega arith));
        next = λ s z. leads (p / 64) (omega arith) (sym r ∙ z);
      }

  -- the slot that is looked at is one
  pub near-low : (best : Ahead) (on : Option ℕ) → Nearest index len p best (mark_of on) → (t : ℕ) → on ≡ Some t → t < 1024
  near-low best on n t is = omega (arith, ap mark_of is, n.few)

  module _ (best : Ahead) (on : Option ℕ) (n : Nearest index len p best (mark_of on)) where
    abbrev x : ℕ
    x = mark_of on

    pub near-end : ((s : ℕ) → on ≡ Some s → ⊥) → Seen index len p best
    near-end e =
        record {
          up = n.up;
          in-pool = n.in-pool;
          in_cell = n.in_cell;
          free = n.free;
          there = n.there;
          real = n.real;
          none = λ s o h. ⊎_elim (λ k. k) (λ k. absurd (empty s x k (ap mark_of (none_of on e)))) (n.rest s o h);
        }
      where
        empty : (s x : ℕ) → On index s x → x ≡ 0 → ⊥
        empty s x (here f) g = omega arith
        empty s x (there t f o) g = omega arith

    -- t is the slot that is looked at, y the mark after it
    module _ (t : ℕ) (is : on ≡ Some t) (after : Option ℕ) (read : mark_of after ≡ next_of index t) where
      abbrev y : ℕ
      y = mark_of after

      of_t : x ≡ suc t
      of_t = ap mark_of is

      low : t < 1024
      low = omega (arith, of_t, n.few)

      pub near-less : mark_of after < mark_of on
      near-less = omega (arith, of_t, read, i.fall t low)

      abbrev place : ℕ
      place = place_of index t

      -- a slot that was left to look at: it is the one, or it comes after it
      rest_of : (s u : ℕ) → On index s u → u ≡ x → (s ≡ t) ⊎ On index s y
      rest_of s u (here e) q = inl (omega (arith, of_t))
      rest_of s u (there r e o) q =
          let m : r ≡ t = omega (arith, of_t) in
          inr (subst (λ (v : ℕ). On index s v) (ap (λ (v : ℕ). next_of index v) m ∙ sym read) o)

      few : y ≤ 1023
      few = omega (arith, near-less, n.few)

      next : (s : ℕ) → y ≡ suc s → Marked index s
      next s e = follows t low (sym read ∙ e)

      -- the best stays: that of t starts below p, or not before the best's end
      stays : (p ≤ place → best.end ≤ place) → Nearest index len p best y
      stays f =
          record {
            up = n.up;
            in-pool = n.in-pool;
            in_cell = n.in_cell;
            free = n.free;
            there = n.there;
            real = n.real;
            rest = λ s o h. ⊎_elim (λ k. inl k) (λ k. ⊎_elim (λ q. inl (it s h q)) (λ q. inr q) (rest_of s x k refl)) (n.rest s o h);
            few = few;
            next = next;
          }
        where
          it : (s : ℕ) → p ≤ place_of index s → s ≡ t → best.end ≤ place_of index s
          it s h q =
              let e : place_of index s ≡ place = ap (λ (u : ℕ). place_of index u) q in
              omega (arith, f (omega (arith, e, h)), e)

      -- that of t is the best
      goes : p ≤ place → place < best.end → Nearest index len p (record { end = place; next = Some t }) y
      goes h l =
          record {
            up = h;
            in-pool = omega (arith, n.in-pool);
            in_cell = omega (arith, n.in_cell);
            free = λ e. absurd (omega (arith, ap mark_of e));
            there = λ s e. ap (λ (u : ℕ). place_of index u) (of s e);
            real = λ s e. subst (λ (u : ℕ). Marked index u) (sym (of s e)) (n.next t of_t);
            rest =
                λ s o k. ⊎_elim (λ j. inl (omega arith)) (λ j. ⊎_elim (λ q. inl (it s q)) (λ q. inr q) (rest_of s x j refl))
                (n.rest s o k);
            few = few;
            next = next;
          }
        where
          of : (s : ℕ) → Some t ≡ Some s → s ≡ t
          of s e = omega (arith, ap mark_of e)

          it : (s : ℕ) → s ≡ t → place ≤ place_of index s
          it s q = omega (arith, ap (λ (u : ℕ). place_of index u) q)

      pub near-more : (r : Ahead) → r ≡ nearer_of index p best t → Nearest index len p r (mark_of after)
      unfolding nearer_of
      near-more r e = rw e (go (lt-or place p) (lt-or place best.end))
        where
          go : (place < p) ⊎ (p ≤ place) → (place < best.end) ⊎ (best.end ≤ place)
              → Nearest index len p (cond (ltb place p) best (cond (leb best.end place) best (record { end = place; next = Some t }))) y
          go (inl h) k = rw (lt-ltb place p h) (stays (λ j. absurd (omega arith)))
          go (inr h) (inr k) = rw (le-ltb place p h, le-leb best.end place k) (stays (λ j. k))
          go (inr h) (inl k) = rw (le-ltb place p h, lt-leb best.end place k) (goes h k)

-- what it says of the bodies
module _ (n : ℕ) (a z : ℕ → ℕ) (index : Index) (i : Chained n a z index) (len p : ℕ) (r : Ahead) (s : Seen index len p r) where
  pub none_ahead : NoneFrom n a z p r.end
  none_ahead = record { none = λ t l x h k. clash t l x h k }
    where
      clash : (t : ℕ) → t < n → 0 < z t → p ≤ a t → a t < r.end → ⊥
      clash t l x h k =
          let e : a t / 64 ≡ p / 64 = omega (arith, s.in_cell) in
          let o : On index t (first_in index p) = subst (λ (u : ℕ). On index t (get_or index.firsts u 0)) e (i.has t l x) in
          let j : place_of index t ≡ a t = i.place t l x in
          omega (arith, s.none t o (omega arith))

  pub body-ahead : (t : ℕ) → r.next ≡ Some t → StartsAt n a z r.end t
  body-ahead t e =
      let m = s.real t e in
      record { low = i.low t m; some = i.some t m; here = sym (i.place t (i.low t m) (i.some t m)) ∙ s.there t e }

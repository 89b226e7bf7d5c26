-- The image while bodies are moved down: those that start below p have their new start already. How a turn goes on,
-- and that the end is the image of the statement.
use mathlib.Core.Path.{◌≡◌, refl, sym, ap, ◌∙◌}
use mathlib.Core.List.{List}
use mathlib.Core.Bool.{cond}
use mathlib.Core.Logic.{◌⊎◌, inl, inr, ⊎_elim}
use Prim.Native.Nat.{ℕ, zero, suc, ◌+◌, ◌<◌, ◌≤◌}
use native.Mathlib.Nat.{not-suc-le-zero}
use native.Mathlib.Omega.{arith}
use lib.Dec.{ltb}
use lib.ListN.{length}
use borrow.Author.Tests.{lt-ltb, le-ltb}
use Rattle.laws.proofs.Says.{same_or, lt-or}
use Rattle.laws.proofs.Walks.{split_lt}
use Rattle.image.specs.Layout.{Sized, Within, version_of, rec_at, with_start, set_start}
use Rattle.image.proofs.Records.{within-sized}
use Rattle.image.proofs.Places.{length_record}
use Rattle.image.proofs.Starts.{start-other, start-same}
use Rattle.image.proofs.Headers.{SameHeader, header-start}
use Rattle.pool.specs.Bodies.{body_of, start_at, body_at}
use Rattle.pool.specs.Laid.{Laid}
use Rattle.pool.specs.Index.{StartsAt}
use Rattle.pool.specs.Packed.{below, packed_start, put_starts, packed_image}
use Rattle.pool.proofs.Apart.{NoneFrom, same_body}
use Rattle.pool.proofs.Starts.{body_kept, same-body-size, header_refl, header_trans, same-image}

pub record TableAt (n p : ℕ) (old new : List ℕ) : Type 0 where
  pub head : SameHeader old new
  -- a record whose body was moved has its new start
  pub done : (t : ℕ) → t < n → 0 < body_at old t → start_at old t < p
      → rec_at new t ≡ with_start (rec_at old t) (packed_start n (start_at old) (body_at old) t)
  -- the others are as they were
  pub rest : (t : ℕ) → t < n → 0 < body_at old t → p ≤ start_at old t → rec_at new t ≡ rec_at old t
  pub none : (t : ℕ) → t < n → body_at old t ≡ 0 → rec_at new t ≡ rec_at old t

module _ (n : ℕ) (old : List ℕ) (sized : Sized old n) where
  pub table_start : TableAt n 0 old old
  table_start =
      record { head = header_refl old; done = λ t l x h. absurd (not-suc-le-zero h); rest = λ t l x h. refl; none = λ t l x. refl }

  whole : (t : ℕ) → t < n → length (rec_at old t) ≡ 64
  whole t l = length_record old t (within-sized old n t sized l).0

  module _ (p : ℕ) (new : List ℕ) (i : TableAt n p old new) where
    pub table_sized : Sized new n
    table_sized = record { long = i.head.long ∙ sized.long; least = sized.least; most = sized.most }

    -- sizes are as they were
    pub table_size : (t : ℕ) → t < n → body_at new t ≡ body_at old t
    unfolding body_at
    table_size t l =
        same-body-size old new t i.head (⊎_elim (λ x. some x) (λ x. as_it_was_lem (i.none t l (omega arith))) (lt-or 0 (body_at old t)))
      where
        as_it_was_lem : rec_at new t ≡ rec_at old t → body_of (version_of old) (rec_at new t) ≡ body_at old t
        as_it_was_lem e = ap (body_of (version_of old)) e

        set : rec_at new t ≡ with_start (rec_at old t) (packed_start n (start_at old) (body_at old) t)
            → body_of (version_of old) (rec_at new t) ≡ body_at old t
        set e =
            ap (body_of (version_of old)) e ∙ body_kept (version_of old) (rec_at old t) (packed_start n (start_at old) (body_at old) t) (whole t l)

        some : 0 < body_at old t → body_of (version_of old) (rec_at new t) ≡ body_at old t
        some x = ⊎_elim (λ h. set (i.done t l x h)) (λ h. as_it_was_lem (i.rest t l x h)) (lt-or (start_at old t) p)

    pub table_none : (e : ℕ) → p ≤ e → NoneFrom n (start_at old) (body_at old) p e → TableAt n e old new
    table_none e up b =
        record {
          head = i.head;
          done = λ t l x h. i.done t l x (lower t l x h);
          rest = λ t l x h. i.rest t l x (omega arith);
          none = i.none;
        }
      where
        lower : (t : ℕ) → t < n → 0 < body_at old t → start_at old t < e → start_at old t < p
        lower t l x h = ⊎_elim (λ y. y) (λ y. absurd (b.none t l x y h)) (lt-or (start_at old t) p)

    module _ (len : ℕ) (laid : Laid n (start_at old) (body_at old) len) (to s : ℕ) (b : StartsAt n (start_at old) (body_at old) p s)
        (sum : to ≡ below n (start_at old) (body_at old) p) where
      within : Within new s
      within = within-sized new n s table_sized b.low

      other : (t : ℕ) → t < n → (t ≡ s → ⊥) → rec_at (set_start new s to) t ≡ rec_at new t
      other t l e = start-other new s to within t (within-sized new n t table_sized l) e

      done-after : (t : ℕ) → t < n → 0 < body_at old t → start_at old t < p + body_at old s → (t ≡ s) ⊎ (t ≡ s → ⊥)
          → rec_at (set_start new s to) t ≡ with_start (rec_at old t) (packed_start n (start_at old) (body_at old) t)
      unfolding packed_start
      done-after t l x h (inl e) =
          rw e (start-same new s to within
          ∙ ap (λ (r : List ℕ). with_start r to) (i.rest s b.low b.some (omega (arith, b.here)))
          ∙ ap (λ (u : ℕ). with_start (rec_at old s) u) (sum ∙ ap (λ (u : ℕ). below n (start_at old) (body_at old) u) (sym b.here)))
      done-after t l x h (inr e) = other t l e ∙ i.done t l x (low (lt-or (start_at old t) p))
        where
          low : (start_at old t < p) ⊎ (p ≤ start_at old t) → start_at old t < p
          low (inl k) = k
          low (inr k) =
              absurd (e (sym (same_body n (start_at old) (body_at old) len laid s t b.low l b.some x (omega (arith, b.here))
              (omega (arith, b.here)))))

      rest-after : (t : ℕ) → t < n → 0 < body_at old t → p + body_at old s ≤ start_at old t → rec_at (set_start new s to) t ≡ rec_at old t
      rest-after t l x h = other t l differ ∙ i.rest t l x (omega arith)
        where
          differ : t ≡ s → ⊥
          differ e = omega (arith, ap (start_at old) e, b.here, b.some)

      none_after : (t : ℕ) → t < n → body_at old t ≡ 0 → rec_at (set_start new s to) t ≡ rec_at old t
      none_after t l x = other t l differ ∙ i.none t l x
        where
          differ : t ≡ s → ⊥
          differ e = omega (arith, ap (body_at old) e, b.some)

      pub table_body : TableAt n (p + body_at old s) old (set_start new s to)
      table_body =
          record {
            head = header_trans old new (set_start new s to) i.head (header-start new s to within);
            done = λ t l x h. done-after t l x h (same_or t s);
            rest = rest-after;
            none = none_after;
          }

-- the starts of the first k slots, put in the order of the slots
module _ (n : ℕ) (img : List ℕ) (sized : Sized img n) (z f : ℕ → ℕ) where
  pub record Put (k : ℕ) (new : List ℕ) : Type 0 where
    pub head : SameHeader img new
    pub some : (t : ℕ) → t < k → 0 < z t → rec_at new t ≡ with_start (rec_at img t) (f t)
    pub none : (t : ℕ) → t < k → z t ≡ 0 → rec_at new t ≡ rec_at img t
    pub rest : (t : ℕ) → t < n → k ≤ t → rec_at new t ≡ rec_at img t

  put_more : (k : ℕ) → k < n → (new : List ℕ) → Put k new → (0 < z k) ⊎ (z k ≤ 0)
      → Put (suc k) (cond (ltb 0 (z k)) (set_start new k (f k)) new)
  put_more k l new i (inr h) =
      rw (le-ltb 0 (z k) h) (record {
        head = i.head;
        some = λ t j x. ⊎_elim (λ e. absurd (clash t e x)) (λ m. i.some t m x) (split_lt j);
        none = λ t j x. ⊎_elim (λ e. i.rest t (omega arith) (omega arith)) (λ m. i.none t m x) (split_lt j);
        rest = λ t j x. i.rest t j (omega arith);
      })
    where
      clash : (t : ℕ) → t ≡ k → 0 < z t → ⊥
      clash t e x = omega (arith, ap z e)
  put_more k l new i (inl h) =
      rw (lt-ltb 0 (z k) h) (record {
        head = header_trans img new (set_start new k (f k)) i.head (header-start new k (f k) within);
        some = λ t j x. ⊎_elim (λ e. here t e) (λ m. other t (omega arith) (λ e. omega arith) ∙ i.some t m x) (split_lt j);
        none = λ t j x. ⊎_elim (λ e. absurd (clash t e x)) (λ m. other t (omega arith) (λ e. omega arith) ∙ i.none t m x) (split_lt j);
        rest = λ t j x. other t j (λ e. omega arith) ∙ i.rest t j (omega arith);
      })
    where
      after : Sized new n
      after = record { long = i.head.long ∙ sized.long; least = sized.least; most = sized.most }

      within : Within new k
      within = within-sized new n k after l

      other : (t : ℕ) → t < n → (t ≡ k → ⊥) → rec_at (set_start new k (f k)) t ≡ rec_at new t
      other t j e = start-other new k (f k) within t (within-sized new n t after j) e

      here : (t : ℕ) → t ≡ k → rec_at (set_start new k (f k)) t ≡ with_start (rec_at img t) (f t)
      here t e = rw e (start-same new k (f k) within ∙ ap (λ (r : List ℕ). with_start r (f k)) (i.rest k l (omega arith)))

      clash : (t : ℕ) → t ≡ k → z t ≡ 0 → ⊥
      clash t e x = omega (arith, ap z e)

  pub put_all : (k : ℕ) → k ≤ n → Put k (put_starts k z f img)
  unfolding put_starts
  put_all zero l =
      record {
        head = header_refl img;
        some = λ t j x. absurd (not-suc-le-zero j);
        none = λ t j x. absurd (not-suc-le-zero j);
        rest = λ t j x. refl;
      }
  put_all (suc k) l = put_more k l (put_starts k z f img) (put_all k (omega arith)) (lt-or 0 (z k))

-- the end: every body was moved
pub table_end : (n : ℕ) (old new : List ℕ) (len : ℕ) → Sized old n → Laid n (start_at old) (body_at old) len → TableAt n len old new
    → new ≡ packed_image n old
unfolding packed_image
table_end n old new len sized laid i =
    same-image old new (put_starts n (body_at old) (packed_start n (start_at old) (body_at old)) old) n (table_sized n old sized len new i)
    i.head u.head (λ t l. one t l (lt-or 0 (body_at old t)))
  where
    u : Put n old sized (body_at old) (packed_start n (start_at old) (body_at old)) n
        (put_starts n (body_at old) (packed_start n (start_at old) (body_at old)) old)
    u = put_all n old sized (body_at old) (packed_start n (start_at old) (body_at old)) n (omega arith)

    one : (t : ℕ) → t < n → (0 < body_at old t) ⊎ (body_at old t ≤ 0)
        → rec_at new t ≡ rec_at (put_starts n (body_at old) (packed_start n (start_at old) (body_at old)) old) t
    one t l (inl x) = i.done t l x (omega (arith, laid.inside t l x)) ∙ sym (u.some t l x)
    one t l (inr x) = i.none t l (omega arith) ∙ sym (u.none t l (omega arith))

-- The pool while bodies are moved down: those that start below p lie below `to` already. How a turn goes on, and
-- that the end is the pool of the statement.
use mathlib.Core.Path.{◌≡◌, refl, sym, ap, ◌∙◌}
use mathlib.Core.List.{List, [], ◌∷◌, ◌++◌}
use mathlib.Core.Bool.{true, false}
use mathlib.Core.Logic.{◌⊎◌, inl, inr, ⊎_elim}
use Prim.Native.Nat.{ℕ, zero, suc, ◌+◌, ◌-◌, ◌<◌, ◌≤◌}
use native.Mathlib.Nat.{not-suc-le-zero}
use native.Mathlib.Omega.{arith}
use lib.Dec.{leb, ltb}
use lib.ListN.{length, get_or, length-append, get_or-append}
use lib.Seq.{ext_get_or, get_or-append_seam}
use borrow.Author.Tests.{le-leb, leb-true, lt-ltb, ltb-true}
use Rattle.std.specs.Prelude.{Option, Some, None}
use Rattle.laws.specs.Walks.{sum_below}
use Rattle.laws.proofs.Walks.{split_lt}
use Rattle.laws.proofs.Firsts.{first_is, no-first}
use Rattle.laws.proofs.Says.{and-says, lt-or}
use Rattle.pool.specs.Laid.{Laid}
use Rattle.pool.specs.Index.{StartsAt}
use Rattle.pool.specs.Packed.{below, packed_start, holds, owner_of, left_byte, moved_byte, packed_byte, list_below, packed_pool, move_down}
use Rattle.pool.proofs.Apart.{NoneFrom, Covering, covering, same_body, ends_before, packed-order, covered, below_len}
use Rattle.pool.proofs.Downs.{length_down, down_body, down_gone, down_low, down_between, down_high}

pub record PoolAt (n : ℕ) (a z : ℕ → ℕ) (p to : ℕ) (old new : List ℕ) : Type 0 where
  pub long : length new ≡ length old
  -- a body that was moved reads the same
  pub body : (t : ℕ) → t < n → a t < p → (k : ℕ) → k < z t → get_or new (packed_start n a z t + k) 0 ≡ get_or old (a t + k) 0
  -- what it left is 00, unless it is in a body again
  pub gone : (q t : ℕ) → to ≤ q → t < n → a t < p → a t ≤ q → q < a t + z t → get_or new q 0 ≡ 0
  -- the other bytes are as they were
  pub kept : (q : ℕ) → to ≤ q → ((t : ℕ) → t < n → 0 < z t → a t < p → a t ≤ q → a t + z t ≤ q) → get_or new q 0 ≡ get_or old q 0

module _ (n : ℕ) (a z : ℕ → ℕ) (old : List ℕ) where
  pub pool-start : PoolAt n a z 0 0 old old
  pool-start =
      record {
        long = refl;
        body = λ t l h k j. absurd (not-suc-le-zero h);
        gone = λ q t x l h y j. absurd (not-suc-le-zero h);
        kept = λ q x f. refl;
      }

  -- no body starts from p to e
  pub pool-none : (p e to : ℕ) (new : List ℕ) → PoolAt n a z p to old new → p ≤ e → NoneFrom n a z p e → PoolAt n a z e to old new
  pool-none p e to new i up b =
      record {
        long = i.long;
        body = λ t l h k j. i.body t l (lower t l h (omega arith)) k j;
        gone = λ q t x l h y j. i.gone q t x l (lower t l h (omega arith)) y j;
        kept = λ q x f. i.kept q x (λ t l y h j. f t l y (omega arith) j);
      }
    where
      lower : (t : ℕ) → t < n → a t < e → 0 < z t → a t < p
      lower t l h x = ⊎_elim (λ y. y) (λ y. absurd (b.none t l x y h)) (lt-or (a t) p)

  -- the body of s starts at p, and was moved
  module _ (laid : Laid n a z (length old)) (p to s : ℕ) (b : StartsAt n a z p s) (down : to ≤ p) (sum : to ≡ below n a z p)
      (new : List ℕ) (i : PoolAt n a z p to old new) where
    own : packed_start n a z s ≡ to
    unfolding packed_start
    own = ap (λ (x : ℕ). below n a z x) b.here ∙ sym sum

    room : p + z s ≤ length new
    room = omega (arith, laid.inside s b.low b.some, b.here, i.long)

    before : (t : ℕ) → t < n → 0 < z t → a t < p → a t + z t ≤ p
    before t l x h = ends_before n a z (length old) laid p s t b l x h

    it : (t : ℕ) → t < n → 0 < z t → p ≤ a t → a t < p + z s → s ≡ t
    it t l x h k = same_body n a z (length old) laid s t b.low l b.some x (omega (arith, b.here)) (omega (arith, b.here))

    -- a byte at p or above that only bodies from p on may have had is as it was
    still : (q : ℕ) → p ≤ q → get_or new q 0 ≡ get_or old q 0
    still q h = i.kept q (omega arith) (λ t l x k j. omega (arith, before t l x k))

    body-after : (t : ℕ) → t < n → (k : ℕ) → k < z t → (a t < p) ⊎ (p ≤ a t) → a t < p + z s
        → get_or (move_down new p to (z s)) (packed_start n a z t + k) 0 ≡ get_or old (a t + k) 0
    body-after t l k j (inl h) x =
        down_low new p to (z s) down room (packed_start n a z t + k)
        (omega (arith, own, packed-order n a z (length old) laid t s l (omega (arith, b.here))))
        ∙ i.body t l h k j
    body-after t l k j (inr h) x =
        let e = it t l (omega arith) h x in
        let m : z t ≡ z s = ap z (sym e) in
        let f : packed_start n a z t ≡ to = ap (λ (u : ℕ). packed_start n a z u) (sym e) ∙ own in
        let g : p ≡ a t = sym b.here ∙ ap a e in
        ap (λ (u : ℕ). get_or (move_down new p to (z s)) (u + k) 0) f
        ∙ down_body new p to (z s) down room k (omega arith)
        ∙ still (p + k) (omega arith)
        ∙ ap (λ (u : ℕ). get_or old (u + k) 0) g

    gone_after : (q t : ℕ) → to + z s ≤ q → t < n → a t ≤ q → q < a t + z t → (a t < p) ⊎ (p ≤ a t) → a t < p + z s
        → get_or (move_down new p to (z s)) q 0 ≡ 0
    gone_after q t x l y j (inl h) k =
        down_between new p to (z s) down room q x (omega (arith, before t l (omega arith) h)) ∙ i.gone q t (omega arith) l h y j
    gone_after q t x l y j (inr h) k =
        let e = it t l (omega arith) h k in
        down_gone new p to (z s) down room q x (omega arith) (omega (arith, ap a e, ap z e, b.here))

    kept-after : (q : ℕ) → to + z s ≤ q → ((t : ℕ) → t < n → 0 < z t → a t < p + z s → a t ≤ q → a t + z t ≤ q) → (q < p) ⊎ (p ≤ q)
        → get_or (move_down new p to (z s)) q 0 ≡ get_or old q 0
    kept-after q x f (inl h) = down_between new p to (z s) down room q x h ∙ i.kept q (omega arith) (λ t l y k j. f t l y (omega arith) j)
    kept-after q x f (inr h) =
        down_high new p to (z s) down room q
        (omega (arith, f s b.low b.some (omega (arith, b.here, b.some)) (omega (arith, b.here)), b.here))
        ∙ still q h

    pub pool-body : PoolAt n a z (p + z s) (to + z s) old (move_down new p to (z s))
    pool-body =
        record {
          long = length_down new p to (z s) down room ∙ i.long;
          body = λ t l h k j. body-after t l k j (lt-or (a t) p) h;
          gone = λ q t x l h y j. gone_after q t x l y j (lt-or (a t) p) h;
          kept = λ q x f. kept-after q x f (lt-or q p);
        }

-- a list that is made of its elements
pub length_list : (n : ℕ) (f : ℕ → ℕ) → length (list_below n f) ≡ n
unfolding list_below
length_list zero f = refl
length_list (suc n) f = rw (length-append, length_list n f) (omega arith)

pub get_or-list : (n : ℕ) (f : ℕ → ℕ) (i : ℕ) → i < n → get_or (list_below n f) i 0 ≡ f i
unfolding list_below
get_or-list zero f i l = absurd (not-suc-le-zero l)
get_or-list (suc n) f i l =
    ⊎_elim last (λ m. get_or-append (list_below n f) (f n ∷ []) 0 i (rw (length_list n f) m) ∙ get_or-list n f i m) (split_lt l)
  where
    last : i ≡ n → get_or (list_below n f ++ (f n ∷ [])) i 0 ≡ f i
    last e =
        ap (λ (u : ℕ). get_or (list_below n f ++ (f n ∷ [])) u 0) (e ∙ sym (length_list n f))
        ∙ get_or-append_seam (list_below n f) (f n) [] 0
        ∙ ap f (sym e)

-- who holds a byte
module _ (n : ℕ) (a z : ℕ → ℕ) (q : ℕ) where
  pub record Holds (t : ℕ) : Type 0 where
    pub slot : t < n
    pub from : a t ≤ q
    pub upto : q < a t + z t

  pub owner_is : (t : ℕ) → owner_of n a z q ≡ Some t → Holds t
  unfolding owner_of holds
  owner_is t e =
      let f = first_is n (holds a z q) t e in
      let h = (and-says (leb (a t) q) (ltb q (a t + z t))).0 f.here in
      record { slot = f.low; from = leb-true (a t) q h.0; upto = ltb-true q (a t + z t) h.1 }

  pub owner_none : owner_of n a z q ≡ None → (t : ℕ) → t < n → a t ≤ q → q < a t + z t → ⊥
  unfolding owner_of holds
  owner_none e t l h k =
      let f = (no-first n (holds a z q) e).none t l in
      let g = (and-says (leb (a t) q) (ltb q (a t + z t))).1 (le-leb (a t) q h, lt-ltb q (a t + z t) k) in
      let bad : true ≡ false = sym g ∙ f in
      let zero_one : ◌≡◌ {A = ℕ} 0 1 = cc in
      omega arith

-- the end: every body was moved
module _ (n : ℕ) (a z : ℕ → ℕ) (old new : List ℕ) (laid : Laid n a z (length old)) (to : ℕ) (sum : to ≡ sum_below n z)
    (i : PoolAt n a z (length old) to old new) where
  starts : (t : ℕ) → t < n → 0 < z t → a t < length old
  starts t l x = omega (arith, laid.inside t l x)

  left : (q : ℕ) → to ≤ q → (f : Option ℕ) → owner_of n a z q ≡ f → get_or new q 0 ≡ left_byte f (get_or old q 0)
  left q h (Some t) e =
      let o = owner_is n a z q t e in
      i.gone q t h o.slot (starts t o.slot (omega (arith, o.from, o.upto))) o.from o.upto
  left q h None e = i.kept q h (λ t l x k j. ⊎_elim (λ y. absurd (owner_none n a z q e t l j y)) (λ y. y) (lt-or q (a t + z t)))

  at : (q : ℕ) → (f : Option ℕ) → owner_of n (packed_start n a z) z q ≡ f
      → get_or new q 0 ≡ moved_byte a (packed_start n a z) old q f (owner_of n a z q)
  at q (Some t) e =
      let o = owner_is n (packed_start n a z) z q t e in
      let j : packed_start n a z t + (q - packed_start n a z t) ≡ q = omega (arith, o.from) in
      ap (λ (u : ℕ). get_or new u 0) (sym j)
      ∙ i.body t o.slot (starts t o.slot (omega (arith, o.from, o.upto))) (q - packed_start n a z t)
      (omega (arith, o.from, o.upto))
  at q None e =
      left q (⊎_elim (λ h. absurd (held
      (covered n a z (length old) laid (length old) q (omega (arith, below_len n a z (length old) laid z (λ t l. omega arith)))))) (λ h. h)
      (lt-or q to)) (owner_of n a z q) refl
    where
      held : Covering n a z q → ⊥
      held (covering t l h k) = owner_none n (packed_start n a z) z q e t l h k

  pub pool-end : new ≡ packed_pool n a z old
  unfolding packed_pool packed_byte
  pool-end =
      ext_get_or 0 new (list_below (length old) (packed_byte n a z old)) (i.long ∙ sym (length_list (length old) (packed_byte n a z old)))
      (λ q h. at q (owner_of n (packed_start n a z) z q) refl
      ∙ sym (get_or-list (length old) (packed_byte n a z old) q (omega (arith, i.long))))

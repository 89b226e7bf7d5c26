-- What moving down leaves, over the image and the pool: the records and what they say of bodies, that these lie in
-- the pool, apart, the lowest gap, that each body reads the same, and that a second moving down changes nothing.
use mathlib.Core.Path.{◌≡◌, refl, sym, ap, ◌∙◌}
use mathlib.Core.List.{List}
use mathlib.Core.Bool.{cond, ◌||◌}
use mathlib.Core.Logic.{◌⊎◌, inl, inr, ⊎_elim}
use Prim.Native.Nat.{ℕ, ◌+◌, ◌-◌, ◌<◌, ◌≤◌}
use native.Mathlib.Omega.{arith}
use lib.Dec.{eqb, leb}
use lib.ListN.{length, get_or}
use lib.Seq.{ext_get_or}
use borrow.Author.Tests.{eq-eqb}
use Rattle.std.specs.Prelude.{Option, Some, None}
use Rattle.laws.specs.Lists.{part}
use Rattle.laws.specs.Walks.{sum_below}
use Rattle.laws.proofs.Splices.{length_part, get_or-part}
use Rattle.laws.proofs.Walks.{all_cong}
use Rattle.laws.proofs.Firsts.{first_cong}
use Rattle.laws.proofs.Sums.{sum_cong}
use Rattle.laws.proofs.Says.{lt-or}
use Rattle.image.specs.Layout.{Sized, version_of, rec_at, start_of, with_start}
use Rattle.image.proofs.Records.{within-sized}
use Rattle.image.proofs.Places.{length_record}
use Rattle.image.proofs.Starts.{start-set}
use Rattle.image.proofs.Headers.{SameHeader}
use Rattle.pool.specs.Bodies.{body_of, start_at, body_at}
use Rattle.pool.specs.Laid.{clear, Laid}
use Rattle.pool.specs.Gaps.{fits, lowest_gap}
use Rattle.pool.specs.Packed.{starts_below, below, packed_start, owner_of, moved_byte, packed_byte, list_below, packed_pool, packed_image}
use Rattle.pool.specs.Packed.{moved_bytes}
use Rattle.pool.proofs.Belows.{counts, counts-not}
use Rattle.pool.proofs.Apart.{some_or, packed-laid, same_body}
use Rattle.pool.proofs.Starts.{body_kept, same-body-size, header_refl, with_twice, same-image}
use Rattle.pool.proofs.Pools.{length_list, get_or-list, owner_is, owner_none, Holds}
use Rattle.pool.proofs.Tables.{Put, put_all}
use Rattle.pool.proofs.Moved.{weightless, gap_after, packed_stays, count_stays}

-- two tables that say the same of bodies
pub record Alike (n : ℕ) (a z b y : ℕ → ℕ) : Type 0 where
  pub sizes : (t : ℕ) → t < n → z t ≡ y t
  pub starts : (t : ℕ) → t < n → 0 < z t → a t ≡ b t

module _ (n : ℕ) (a z b y : ℕ → ℕ) (i : Alike n a z b y) where
  pub alike_laid : (len : ℕ) → Laid n b y len → Laid n a z len
  alike_laid len h =
      record {
        inside = λ t l x. omega (arith, i.sizes t l, i.starts t l x, h.inside t l (omega (arith, i.sizes t l)));
        apart =
            λ s t k l x w e d. omega (
              arith,
              i.sizes s k,
              i.sizes t l,
              i.starts s k x,
              i.starts t l w,
              h.apart s t k l
                  (omega (arith, i.sizes s k)) (omega (arith, i.sizes t l)) (omega (arith, i.starts s k x, i.starts t l w)) d,
            );
      }

  pub alike_gap : (len m : ℕ) → lowest_gap n a z len m ≡ lowest_gap n b y len m
  unfolding lowest_gap fits clear
  alike_gap len m =
      first_cong (len + 1 - m) (fits n a z m) (fits n b y m)
      (λ p l. all_cong n (clear a z p m) (clear b y p m) (λ t k. one p t k (some_or n a z t)))
    where
      one : (p t : ℕ) → t < n → (0 < z t) ⊎ (z t ≡ 0)
          → (eqb (z t) 0 || (leb (a t + z t) p || leb (p + m) (a t))) ≡ (eqb (y t) 0 || (leb (b t + y t) p || leb (p + m) (b t)))
      one p t k (inl x) = rw (i.sizes t k, i.starts t k x)
      one p t k (inr x) = rw (eq-eqb (z t) 0 x, eq-eqb (y t) 0 (sym (i.sizes t k) ∙ x))

  pub alike_start : (s : ℕ) → s < n → 0 < z s → packed_start n a z s ≡ packed_start n b y s
  unfolding packed_start below
  alike_start s l x = sum_cong n (starts_below a z (a s)) (starts_below b y (b s)) (λ t k. one t k (some_or n a z t) (lt-or (a t) (a s)))
    where
      one : (t : ℕ) → t < n → (0 < z t) ⊎ (z t ≡ 0) → (a t < a s) ⊎ (a s ≤ a t) → starts_below a z (a s) t ≡ starts_below b y (b s) t
      one t k (inl w) (inl h) =
          counts a z (a s) t h ∙ i.sizes t k ∙ sym (counts b y (b s) t (omega (arith, i.starts s l x, i.starts t k w)))
      one t k (inl w) (inr h) = counts-not a z (a s) t h ∙ sym (counts-not b y (b s) t (omega (arith, i.starts s l x, i.starts t k w)))
      one t k (inr w) h = weightless a z (a s) t w ∙ sym (weightless b y (b s) t (sym (i.sizes t k) ∙ w))

-- where no body's start would differ, the pool stays
module _ (n : ℕ) (a z : ℕ → ℕ) (pool : List ℕ) (still : (t : ℕ) → t < n → 0 < z t → packed_start n a z t ≡ a t) where
  at : (q : ℕ) → (f : Option ℕ) → owner_of n (packed_start n a z) z q ≡ f → (g : Option ℕ) → owner_of n a z q ≡ g
      → get_or pool q 0 ≡ moved_byte a (packed_start n a z) pool q f g
  at q (Some t) e g o =
      let h = owner_is n (packed_start n a z) z q t e in
      let w : packed_start n a z t ≡ a t = still t h.slot (omega (arith, h.from, h.upto)) in
      let j : q ≡ a t + (q - packed_start n a z t) = omega (arith, h.from) in
      ap (λ (u : ℕ). get_or pool u 0) j
  at q None e (Some t) o = absurd (clash (owner_is n a z q t o))
    where
      clash : Holds n a z q t → ⊥
      clash h =
          let w : packed_start n a z t ≡ a t = still t h.slot (omega (arith, h.from, h.upto)) in
          owner_none n (packed_start n a z) z q e t h.slot (omega (arith, h.from)) (omega (arith, h.upto))
  at q None e None o = refl

  pub pool_stays : packed_pool n a z pool ≡ pool
  unfolding packed_pool packed_byte
  pool_stays =
      sym (ext_get_or 0 pool (list_below (length pool) (packed_byte n a z pool)) (sym (length_list (length pool) (packed_byte n a z pool)))
      (λ q h. at q (owner_of n (packed_start n a z) z q) refl (owner_of n a z q) refl
      ∙ sym (get_or-list (length pool) (packed_byte n a z pool) q h)))

-- each byte of a body that was moved: it reads the same at its new place
module _ (n : ℕ) (a z : ℕ → ℕ) (pool : List ℕ) (laid : Laid n a z (length pool)) where
  pub length-pool : length (packed_pool n a z pool) ≡ length pool
  unfolding packed_pool
  length-pool = length_list (length pool) (packed_byte n a z pool)

  moved-byte : (t : ℕ) → t < n → (k : ℕ) → k < z t → (f : Option ℕ) → owner_of n (packed_start n a z) z (packed_start n a z t + k) ≡ f
      → moved_byte a (packed_start n a z) pool (packed_start n a z t + k) f (owner_of n a z (packed_start n a z t + k)) ≡ get_or pool (a t + k) 0
  moved-byte t l k h (Some s) e =
      let o = owner_is n (packed_start n a z) z (packed_start n a z t + k) s e in
      let same : s ≡ t =
      ⊎_elim (λ j. same_body n (packed_start n a z) z (length pool) (packed-laid n a z (length pool) laid) s t o.slot l
      (omega (arith, o.from, o.upto)) (omega arith) j (omega (arith, o.upto)))
      (λ j. sym (same_body n (packed_start n a z) z (length pool) (packed-laid n a z (length pool) laid) t s l o.slot (omega arith)
      (omega (arith, o.from, o.upto)) (omega arith) (omega (arith, o.from)))) (le-or (packed_start n a z s) (packed_start n a z t)) in
      let u : packed_start n a z s ≡ packed_start n a z t = ap (λ (x : ℕ). packed_start n a z x) same in
      let v : a s + (packed_start n a z t + k - packed_start n a z s) ≡ a t + k = omega (arith, ap a same) in
      ap (λ (x : ℕ). get_or pool x 0) v
    where
      le-or : (x y : ℕ) → (x ≤ y) ⊎ (y < x)
      le-or x y = ⊎_elim (λ j. inr j) (λ j. inl j) (lt-or y x)
  moved-byte t l k h None e = absurd (owner_none n (packed_start n a z) z (packed_start n a z t + k) e t l (omega arith) (omega arith))

  pub body_reads : (t : ℕ) → t < n → 0 < z t → part (packed_pool n a z pool) (packed_start n a z t) (z t) ≡ part pool (a t) (z t)
  unfolding packed_pool packed_byte
  body_reads t l x =
      let room = (packed-laid n a z (length pool) laid).inside t l x in
      let cut : length (part (packed_pool n a z pool) (packed_start n a z t) (z t)) ≡ z t =
      length_part (packed_pool n a z pool) (packed_start n a z t) (z t) (omega (arith, length-pool)) in
      ext_get_or 0 (part (packed_pool n a z pool) (packed_start n a z t) (z t)) (part pool (a t) (z t))
      (cut ∙ sym (length_part pool (a t) (z t) (laid.inside t l x)))
      (λ k h. one k (rw cut at h) room)
    where
      one : (k : ℕ) → k < z t → packed_start n a z t + z t ≤ length pool
          → get_or (part (packed_pool n a z pool) (packed_start n a z t) (z t)) k 0 ≡ get_or (part pool (a t) (z t)) k 0
      one k h room =
          get_or-part (packed_pool n a z pool) (packed_start n a z t) (z t) k h
          ∙ get_or-list (length pool) (packed_byte n a z pool) (packed_start n a z t + k) (omega arith)
          ∙ moved-byte t l k h (owner_of n (packed_start n a z) z (packed_start n a z t + k)) refl
          ∙ sym (get_or-part pool (a t) (z t) k h)

put_packed : (n : ℕ) (img : List ℕ) (sized : Sized img n)
    → Put n img sized (body_at img) (packed_start n (start_at img) (body_at img)) n (packed_image n img)
unfolding packed_image
put_packed n img sized = put_all n img sized (body_at img) (packed_start n (start_at img) (body_at img)) n (omega arith)

-- The image and the pool together
module _ (n : ℕ) (img pool : List ℕ) (sized : Sized img n) (laid : Laid n (start_at img) (body_at img) (length pool)) where
  put : Put n img sized (body_at img) (packed_start n (start_at img) (body_at img)) n (packed_image n img)
  put = put_packed n img sized

  whole : (t : ℕ) → t < n → length (rec_at img t) ≡ 64
  whole t l = length_record img t (within-sized img n t sized l).0

  pub after-sized : Sized (packed_image n img) n
  after-sized = record { long = put.head.long ∙ sized.long; least = sized.least; most = sized.most }

  -- each record: its start and nothing else differs, and only where it has a body
  pub after_record : (t : ℕ) → t < n → 0 < body_at img t
      → rec_at (packed_image n img) t ≡ with_start (rec_at img t) (packed_start n (start_at img) (body_at img) t)
  after_record t l x = put.some t l x

  pub after-other : (t : ℕ) → t < n → body_at img t ≡ 0 → rec_at (packed_image n img) t ≡ rec_at img t
  after-other t l x = put.none t l x

  pub after-head : SameHeader img (packed_image n img)
  after-head = put.head

  pub after-start : (t : ℕ) → t < n → 0 < body_at img t → start_at (packed_image n img) t ≡ packed_start n (start_at img) (body_at img) t
  unfolding start_at
  after-start t l x = ap start_of (after_record t l x) ∙ start-set (rec_at img t) (packed_start n (start_at img) (body_at img) t) (whole t l)

  pub after-size : (t : ℕ) → t < n → body_at (packed_image n img) t ≡ body_at img t
  unfolding body_at
  after-size t l = same-body-size img (packed_image n img) t after-head (⊎_elim set as_it_was_lem (some_or n (start_at img) (body_at img) t))
    where
      set : 0 < body_at img t → body_of (version_of img) (rec_at (packed_image n img) t) ≡ body_at img t
      set x =
          ap (body_of (version_of img)) (after_record t l x)
          ∙ body_kept (version_of img) (rec_at img t) (packed_start n (start_at img) (body_at img) t) (whole t l)

      as_it_was_lem : body_at img t ≡ 0 → body_of (version_of img) (rec_at (packed_image n img) t) ≡ body_at img t
      as_it_was_lem x = ap (body_of (version_of img)) (after-other t l x)

  alike : Alike n (start_at (packed_image n img)) (body_at (packed_image n img)) (packed_start n (start_at img) (body_at img)) (body_at img)
  alike = record { sizes = after-size; starts = λ t l x. after-start t l (omega (arith, after-size t l)) }

  -- the bodies lie in the pool, apart
  pub after-laid : Laid n (start_at (packed_image n img)) (body_at (packed_image n img)) (length pool)
  after-laid = alike_laid n _ _ _ _ alike (length pool) (packed-laid n (start_at img) (body_at img) (length pool) laid)

  -- a new body of m bytes finds a gap exactly where the sum of all sizes leaves the room
  pub after_gap : (m : ℕ) → 0 < m
      → lowest_gap n (start_at (packed_image n img)) (body_at (packed_image n img)) (length pool) m
      ≡ cond (leb (sum_below n (body_at img) + m) (length pool)) (Some (sum_below n (body_at img))) None
  after_gap m x = alike_gap n _ _ _ _ alike (length pool) m ∙ gap_after n (start_at img) (body_at img) (length pool) laid m x

  -- each body reads the same
  pub after-reads : (t : ℕ) → t < n → 0 < body_at img t
      → part (packed_pool n (start_at img) (body_at img) pool) (start_at (packed_image n img) t) (body_at (packed_image n img) t)
      ≡ part pool (start_at img t) (body_at img t)
  after-reads t l x = rw (after-start t l x, after-size t l) (body_reads n (start_at img) (body_at img) pool laid t l x)

  -- a second moving down: no body's start would differ
  stays : (t : ℕ) → t < n → 0 < body_at (packed_image n img) t
      → packed_start n (start_at (packed_image n img)) (body_at (packed_image n img)) t ≡ start_at (packed_image n img) t
  stays t l x =
      let y : 0 < body_at img t = omega (arith, after-size t l) in
      alike_start n _ _ _ _ alike t l x ∙ packed_stays n (start_at img) (body_at img) (length pool) laid t l y ∙ sym (after-start t l y)

  pub second_count : moved_bytes n (start_at (packed_image n img)) (body_at (packed_image n img)) ≡ 0
  second_count = count_stays n (start_at (packed_image n img)) (body_at (packed_image n img)) stays

  pub second_pool : (p : List ℕ) → packed_pool n (start_at (packed_image n img)) (body_at (packed_image n img)) p ≡ p
  second_pool p = pool_stays n (start_at (packed_image n img)) (body_at (packed_image n img)) p stays

  pub second_image : packed_image n (packed_image n img) ≡ packed_image n img
  second_image =
      same-image (packed_image n img) (packed_image n (packed_image n img)) (packed_image n img) n
      (record { long = again.head.long ∙ put.head.long ∙ sized.long; least = sized.least; most = sized.most })
      again.head (header_refl (packed_image n img)) (λ t l. one t l (some_or n (start_at img) (body_at img) t))
    where
      again : Put n (packed_image n img) after-sized (body_at (packed_image n img))
          (packed_start n (start_at (packed_image n img)) (body_at (packed_image n img))) n (packed_image n (packed_image n img))
      again = put_packed n (packed_image n img) after-sized

      one : (t : ℕ) → t < n → (0 < body_at img t) ⊎ (body_at img t ≡ 0)
          → rec_at (packed_image n (packed_image n img)) t ≡ rec_at (packed_image n img) t
      one t l (inr x) = again.none t l (after-size t l ∙ x)
      one t l (inl x) =
          let y : 0 < body_at (packed_image n img) t = omega (arith, after-size t l) in
          let e : packed_start n (start_at (packed_image n img)) (body_at (packed_image n img)) t ≡ packed_start n (start_at img) (body_at img) t =
          stays t l y ∙ after-start t l x in
          again.some t l y
          ∙ ap (λ (u : ℕ). with_start (rec_at (packed_image n img) t) u) e
          ∙ ap (λ (r : List ℕ). with_start r (packed_start n (start_at img) (body_at img) t)) (after_record t l x)
          ∙ with_twice (rec_at img t) (packed_start n (start_at img) (body_at img) t) (whole t l)
          ∙ sym (after_record t l x)

-- The two walks over the pool, as their code asks: r is what lies ahead of p, k the size that was read.
use mathlib.Core.Path.{◌≡◌, sym, ap, ◌∙◌}
use mathlib.Core.List.{List}
use mathlib.Core.Bool.{Bool, true, false, not}
use Prim.Native.Nat.{ℕ, ◌+◌, ◌-◌, ◌<◌, ◌≤◌}
use native.Mathlib.Omega.{arith}
use lib.Dec.{eqb}
use borrow.Author.Tests.{eq-eqb, ne_eqb}
use lib.ListN.{length}
use Rattle.std.specs.Prelude.{Some}
use Rattle.laws.specs.Walks.{if_so}
use Rattle.image.specs.Layout.{Sized, Within, set_start}
use Rattle.image.proofs.Records.{within-sized}
use Rattle.pool.specs.declared.Ahead.{Ahead}
use Rattle.pool.specs.declared.index.Index.{Index}
use Rattle.pool.specs.Bodies.{start_at, body_at}
use Rattle.pool.specs.Laid.{Laid}
use Rattle.pool.specs.Index.{StartsAt, Chained, Seen}
use Rattle.pool.specs.Gaps.{lowest_gap}
use Rattle.pool.specs.Packed.{below, packed_start, moved_size, moved_bytes, packed_image, packed_pool, move_down}
use Rattle.pool.proofs.Belows.{below-zero}
use Rattle.pool.proofs.Apart.{none-step, body-step, below_len}
use Rattle.pool.proofs.Nearest.{none_of, none_ahead, body-ahead}
use Rattle.pool.proofs.Searching.{Searched, searched_gap, searched_body, searched_found}
use Rattle.pool.proofs.Pools.{PoolAt, pool-start, pool-none, pool-body, pool-end}
use Rattle.pool.proofs.Tables.{TableAt, table_start, table_sized, table_size, table_none, table_body, table_end}

-- The search for a gap: r is what lies ahead of p
module _ (n : ℕ) (a z : ℕ → ℕ) (len m : ℕ) (index : Index) (i : Chained n a z index) (p low : ℕ) (r : Ahead) (s : Seen index len p r)
    (g : Searched n a z len m p low) where
  pub seek_found : m ≤ r.end - low → Some low ≡ lowest_gap n a z len m
  seek_found j = searched_found n a z len m p r.end low g s.in-pool (none_ahead n a z index i len p r s) (omega (arith, g.up, s.up))

  pub seek_gap : r.end - low < m → Searched n a z len m r.end low
  seek_gap j =
      searched_gap n a z len m p r.end low g s.up s.in-pool (none_ahead n a z index i len p r s) (omega (arith, g.up, s.up))

  pub seek_body : Laid n a z len → 0 < m → r.end - low < m → (t : ℕ) → r.next ≡ Some t → (k : ℕ) → k ≡ z t
      → Searched n a z len m (r.end + k) (r.end + k)
  seek_body laid h j t e k f = rw f (searched_body n a z len m laid r.end low t (seek_gap j) (body-ahead n a z index i len p r s t e) h)

-- what both walks ask: the slot is one, and each step goes on
module _ (n : ℕ) (a z : ℕ → ℕ) (index : Index) (i : Chained n a z index) (len p : ℕ) (r : Ahead) (s : Seen index len p r) where
  pub ahead_less : ((t : ℕ) → r.next ≡ Some t → ⊥) → p < len → len - r.end < len - p
  ahead_less e h = omega (arith, s.free (none_of r.next e), s.in-pool)

  module _ (t : ℕ) (e : r.next ≡ Some t) where
    pub ahead_within : (img : List ℕ) → Sized img n → Within img t
    ahead_within img sized = within-sized img n t sized (body-ahead n a z index i len p r s t e).low

    pub body_less : (k : ℕ) → k ≡ z t → p < len → len - (r.end + k) < len - p
    body_less k f h = omega (arith, (body-ahead n a z index i len p r s t e).some, s.up)

-- The moving down: bodies that start below p lie below `to` already
pub record Going (n : ℕ) (image pool new_image new_pool : List ℕ) (moved to p : ℕ) : Type 0 where
  pub down : to ≤ p
  pub in-pool : p ≤ length pool
  pub few : moved ≤ to
  pub sum : to ≡ below n (start_at image) (body_at image) p
  pub count : moved ≡ below n (start_at image) (moved_size n (start_at image) (body_at image)) p
  pub table : TableAt n p image new_image
  pub bytes : PoolAt n (start_at image) (body_at image) p to pool new_pool

-- what a body counts for is at most its size
pub counts_less : (n : ℕ) (a z : ℕ → ℕ) (t : ℕ) → moved_size n a z t ≤ z t
unfolding moved_size
counts_less n a z t = one (not (eqb (a t) (packed_start n a z t))) (z t)
  where
    one : (b : Bool) (k : ℕ) → if_so b k ≤ k
    one true k = omega arith
    one false k = omega arith

-- .. as the code counts it
pub count_none : (from to m : ℕ) → from ≡ to → 0 ≡ if_so (not (eqb from to)) m
count_none from to m e = rw (eq-eqb from to e)

pub count-some : (from to m : ℕ) → (from ≡ to → ⊥) → m ≡ if_so (not (eqb from to)) m
count-some from to m e = rw (ne_eqb from to e)

module _ (n : ℕ) (image pool : List ℕ) (sized : Sized image n) (laid : Laid n (start_at image) (body_at image) (length pool)) where
  pub going_start : Going n image pool image pool 0 0 0
  going_start =
      record {
        down = omega arith;
        in-pool = omega arith;
        few = omega arith;
        sum = sym (below-zero (start_at image) (body_at image) n);
        count = sym (below-zero (start_at image) (moved_size n (start_at image) (body_at image)) n);
        table = table_start n image sized;
        bytes = pool-start n (start_at image) (body_at image) pool;
      }

  module _ (index : Index) (i : Chained n (start_at image) (body_at image) index) (new_image new_pool : List ℕ) (moved to p : ℕ) (r : Ahead)
      (g : Going n image pool new_image new_pool moved to p) (s : Seen index (length pool) p r) where
    pub going_none : Going n image pool new_image new_pool moved to r.end
    going_none =
        let b = none_ahead n (start_at image) (body_at image) index i (length pool) p r s in
        record {
          down = omega (arith, g.down, s.up);
          in-pool = s.in-pool;
          few = g.few;
          sum = g.sum ∙ sym (none-step n (start_at image) (body_at image) p r.end (body_at image) (λ t l. omega arith) s.up b);
          count =
              g.count ∙ sym (none-step n (start_at image) (body_at image) p r.end (moved_size n (start_at image) (body_at image))
              (λ t l. counts_less n (start_at image) (body_at image) t) s.up b);
          table = table_none n image sized p new_image g.table r.end s.up b;
          bytes = pool-none n (start_at image) (body_at image) pool p r.end to new_pool g.bytes s.up b;
        }

    module _ (q : ℕ) (some : r.next ≡ Some q) where
      b : StartsAt n (start_at image) (body_at image) r.end q
      b = body-ahead n (start_at image) (body_at image) index i (length pool) p r s q some

      pub going_within : Within new_image q
      going_within = within-sized new_image n q (table_sized n image sized p new_image g.table) b.low

      module _ (k : ℕ) (size : k ≡ body_at new_image q) where
        own : k ≡ body_at image q
        own = size ∙ table_size n image sized p new_image g.table q b.low

        pub going_room : r.end + k ≤ length new_pool
        going_room = omega (arith, own, laid.inside q b.low b.some, b.here, g.bytes.long)

        pub going_less : p < length pool → length pool - (r.end + k) < length pool - p
        going_less h = omega (arith, own, b.some, s.up)

        counted : (c : ℕ) → c ≡ if_so (not (eqb r.end to)) k → c ≡ moved_size n (start_at image) (body_at image) q
        unfolding moved_size packed_start
        counted c e =
            let f : to ≡ below n (start_at image) (body_at image) (start_at image q) =
            going_none.sum ∙ ap (λ (u : ℕ). below n (start_at image) (body_at image) u) (sym b.here) in
            e
            ∙ ap (λ (u : ℕ). if_so (not (eqb r.end to)) u) own
            ∙ ap (λ (u : ℕ). if_so (not (eqb u to)) (body_at image q)) (sym b.here)
            ∙ ap (λ (u : ℕ). if_so (not (eqb (start_at image q) u)) (body_at image q)) f

        pub going_body : (c : ℕ) → c ≡ if_so (not (eqb r.end to)) k → c ≤ k → (next_image next_pool : List ℕ)
            → next_image ≡ set_start new_image q to
            → next_pool ≡ move_down new_pool r.end to k → Going n image pool next_image next_pool (moved + c) (to + k) (r.end + k)
        going_body c e small next_image next_pool f h =
            rw (f, h, own) (record {
              down = omega (arith, going_none.down);
              in-pool = omega (arith, laid.inside q b.low b.some, b.here);
              few = omega (arith, g.few, own);
              sum =
                  omega (
                    arith,
                    going_none.sum,
                    body-step n (start_at image) (body_at image) (length pool) laid r.end q
                        (body_at image) (λ t l. omega arith) b,
                  );
              count =
                  omega (
                    arith,
                    going_none.count,
                    counted c e,
                    body-step n (start_at image) (body_at image) (length pool) laid r.end q
                        (moved_size n (start_at image) (body_at image)) (λ t l. counts_less n (start_at image) (body_at image) t) b,
                  );
              table =
                  table_body n image sized r.end new_image going_none.table (length pool) laid to q b going_none.sum;
              bytes =
                  pool-body n (start_at image) (body_at image) pool laid r.end to q b going_none.down
                  going_none.sum new_pool going_none.bytes;
            })

  module _ (new_image new_pool : List ℕ) (moved to p : ℕ) (g : Going n image pool new_image new_pool moved to p) (end : length pool ≤ p) where
    last : p ≡ length pool
    last = omega (arith, g.in-pool)

    pub going_count : moved ≡ moved_bytes n (start_at image) (body_at image)
    unfolding moved_bytes
    going_count =
        g.count
        ∙ ap (λ (u : ℕ). below n (start_at image) (moved_size n (start_at image) (body_at image)) u) last
        ∙ below_len n (start_at image) (body_at image) (length pool) laid (moved_size n (start_at image) (body_at image))
        (λ t l. counts_less n (start_at image) (body_at image) t)

    pub going_image : new_image ≡ packed_image n image
    going_image = table_end n image new_image (length pool) sized laid (rw last at g.table)

    pub going_pool : new_pool ≡ packed_pool n (start_at image) (body_at image) pool
    going_pool =
        pool-end n (start_at image) (body_at image) pool new_pool laid to
        (g.sum ∙ ap (λ (u : ℕ). below n (start_at image) (body_at image) u) last
        ∙ below_len n (start_at image) (body_at image) (length pool) laid (body_at image) (λ t l. omega arith))
        (rw last at g.bytes)

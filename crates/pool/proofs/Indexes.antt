-- The index: empty, and with one slot more, which is put first into the chain of its cell.
use mathlib.Core.Path.{◌≡◌, sym, ap, subst, ◌∙◌}
use mathlib.Core.Logic.{◌⊎◌, inl, inr, ⊎_elim}
use Prim.Native.Nat.{ℕ, suc, ◌+◌, ◌-◌, ◌/◌, ◌<◌, ◌≤◌}
use native.Mathlib.Nat.{not-suc-le-zero}
use native.Mathlib.Omega.{arith}
use lib.ListN.{length, get_or, replicate, length-set, length-replicate, get_or-replicate, get_or-eq_default}
use lib.Seq.{get_or-set_same, get_or-set_other}
use Rattle.laws.proofs.Says.{same_or, lt-or}
use Rattle.pool.specs.declared.index.Link.{Link}
use Rattle.pool.specs.declared.index.Index.{Index}
use Rattle.pool.specs.Index.{unlinked, first_in, next_of, place_of, On, here, there, Marked, leads, follows, Linked, Chained, linking}

pub zeros : (n i : ℕ) → get_or {A = ℕ} (replicate n 0) i 0 ≡ 0
zeros n i =
    ⊎_elim (λ h. get_or-replicate n i 0 0 h) (λ h. get_or-eq_default (replicate n 0) 0 (rw (length-replicate {A = ℕ} n 0) h)) (lt-or i n)

-- no slot has a link
none-linked : (s : ℕ) → get_or (replicate 1024 unlinked) s unlinked ≡ unlinked
none-linked s =
    ⊎_elim (λ h. get_or-replicate 1024 s unlinked unlinked h)
    (λ h. get_or-eq_default (replicate 1024 unlinked) unlinked {n = s} (rw (length-replicate {A = Link} 1024 unlinked) h)) (lt-or s 1024)

abbrev empty : Index
empty = record { firsts = replicate 1024 0; links = replicate 1024 unlinked }

pub chained_none : (a z : ℕ → ℕ) → Chained 0 a z empty
chained_none a z =
    record {
      long = length-replicate {A = ℕ} 1024 0;
      wide = length-replicate {A = Link} 1024 unlinked;
      low = λ s m. absurd (never s m);
      some = λ s m. absurd (never s m);
      fall = λ s l. omega (arith, ap (λ (k : Link). k.next) (none-linked s));
      place = λ s l x. absurd (not-suc-le-zero l);
      small = λ s l x. absurd (not-suc-le-zero l);
      has = λ s l x. absurd (not-suc-le-zero l);
    }
  where
    never : (s : ℕ) → Marked empty s → ⊥
    never s (leads c l e) = omega (arith, zeros 1024 c)
    never s (follows t l e) = omega (arith, ap (λ (k : Link). k.next) (none-linked t))

pub chained_end : (a z : ℕ → ℕ) (n s : ℕ) (index : Index) → Chained s a z index → s ≤ n → n ≤ s → Chained n a z index
chained_end a z n s index i h k = let e : s ≡ n = omega arith in rw e at i

pub chained-linked : (a z : ℕ → ℕ) (n : ℕ) (index : Index) → Chained n a z index → n ≤ 1023 → Linked index
chained-linked a z n index i h =
    record { few = λ c l. ⊎_elim (λ x. x) (λ x. absurd (many c l x)) (lt-or (get_or index.firsts c 0) 1024); fall = i.fall }
  where
    many : (c : ℕ) → c < 1024 → 1024 ≤ get_or index.firsts c 0 → ⊥
    many c l x =
        let e : get_or index.firsts c 0 ≡ suc (get_or index.firsts c 0 - 1) = omega arith in
        omega (arith, i.low (get_or index.firsts c 0 - 1) (leads c l e))

-- the index with slot s in it
module _ (index : Index) (s p : ℕ) (long : length index.firsts ≡ 1024) (wide : length index.links ≡ 1024) (slot : s < 1023) (low : p < 65536) where
  linking-first : first_in (linking index s p) p ≡ suc s
  unfolding linking
  linking-first = get_or-set_same index.firsts (p / 64) (s + 1) 0 (omega (arith, long)) ∙ plus
    where
      plus : s + 1 ≡ suc s
      plus = omega arith

  linking-cell : (c : ℕ) → (c ≡ p / 64 → ⊥) → get_or (linking index s p).firsts c 0 ≡ get_or index.firsts c 0
  unfolding linking
  linking-cell c d = get_or-set_other index.firsts (p / 64) c (s + 1) 0 d

  linking-own : get_or (linking index s p).links s unlinked ≡ record { place = p; next = first_in index p }
  unfolding linking
  linking-own = get_or-set_same index.links s (record { place = p; next = first_in index p }) unlinked (omega (arith, wide))

  linking-other : (t : ℕ) → (t ≡ s → ⊥) → get_or (linking index s p).links t unlinked ≡ get_or index.links t unlinked
  unfolding linking
  linking-other t d = get_or-set_other index.links s t (record { place = p; next = first_in index p }) unlinked d

  linking-next : next_of (linking index s p) s ≡ first_in index p
  linking-next = ap (λ (k : Link). k.next) linking-own

  linking-place : place_of (linking index s p) s ≡ p
  linking-place = ap (λ (k : Link). k.place) linking-own

  next-other : (t : ℕ) → (t ≡ s → ⊥) → next_of (linking index s p) t ≡ next_of index t
  next-other t d = ap (λ (k : Link). k.next) (linking-other t d)

  place-other : (t : ℕ) → (t ≡ s → ⊥) → place_of (linking index s p) t ≡ place_of index t
  place-other t d = ap (λ (k : Link). k.place) (linking-other t d)

  linking-long : length (linking index s p).firsts ≡ 1024
  unfolding linking
  linking-long = length-set index.firsts (p / 64) (s + 1) ∙ long

  linking-wide : length (linking index s p).links ≡ 1024
  unfolding linking
  linking-wide = length-set index.links s (record { place = p; next = first_in index p }) ∙ wide

  -- a chain of slots below s is as it was
  kept : (fall : (u : ℕ) → u < 1024 → next_of index u ≤ u) → (t x : ℕ) → On index t x → x ≤ s → On (linking index s p) t x
  kept fall t x (here e) l = here e
  kept fall t x (there u e o) l =
      there u e
      (subst (λ (y : ℕ). On (linking index s p) t y) (sym (next-other u (λ q. omega arith)))
      (kept fall t (next_of index u) o (omega (arith, fall u (omega arith)))))

module _ (a z : ℕ → ℕ) (s : ℕ) (index : Index) (i : Chained s a z index) (slot : s < 1023) where
  lower : z s ≡ 0 → (t : ℕ) → t < s + 1 → 0 < z t → t < s
  lower e t l x = ⊎_elim (λ y. y) (λ y. absurd (no (omega arith))) (lt-or t s)
    where
      no : t ≡ s → ⊥
      no q = omega (arith, ap z q)

  -- a slot with no body: r is the size that was read
  pub chained_skip : (r : ℕ) → r ≡ z s → r ≡ 0 → Chained (s + 1) a z index
  chained_skip r f e =
      let none : z s ≡ 0 = sym f ∙ e in
      record {
        long = i.long;
        wide = i.wide;
        low = λ t m. omega (arith, i.low t m);
        some = i.some;
        fall = i.fall;
        place = λ t l x. i.place t (lower none t l x) x;
        small = λ t l x. i.small t (lower none t l x) x;
        has = λ t l x. i.has t (lower none t l x) x;
      }

  -- a slot with a body: p is its start
  module _ (p r : ℕ) (small : p < 65536) (start : p ≡ a s) (size : r ≡ z s) (body : r ≡ 0 → ⊥) where
    some : 0 < z s
    some = ⊎_elim (λ x. x) (λ x. absurd (body (omega arith))) (lt-or 0 (z s))

    top : (c : ℕ) → c < 1024 → get_or index.firsts c 0 ≤ s
    top c l = ⊎_elim (λ x. omega arith) (λ x. over x) (lt-or (get_or index.firsts c 0) (s + 1))
      where
        over : s + 1 ≤ get_or index.firsts c 0 → get_or index.firsts c 0 ≤ s
        over x =
            let e : get_or index.firsts c 0 ≡ suc (get_or index.firsts c 0 - 1) = omega arith in
            omega (arith, i.low (get_or index.firsts c 0 - 1) (leads c l e))

    abbrev new : Index
    new = linking index s p

    -- who a mark is of
    from : (t : ℕ) → Marked new t → (t ≡ s) ⊎ ((t < s) × (0 < z t))
    from t m = go m
      where
        old : Marked index t → (t ≡ s) ⊎ ((t < s) × (0 < z t))
        old h = inr (i.low t h, i.some t h)

        cell : (c : ℕ) → c < 1024 → get_or new.firsts c 0 ≡ suc t → (c ≡ p / 64) ⊎ (c ≡ p / 64 → ⊥) → (t ≡ s) ⊎ ((t < s) × (0 < z t))
        cell c l e (inl q) = inl (omega (arith, e, ap (λ (u : ℕ). get_or new.firsts u 0) q, linking-first index s p i.long i.wide slot small))
        cell c l e (inr q) = old (leads c l (sym (linking-cell index s p i.long i.wide slot small c q) ∙ e))

        link : (u : ℕ) → u < 1024 → next_of new u ≡ suc t → (u ≡ s) ⊎ (u ≡ s → ⊥) → (t ≡ s) ⊎ ((t < s) × (0 < z t))
        link u l e (inl q) =
            old (leads (p / 64) (omega arith)
            (sym (linking-next index s p i.long i.wide slot small) ∙ ap (λ (v : ℕ). next_of new v) (sym q) ∙ e))
        link u l e (inr q) = old (follows u l (sym (next-other index s p i.long i.wide slot small u q) ∙ e))

        go : Marked new t → (t ≡ s) ⊎ ((t < s) × (0 < z t))
        go (leads c l e) = cell c l e (same_or c (p / 64))
        go (follows u l e) = link u l e (same_or u s)

    fall : (t : ℕ) → t < 1024 → (t ≡ s) ⊎ (t ≡ s → ⊥) → next_of new t ≤ t
    fall t l (inl q) =
        omega (arith, ap (λ (u : ℕ). next_of new u) q, linking-next index s p i.long i.wide slot small, top (p / 64) (omega arith))
    fall t l (inr q) = omega (arith, next-other index s p i.long i.wide slot small t q, i.fall t l)

    place : (t : ℕ) → t < s + 1 → 0 < z t → (t ≡ s) ⊎ (t ≡ s → ⊥) → place_of new t ≡ a t
    place t l x (inl q) = ap (λ (u : ℕ). place_of new u) q ∙ linking-place index s p i.long i.wide slot small ∙ start ∙ ap a (sym q)
    place t l x (inr q) =
        place-other index s p i.long i.wide slot small t q ∙ i.place t (⊎_elim (λ h. h) (λ h. absurd (q (omega arith))) (lt-or t s)) x

    small-too : (t : ℕ) → t < s + 1 → 0 < z t → (t ≡ s) ⊎ (t ≡ s → ⊥) → a t < 65536
    small-too t l x (inl q) = omega (arith, ap a q)
    small-too t l x (inr q) = i.small t (⊎_elim (λ h. h) (λ h. absurd (q (omega arith))) (lt-or t s)) x

    has : (t : ℕ) → t < s + 1 → 0 < z t → (t ≡ s) ⊎ (t ≡ s → ⊥) → (a t / 64 ≡ p / 64) ⊎ (a t / 64 ≡ p / 64 → ⊥)
        → On new t (first_in new (a t))
    has t l x (inl q) c =
        let e : a t / 64 ≡ p / 64 = omega (arith, ap a q) in
        here (ap (λ (u : ℕ). get_or new.firsts u 0) e ∙ linking-first index s p i.long i.wide slot small ∙ ap suc (sym q))
    has t l x (inr q) c = go (⊎_elim (λ h. h) (λ h. absurd (q (omega arith))) (lt-or t s)) c
      where
        go : t < s → (a t / 64 ≡ p / 64) ⊎ (a t / 64 ≡ p / 64 → ⊥) → On new t (first_in new (a t))
        go m (inl e) =
            let o : On index t (first_in index p) = subst (λ (u : ℕ). On index t (get_or index.firsts u 0)) e (i.has t m x) in
            there s (ap (λ (u : ℕ). get_or new.firsts u 0) e ∙ linking-first index s p i.long i.wide slot small)
            (subst (λ (y : ℕ). On new t y) (sym (linking-next index s p i.long i.wide slot small))
            (kept index s p i.long i.wide slot small i.fall t (first_in index p) o (top (p / 64) (omega arith))))
        go m (inr e) =
            let h : a t / 64 < 1024 = omega (arith, i.small t m x) in
            subst (λ (y : ℕ). On new t y) (sym (linking-cell index s p i.long i.wide slot small (a t / 64) e))
            (kept index s p i.long i.wide slot small i.fall t (first_in index (a t)) (i.has t m x) (top (a t / 64) h))

    pub chained_put : (x : Index) → x ≡ linking index s p → Chained (s + 1) a z x
    chained_put x e =
        rw e (record {
          long = linking-long index s p i.long i.wide slot small;
          wide = linking-wide index s p i.long i.wide slot small;
          low = λ t m. ⊎_elim (λ q. omega arith) (λ q. omega (arith, q.0)) (from t m);
          some = λ t m. ⊎_elim (λ q. omega (arith, ap z q, some)) (λ q. q.1) (from t m);
          fall = λ t l. fall t l (same_or t s);
          place = λ t l h. place t l h (same_or t s);
          small = λ t l h. small-too t l h (same_or t s);
          has = λ t l h. has t l h (same_or t s) (same_or (a t / 64) (p / 64));
        })

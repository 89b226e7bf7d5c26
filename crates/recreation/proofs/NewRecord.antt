-- The record that CREATE makes on the other card: what stands in the new slot, and that it is the old record again, but for parent, level
-- and the start of its body.
use mathlib.Core.Path.{◌≡◌, refl, sym, ap, ◌∙◌}
use mathlib.Core.Bool.{Bool, true, false, cond, ◌&&◌}
use mathlib.Core.List.{List, ◌++◌}
use mathlib.Core.Logic.{◌⊎◌, inl, inr}
use Prim.Native.Nat.{ℕ, ◌+◌, ◌-◌, ◌<◌, ◌≤◌}
use native.Mathlib.Omega.{arith}
use lib.Dec.{eqb}
use lib.ListN.{length, get_or}
use lib.Seq.{ext_get_or}
use borrow.Author.Tests.{ne_eqb}
use Rattle.laws.specs.Lists.{Bytes, splice}
use Rattle.laws.proofs.Says.{lt-or}
use Rattle.laws.proofs.Splices.{length-splice, get_or-splice_in, get_or-splice_below, get_or-splice_above}
use Rattle.numbers.specs.Numbers.{be16}
use Rattle.rules.specs.Descriptor.{df, ef}
use Rattle.image.specs.declared.Head.{Head}
use Rattle.image.specs.Layout.{Within, has_bodies, longest_rule, version_of, kind_of, none, put_record, with_start, set_start}
use Rattle.image.specs.Layout.{count_of, current_df_of, rec_at, size_of, name_of, rule_of, record_bytes}
use Rattle.image.proofs.Made.{length-made}
use Rattle.image.proofs.Records.{record_same}
use Rattle.image.proofs.Headers.{header_put, front_current, record_current, same_front, same_version, same_count}
use Rattle.image.proofs.Starts.{length-with, byte_kept, start-same}
use Rattle.pool.specs.Places.{gap_for, place_at, place_image}
use Rattle.sound.specs.Own.{Used, has_start}
use Rattle.sound.specs.Sound.{Sound, pool_length}
use Rattle.sound.specs.Effects.{created, new_body, new_gap, made, new_bytes}
use Rattle.sound.proofs.Front.{sound-within}
use Rattle.sound.proofs.MovedDown.{Cleared, cleared}
use Rattle.fcp.specs.Again.{head_again, started_at}
use Rattle.fcp.proofs.RecordAgain.{record_again}
use Rattle.recreation.specs.Recreation.{new_start}

module _ (other : List ℕ) (sound : Sound other) where
  new-record : (t : ℕ) (h : Head) (name rule : List ℕ) → t < count_of other → length name ≤ 16 → length rule ≤ longest_rule (version_of other)
      → (rec_at (created other t h name rule) t ≡ record_bytes (version_of other) h name rule) × Within (created other t h name rule) t
  unfolding created
  new-record t h name rule low short small =
      let whole = length-made (version_of other) h name rule short small in
      let with = put_record other t (record_bytes (version_of other) h name rule) in
      let put = header_put other t (record_bytes (version_of other) h name rule) (sound-within other sound t low) whole in
      let header : 16 ≤ length with = omega (arith, put.long, sound.header.long) in
      let end = front_current with (cond (eqb h.kind df) t (current_df_of other)) (cond (eqb h.kind df) none t) header in (
        record_current _ _ _ header t (omega (arith, put.long, (sound-within other sound t low).0))
            ∙ record_same other t _ (sound-within other sound t low) whole,
        (omega (arith, put.long, end.long, (sound-within other sound t low).0), (sound-within other sound t low).1),
      )

-- the new slot holds what was made, with the start of its body
pub made_record : (other : List ℕ) → Sound other → (t : ℕ) (h : Head) (name rule : List ℕ) → t < count_of other → length name ≤ 16
    → length rule ≤ longest_rule (version_of other) → rec_at (made other t h name rule) t ≡ new_bytes other h name rule
unfolding made new_bytes
made_record other sound t h name rule low short small = go (eqb (new_body (version_of other) h) 0)
  where
    at : ℕ
    at = place_at (new_gap other h) (count_of other) other

    ready : List ℕ
    ready = place_image (new_gap other h) (count_of other) other

    k : Cleared other ready
    k = cleared other sound (new_gap other h)

    version : version_of ready ≡ version_of other
    version = same_version other ready (same_front other ready k.header)

    count : count_of ready ≡ count_of other
    count = same_count other ready (same_front other ready k.header)

    go : (b : Bool) → rec_at (cond b (created other t h name rule) (set_start (created ready t h name rule) t at)) t
        ≡ cond b (record_bytes (version_of other) h name rule) (with_start (record_bytes (version_of other) h name rule) at)
    go true = (new-record other sound t h name rule low short small).0
    go false =
        let p = new-record ready k.sound t h name rule (rw count low) short (rw version small) in
        start-same (created ready t h name rule) t at p.1
        ∙ ap (λ (r : List ℕ). with_start r at) (p.0 ∙ ap (λ (v : ℕ). record_bytes v h name rule) version)

-- the two bytes of a start
start_byte : (r : List ℕ) (x k : ℕ) → length r ≡ 64 → 62 ≤ k → k < 64 → get_or (with_start r x) k 0 ≡ get_or (be16 x) (k - 62) 0
unfolding with_start
start_byte r x k whole h l =
    let e : 62 + (k - 62) ≡ k = omega arith in
    ap (λ (j : ℕ). get_or (with_start r x) j 0) (sym e) ∙ get_or-splice_in r 62 (be16 x) (omega arith) (k - 62) (omega arith)

-- a start set before and after a write below it, or once before
start-last : (r w : List ℕ) (x y i : ℕ) → length r ≡ 64 → i + length w ≤ 62
    → with_start (splice (with_start r x) i w) y ≡ splice (with_start r y) i w
start-last r w x y i whole low =
    ext_get_or 0 (with_start (splice (with_start r x) i w) y) (splice (with_start r y) i w)
    (after ∙ sym (long y)) (λ k l. byte k (omega (arith, after)) (lt-or k 62))
  where
    long : (z : ℕ) → length (splice (with_start r z) i w) ≡ 64
    long z = length-splice (with_start r z) i w (omega (arith, length-with r z whole)) ∙ length-with r z whole

    after : length (with_start (splice (with_start r x) i w) y) ≡ 64
    after = length-with (splice (with_start r x) i w) y (long x)

    inner : (k : ℕ) → k < 62 → (z : ℕ) → (k < i) ⊎ (i ≤ k) → (k < i + length w) ⊎ (i + length w ≤ k)
        → get_or (splice (with_start r z) i w) k 0 ≡ get_or (splice r i w) k 0
    inner k l z (inl a) b =
        get_or-splice_below (with_start r z) i w (omega (arith, length-with r z whole)) k a ∙ byte_kept r z whole k l
        ∙ sym (get_or-splice_below r i w (omega arith) k a)
    inner k l z (inr a) (inl b) =
        let e : i + (k - i) ≡ k = omega arith in
        ap (λ (j : ℕ). get_or (splice (with_start r z) i w) j 0) (sym e)
        ∙ get_or-splice_in (with_start r z) i w (omega (arith, length-with r z whole)) (k - i) (omega arith)
        ∙ sym (get_or-splice_in r i w (omega arith) (k - i) (omega arith)) ∙ ap (λ (j : ℕ). get_or (splice r i w) j 0) e
    inner k l z (inr a) (inr b) =
        get_or-splice_above (with_start r z) i w (omega (arith, length-with r z whole)) k b ∙ byte_kept r z whole k l
        ∙ sym (get_or-splice_above r i w (omega arith) k b)

    byte : (k : ℕ) → k < 64 → (k < 62) ⊎ (62 ≤ k)
        → get_or (with_start (splice (with_start r x) i w) y) k 0 ≡ get_or (splice (with_start r y) i w) k 0
    byte k l (inl h) =
        byte_kept (splice (with_start r x) i w) y (long x) k h ∙ inner k h x (lt-or k i) (lt-or k (i + length w))
        ∙ sym (inner k h y (lt-or k i) (lt-or k (i + length w)))
    byte k l (inr h) =
        start_byte (splice (with_start r x) i w) y k (long x) h l ∙ sym (start_byte r y k whole h l)
        ∙ sym (get_or-splice_above (with_start r y) i w (omega (arith, length-with r y whole)) k (omega arith))

-- what is made of the fields of a record: the record again, but for parent, level and start
pub bytes-again : (other r : List ℕ) (parent level : ℕ) → length r ≡ 64 → Bytes r → Used (version_of other) r
    → new_bytes other (head_again r parent level) (name_of r) (rule_of r)
    ≡ splice (started_at (version_of other) r (new_start other r)) 6 (be16 parent ++ be16 level)
unfolding new_bytes new_body new_gap started_at has_start
bytes-again other r parent level whole bytes u = go (has_bodies (version_of other) && eqb (kind_of r) ef) refl
  where
    v : ℕ
    v = version_of other

    written : List ℕ
    written = record_bytes v (head_again r parent level) (name_of r) (rule_of r)

    at : ℕ → ℕ
    at m = place_at (gap_for (count_of other) other (pool_length other) m) (count_of other) other

    again : (b : Bool) → (has_bodies v && eqb (kind_of r) ef) ≡ b → written ≡ splice (cond b (with_start r 0) r) 6 (be16 parent ++ be16 level)
    again b e = rw e at (record_again v r parent level whole bytes u)

    go : (b : Bool) → (has_bodies v && eqb (kind_of r) ef) ≡ b
        → cond (eqb (cond b (size_of r) 0) 0) written (with_start written (at (cond b (size_of r) 0)))
        ≡ splice (cond b (with_start r (at (size_of r))) r) 6 (be16 parent ++ be16 level)
    go true e =
        rw (ne_eqb (size_of r) 0 (λ z. omega (arith, u.size)))
        (ap (λ (x : List ℕ). with_start x (at (size_of r))) (again true e)
        ∙ start-last r (be16 parent ++ be16 level) 0 (at (size_of r)) 6 whole (omega arith))
    go false e = again false e

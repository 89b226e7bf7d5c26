-- The pool after a call: how long it is, and the bytes that are in no body (specs/Demands, specs/Bodies).
use mathlib.Core.Path.{◌≡◌, refl, sym, ap, ◌∙◌}
use mathlib.Core.Bool.{Bool, true, false}
use mathlib.Core.List.{List}
use mathlib.Core.Logic.{◌⊎◌, inl, inr, ⊎_elim}
use Prim.Native.Nat.{ℕ, ◌<◌}
use native.Mathlib.Omega.{arith}
use lib.Dec.{eqb}
use lib.ListN.{length, get_or, length-replicate}
use borrow.Author.Tests.{eq-eqb, ne_eqb}
use Rattle.std.specs.Prelude.{Ok, Err}
use Rattle.laws.proofs.Says.{same_or, lt-or, untrue}
use Rattle.numbers.specs.Numbers.{u16_at, u32_at}
use Rattle.laws.proofs.Splices.{length-splice}
use Rattle.image.specs.declared.Head.{Head}
use Rattle.image.specs.Layout.{version_of, count_of, rec_at, kind_of, size_of, start_of}
use Rattle.image.proofs.Lives.{size-kept}
use Rattle.image.proofs.Places.{length_record}
use Rattle.image.proofs.Headers.{same_version, same_count}
use Rattle.pool.specs.Bodies.{body_of, start_at, body_at}
use Rattle.pool.specs.Packed.{holds}
use Rattle.pool.proofs.Wiping.{length-wiped}
use Rattle.sound.specs.Table.{view_at}
use Rattle.sound.specs.Kinship.{at_or_beneath}
use Rattle.sound.specs.Sound.{Sound, soundb, pool_length}
use Rattle.sound.specs.Effects.{Creates, Deletes, new_body, new_gap, filled, other_record, wiped}
use Rattle.sound.proofs.Says.{sound-says, beneath-says}
use Rattle.sound.proofs.Front.{sound-within}
use Rattle.sound.proofs.Created.{slot-free}
use Rattle.verdict.specs.declared.Effect.TheVariants.{Select, Create, Delete, SetLife, Read, Update}
use Rattle.verdict.specs.Applied.{Verdict, sent_data, applied_of, pooled_of}
use Rattle.card.specs.Command.{pool_fits, PoolFits, due_of, image_of, pool_of}
use Rattle.card.specs.Bodies.{OtherBytes}
use Rattle.card.specs.After.{record_after}
use Rattle.card.specs.Demands.{SameButStart, PoolLengthStays, PoolStaysFit}
use Rattle.card.proofs.Steps.{cond_by}
use Rattle.card.proofs.Demands.{other-start}
use Rattle.card.proofs.Tells.{Tells, lies, touched}
use Rattle.card.proofs.Due.{pool-says, due_tells, due_wrong}
use Rattle.card.proofs.Answered.{image_is, pool_is, damaged-left, damaged-kept}
use Rattle.card.proofs.After.{records-after, front_after}
use Rattle.card.proofs.Bodies.{by_record, lived, pool_new, room, ready_long}
use Rattle.card.proofs.Owners.{none_of}
use Rattle.card.proofs.OtherBytes.{Left, Free, same_left, updated_left, deleted-left, bodiless_left, bodied_left}

positive : (n : ℕ) → (n ≡ 0 → ⊥) → 0 < n
positive n z = ⊎_elim (λ x. x) (λ x. absurd (z (omega arith))) (lt-or 0 n)

module _ (img pool c : List ℕ) (sound : Sound img) (fit : PoolFits img pool) where
  filled-long : (s : ℕ) (h : Head) (name rule : List ℕ) → Creates img s h name rule → length (filled img pool h) ≡ length pool
  filled-long s h name rule k = go (same_or (new_body (version_of img) h) 0)
    where
      none : new_body (version_of img) h ≡ 0 → filled img pool h ≡ pool
      none e = unfold filled in rw (eq-eqb (new_body (version_of img) h) 0 e)

      go : (new_body (version_of img) h ≡ 0) ⊎ (new_body (version_of img) h ≡ 0 → ⊥) → length (filled img pool h) ≡ length pool
      go (inl e) = ap length (none e)
      go (inr z) =
          let some = positive (new_body (version_of img) h) z in
          let long = length-replicate {A = ℕ} (new_body (version_of img) h) 0xFF in
          ap length (pool_new img pool c sound fit s h name rule k some)
          ∙ length-splice _ _ _ (omega (arith, long, room img pool c sound fit s h name rule k some)) ∙ ready_long img pool c sound fit (new_gap img h)

  verdict_long : (v : Verdict) → Tells img c v → length (pooled_of img pool c v) ≡ length pool
  unfolding wiped
  verdict_long (Err w) t = refl
  verdict_long (Ok (Select d e w)) t = refl
  verdict_long (Ok (Create x)) t = filled-long x.slot x.head _ _ t.1
  verdict_long (Ok (Delete s)) t =
      length-wiped (count_of img) (start_at img) (body_at img) pool (lies img pool sound fit) (at_or_beneath (view_at img) s) (count_of img) (omega arith)
  verdict_long (Ok (SetLife s life)) t = refl
  verdict_long (Ok (Read at n)) t = refl
  verdict_long (Ok (Update at)) t = length-splice pool at (sent_data c) (touched img pool sound fit c at (length (sent_data c)) t.1)

  -- a byte that is in no body afterwards
  module _ (q : ℕ) (low : q < length pool) where
    verdict_left : (v : Verdict) → Tells img c v → Free img pool c sound fit q low (applied_of img c v)
        → Left img pool c sound fit q low (get_or (pooled_of img pool c v) q 0)
    verdict_left (Err w) t free = same_left img pool c sound fit q low img pool free (λ s l h. (refl, refl)) (λ none. refl)
    verdict_left (Ok (Read at n)) t free = same_left img pool c sound fit q low img pool free (λ s l h. (refl, refl)) (λ none. refl)
    verdict_left (Ok (Select d e w)) t free =
        same_left img pool c sound fit q low (applied_of img c (Ok (Select d e w))) pool free (λ s l h.
        let r = records-after img c sound (Ok (Select d e w)) t s l in
        by_record img pool c sound fit (applied_of img c (Ok (Select d e w))) s (same_version img _ (front_after img c sound (Ok (Select d e w)) t))
        (record { start = ap start_of r; body = ap (body_of (version_of img)) r })) (λ none. refl)
    verdict_left (Ok (SetLife x life)) t free =
        same_left img pool c sound fit q low (applied_of img c (Ok (SetLife x life))) pool free (λ s l h.
        by_record img pool c sound fit (applied_of img c (Ok (SetLife x life))) s (same_version img _ (front_after img c sound (Ok (SetLife x life)) t))
        (rw (records-after img c sound (Ok (SetLife x life)) t s l) (lived img pool c sound fit s life x l))) (λ none. refl)
    verdict_left (Ok (Delete x)) t free = deleted-left img pool c sound fit q low x t free
    verdict_left (Ok (Update at)) t free = updated_left img pool c sound fit q low at t free
    verdict_left (Ok (Create x)) t free = go (same_or (new_body (version_of img) x.head) 0)
      where
        go : (new_body (version_of img) x.head ≡ 0) ⊎ (new_body (version_of img) x.head ≡ 0 → ⊥)
            → Left img pool c sound fit q low (get_or (filled img pool x.head) q 0)
        go (inl e) = bodiless_left img pool c sound fit q low x.slot x.head _ _ t.1 free e
        go (inr z) = bodied_left img pool c sound fit q low x.slot x.head _ _ t.1 free (positive (new_body (version_of img) x.head) z)

pub other-bytes : OtherBytes
other-bytes img pool c st lent q sound fit has low free =
    let v = due_of img pool c st lent in
    let t = due_tells img pool c st lent sound in
    let count : count_of (applied_of img c v) ≡ count_of img = same_count img _ (front_after img c sound v t) in
    ap (λ (p : List ℕ). get_or p q 0) (pool_is img pool c st lent sound)
    ∙ verdict_left img pool c sound fit q low v t
    (λ s l. none_of (count_of (applied_of img c v)) (holds (start_at (applied_of img c v)) (body_at (applied_of img c v)) q)
    (rw (image_is img pool c st lent sound) at free) s (rw count l))

pub pool-length_stays : PoolLengthStays
pool-length_stays img pool c st lent = go (soundb img) (pool_fits img pool) refl refl
  where
    go : (a b : Bool) → soundb img ≡ a → pool_fits img pool ≡ b → length (pool_of img pool c st lent) ≡ length pool
    go false b q p = ap length (damaged-kept img pool c st lent q)
    go true false q p =
        ap length (pool_is img pool c st lent ((sound-says img).0 q) ∙ ap (pooled_of img pool c) (due_wrong img pool c st lent p))
    go true true q p =
        let sound = (sound-says img).0 q in
        ap length (pool_is img pool c st lent sound)
        ∙ verdict_long img pool c sound ((pool-says img pool).0 p) (due_of img pool c st lent) (due_tells img pool c st lent sound)

-- the root keeps its total
module _ (img c : List ℕ) (sound : Sound img) where
  first : 0 < count_of img
  first = omega (arith, sound.header.least)

  root-apart : (x : ℕ) → Deletes img x → at_or_beneath (view_at img) x 0 ≡ false
  root-apart x d = untrue _ (λ e.
      let b = (beneath-says (view_at img) x 0).0 e in
      omega (arith, b.deep, sound.kin.root-level, (sound.kin.placed x d.low d.file).up))

  size_same : (new : List ℕ) → SameButStart (version_of img) (rec_at img 0) new → size_of new ≡ size_of (rec_at img 0)
  unfolding size_of u32_at u16_at
  size_same new k =
      rw (k.bytes 12 (omega arith), k.bytes 13 (omega arith), k.bytes 14 (omega arith), k.bytes 15 (omega arith))

  root-size : (v : Verdict) → Tells img c v → size_of (record_after img c v 0) ≡ size_of (rec_at img 0)
  root-size (Err w) t = refl
  root-size (Ok (Select d e w)) t = refl
  root-size (Ok (Read at n)) t = refl
  root-size (Ok (Update at)) t = refl
  root-size (Ok (SetLife s life)) t =
      cond_by (λ (r : List ℕ). size_of r ≡ size_of (rec_at img 0)) (eqb 0 s) _ _
      (λ q. size-kept (rec_at img 0) life (length_record img 0 (sound-within img sound 0 first).0)) (λ q. refl)
  root-size (Ok (Delete x)) t = ap size_of (kept (root-apart x t))
    where
      kept : at_or_beneath (view_at img) x 0 ≡ false → record_after img c (Ok (Delete x)) 0 ≡ rec_at img 0
      kept e = rw e
  root-size (Ok (Create x)) t =
      ap size_of (kept (ne_eqb 0 x.slot (λ e. omega (
        arith,
        sound.kin.root-kind,
        slot-free img x.slot x.head _ _ sound t.1,
        ap (λ (i : ℕ). kind_of (rec_at img i)) e,
      ))))
      ∙ size_same (other_record img x.head 0) (other-start img x.head 0 (length_record img 0 (sound-within img sound 0 first).0))
    where
      kept : eqb 0 x.slot ≡ false → record_after img c (Ok (Create x)) 0 ≡ other_record img x.head 0
      kept e = rw e

pub pool_stays_fit : PoolStaysFit
pool_stays_fit img pool c st lent fit = go (soundb img) refl
  where
    go : (a : Bool) → soundb img ≡ a → PoolFits (image_of img pool c st lent) (pool_of img pool c st lent)
    go false q has = rw (damaged-left img pool c st lent q, damaged-kept img pool c st lent q)
        (fit (rw (damaged-left img pool c st lent q) at has))
    go true q has =
        let sound = (sound-says img).0 q in
        let v = due_of img pool c st lent in
        let t = due_tells img pool c st lent sound in
        let is = image_is img pool c st lent sound in
        let version : version_of (image_of img pool c st lent) ≡ version_of img = ap version_of is ∙ same_version img _ (front_after img c sound v t) in
        let root : pool_length (image_of img pool c st lent) ≡ pool_length img =
        ap (λ (x : List ℕ). size_of (rec_at x 0)) is
        ∙ ap size_of (records-after img c sound v t 0 (omega (arith, sound.header.least))) ∙ root-size img c sound v t in
        pool-length_stays img pool c st lent ∙ fit (rw version at has) ∙ sym root

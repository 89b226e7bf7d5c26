-- The verdict that stands (specs/Command, `due_of`): the judged one where the pool is the card's and what is told fits the response, else a
-- refusal without a word.
use mathlib.Core.Path.{◌≡◌, refl}
use mathlib.Core.Bool.{Bool, true, false, cond}
use mathlib.Core.List.{List, []}
use mathlib.Core.Logic.{◌↔◌, ⊎_elim}
use Prim.Native.Nat.{ℕ, ◌+◌, ◌<◌, ◌≤◌}
use native.Mathlib.Omega.{arith}
use lib.Dec.{eqb}
use lib.ListN.{length, get_or}
use borrow.Author.Tests.{le-leb, lt-leb, eqb-true, eq-eqb}
use Rattle.std.specs.Prelude.{Ok, Err}
use Rattle.laws.specs.Lists.{part}
use Rattle.laws.proofs.Splices.{length_part}
use Rattle.laws.proofs.Says.{implies-says}
use Rattle.image.specs.Layout.{has_bodies, longest_rule, version_of, count_of, current_ef_of, rec_at, kind_of, size_of, none}
use Rattle.pool.specs.Bodies.{body_at}
use Rattle.image.proofs.Versions.{longest_within}
use Rattle.sound.specs.Own.{Used}
use Rattle.sound.specs.Table.{view_at}
use Rattle.sound.specs.Sound.{Sound, Current}
use Rattle.sound.proofs.Front.{sound-within}
use Rattle.sound.proofs.Bodied.{body-size}
use Rattle.fcp.specs.Template.{template_of}
use Rattle.fcp.specs.Writing.{Tellable}
use Rattle.fcp.proofs.Sizes.{sizes_fit, longest}
use Rattle.verdict.specs.declared.State.{State}
use Rattle.verdict.specs.Applied.{Verdict}
use Rattle.verdict.specs.declared.Effect.TheVariants.{Select, Create, Delete, SetLife, Read, Update}
use Rattle.apdu.specs.Apdu.{instruction, lc, wants_template, is_read, asked}
use Rattle.judge.specs.Judge.{judge_of}
use Rattle.effect.specs.Told.{chosen, told, CanTell}
use Rattle.card.specs.Command.{pool_fits, PoolFits, fits, due_of, longest_answer}
use Rattle.card.proofs.Steps.{cond_by, chosen_by}
use Rattle.card.proofs.Tells.{Touches, Tells, some-bodies, touched}
use Rattle.card.proofs.Telling.{judge_tells}
use Rattle.card.proofs.Speaks.{Spoken, judge_speaks}
use Rattle.card.proofs.Ordered.{Ordered, judge_ordered}

-- the check of the pool's length says what it is for
pub pool-says : (img pool : List ℕ) → (pool_fits img pool ≡ true) ↔ PoolFits img pool
unfolding pool_fits
pool-says img pool = (
  (λ h e. eqb-true _ _ ((implies-says _ _).0 h e)),
  (λ k. (implies-says _ _).1 (λ e. eq-eqb _ _ (k e))),
)

module _ (img pool c : List ℕ) (st : State) (lent : ℕ) where
  -- what holds of the judged verdict, and of a refusal, holds of it
  pub due_by : (P : Verdict → Type 0) → P (judge_of img pool c st) → P (Err 0x0000) → P (due_of img pool c st lent)
  unfolding due_of
  due_by P judged refused =
      cond_by P (pool_fits img pool) _ _ (λ p. cond_by P (fits img pool c st lent) _ _ (λ q. judged) (λ q. refused)) (λ p. refused)

  pub due_tells : Sound img → Tells img c (due_of img pool c st lent)
  due_tells sound = due_by (Tells img c) (judge_tells img pool c sound st) tt

  pub due_speaks : Spoken (due_of img pool c st lent)
  due_speaks = due_by Spoken (judge_speaks img pool c st) (⊎_elim (λ e. omega arith) (λ f. ⊎_elim (λ e. omega arith) (λ e. omega arith) f))

  pub due_ordered : Ordered img c (due_of img pool c st lent)
  due_ordered = due_by (Ordered img c) (judge_ordered img pool c st) tt

  -- by the two checks
  pub due_fit : PoolFits img pool → fits img pool c st lent ≡ true → due_of img pool c st lent ≡ judge_of img pool c st
  unfolding due_of
  due_fit k q = rw ((pool-says img pool).1 k, q)

  pub due_unfit : fits img pool c st lent ≡ false → due_of img pool c st lent ≡ Err 0x0000
  unfolding due_of
  due_unfit q = rw q (either_way (pool_fits img pool))
    where
      either_way : (b : Bool) → cond {A = Verdict} b (Err 0x0000) (Err 0x0000) ≡ Err 0x0000
      either_way true = refl
      either_way false = refl

  pub due_wrong : pool_fits img pool ≡ false → due_of img pool c st lent ≡ Err 0x0000
  unfolding due_of
  due_wrong q = rw q

  -- by what is told
  pub due_fits : PoolFits img pool → length (told img pool c (judge_of img pool c st)) ≤ lent
      → (fits img pool c st lent ≡ true) × (due_of img pool c st lent ≡ judge_of img pool c st)
  unfolding fits
  due_fits k h = let q = le-leb _ _ h in (q, due_fit k q)

  pub due_short : lent < length (told img pool c (judge_of img pool c st)) → (fits img pool c st lent ≡ false) × (due_of img pool c st lent ≡ Err 0x0000)
  unfolding fits
  due_short h = let q = lt-leb _ _ h in (q, due_unfit q)

-- a file in slot s, which can be told of
pub record Chosen (img : List ℕ) (s : ℕ) : Type 0 where
  pub low : s < count_of img
  pub used : kind_of (rec_at img s) ≡ 0 → ⊥

-- how much a READ asks for at most, by one byte
asked-most : (c : List ℕ) → get_or c 4 0 < 256 → asked c ≤ 256
unfolding asked
asked-most c h = go (is_read (instruction c)) (eqb (lc c) 0)
  where
    go : (a b : Bool) → cond a (cond b 256 (lc c)) (lc c) ≤ 256
    go true true = omega arith
    go true false = omega arith
    go false b = omega arith

bodies-most : (v : ℕ) → has_bodies v ≡ true → longest_answer v ≡ 256
unfolding longest_answer
bodies-most v h = rw h

template-most : (v : ℕ) → 37 + longest_rule v ≤ longest_answer v
unfolding longest_answer
template-most v = go (has_bodies v)
  where
    go : (b : Bool) → 37 + longest_rule v ≤ cond b 256 (37 + longest_rule v)
    go true = omega (arith, longest_within v)
    go false = omega arith

-- so is the one that is made current
is_chosen : (img : List ℕ) (d e : ℕ) → Current (count_of img) (view_at img) d e → Chosen img (chosen d e)
unfolding chosen
is_chosen img d e t =
    chosen_by (Chosen img) e none d e
    (λ q. record { low = t.df-low; used = λ z. omega (arith, z, t.df-dir) })
    (λ z. record { low = t.ef-low z; used = λ q. omega (arith, q, t.ef-file z) })

module _ (img pool c : List ℕ) (sound : Sound img) (k : PoolFits img pool) where
  own : (s : ℕ) → Chosen img s → Used (version_of img) (rec_at img s)
  own s k = (sound.records s k.low).used k.used

  tellable : (s : ℕ) → Chosen img s → Tellable img s
  tellable s k = record {
    within = sound-within img sound s k.low;
    name = (own s k).name.short;
    rule = omega (arith, (own s k).rule.short, longest_within (version_of img));
    size = omega (arith, sizes_fit img sound s k.low k.used);
  }

  pub can_tell : (v : Verdict) → Tells img c v → CanTell img pool v
  can_tell (Err w) t = tt
  can_tell (Ok (Select d e w)) t = tellable (chosen d e) (is_chosen img d e t)
  can_tell (Ok (Create x)) t = tt
  can_tell (Ok (Delete s)) t = tt
  can_tell (Ok (SetLife s life)) t = tt
  can_tell (Ok (Read at n)) t = touched img pool sound k c at n t.0
  can_tell (Ok (Update at)) t = tt

  -- a template is short, and what a READ tells is as long as it asks
  template-few : (d e : ℕ) → Current (count_of img) (view_at img) d e
      → length (cond (wants_template c) (template_of (rec_at img (chosen d e))) []) ≤ 37 + longest_rule (version_of img)
  template-few d e t =
      let h = is_chosen img d e t in
      cond_by (λ (l : List ℕ). length l ≤ 37 + longest_rule (version_of img)) (wants_template c) _ _
      (λ q. longest (version_of img) (rec_at img (chosen d e)) (own (chosen d e) h) h.used) (λ q. omega arith)

  read_long : (at n : ℕ) → Touches img c at n → length (part pool at n) ≡ n
  read_long at n t = length_part pool at n (touched img pool sound k c at n t)

  body-low : (s : ℕ) → body_at img s ≤ size_of (rec_at img s)
  unfolding body_at
  body-low s = body-size (version_of img) (rec_at img s)

  -- so a number of 16 bits holds how much it is
  pub told-few : (v : Verdict) → Tells img c v → length (told img pool c v) < 65536
  told-few (Err w) t = omega arith
  told-few (Ok (Select d e w)) t = omega (arith, template-few d e t, longest_within (version_of img))
  told-few (Ok (Create x)) t = omega arith
  told-few (Ok (Delete s)) t = omega arith
  told-few (Ok (SetLife s life)) t = omega arith
  told-few (Ok (Read at n)) t =
      omega (
        arith,
        read_long at n t.0,
        body-low (current_ef_of img),
        t.0.within,
        sizes_fit img sound (current_ef_of img) (sound.current.ef-low t.0.some) (λ e. omega (arith, sound.current.ef-file t.0.some)),
      )
  told-few (Ok (Update at)) t = omega arith

  -- .. and no more than the longest answer of the version
  pub told-most : (has_bodies (version_of img) ≡ true → get_or c 4 0 < 256) → (v : Verdict) → Tells img c v
      → length (told img pool c v) ≤ longest_answer (version_of img)
  told-most byte (Err w) t = omega arith
  told-most byte (Ok (Select d e w)) t = omega (arith, template-few d e t, template-most (version_of img))
  told-most byte (Ok (Create x)) t = omega arith
  told-most byte (Ok (Delete s)) t = omega arith
  told-most byte (Ok (SetLife s life)) t = omega arith
  told-most byte (Ok (Read at n)) t =
      let has = some-bodies img pool sound k (current_ef_of img) t.0.body in
      omega (arith, read_long at n t.0, t.1, asked-most c (byte has), bodies-most (version_of img) has)
  told-most byte (Ok (Update at)) t = omega arith

-- A call of `command`, way out by way out: r is what the soundness test answered, o the response before and y after.
use mathlib.Core.Path.{◌≡◌, sym, ap, ◌∙◌}
use mathlib.Core.Bool.{Bool, true, false, not}
use mathlib.Core.List.{List}
use Prim.Native.Nat.{ℕ, ◌≤◌}
use native.Mathlib.Omega.{arith}
use lib.Dec.{eqb}
use lib.ListN.{length}
use Rattle.std.specs.Prelude.{Result, Ok, Err}
use Rattle.laws.specs.Tests.{implies}
use borrow.Author.Tests.{not-true, not-false}
use Rattle.laws.proofs.Splices.{splice-nil}
use Rattle.image.specs.Layout.{Within, has_bodies, version_of, count_of, rec_at, size_of}
use Rattle.sound.specs.Sound.{Sound, soundb}
use Rattle.sound.proofs.Says.{sound-says}
use Rattle.sound.proofs.Front.{sound-within}
use Rattle.verdict.specs.declared.State.{State}
use Rattle.verdict.specs.Applied.{Verdict, word_of, applied_of, pooled_of}
use Rattle.access.specs.declared.Decision.{Decision}
use Rattle.access.specs.Decision.{decision_number}
use Rattle.judge.specs.Judge.{judge_of}
use Rattle.judge_security.specs.Security.{denial_of}
use Rattle.fcp.specs.declared.TooShort.{TooShort}
use Rattle.fcp.specs.Writing.{Answered}
use Rattle.effect.specs.Fit.{Applies}
use Rattle.effect.specs.Told.{told, CanTell}
use Rattle.card.specs.declared.CardError.{CardError}
use Rattle.card.specs.declared.CardError.TheVariants.{Damaged, WrongPool}
use Rattle.card.specs.declared.CommandError.TheVariants.{Card, Short}
use Rattle.card.specs.Command.{with_word, pool_fits, PoolFits, Checked, reply_of, image_of, pool_of, response_of, CommandPromises}
use Rattle.card.proofs.Tells.{applies}
use Rattle.card.proofs.Telling.{judge_tells}
use Rattle.card.proofs.Due.{pool-says, can_tell, told-few, due_fits, due_short, due_wrong}

-- the test of the pool's length: v is the version that was read, b whether it has bodies, z the root's total
module _ (img pool : List ℕ) {v : ℕ} {b : Bool} (g : v ≡ version_of img) (e : b ≡ has_bodies v) where
  pub pool_any : not b ≡ true → true ≡ pool_fits img pool
  unfolding pool_fits implies
  pool_any t = rw (← g, sym e ∙ not-true b t)

  pub pool-long : not b ≡ false → {z : ℕ} → z ≡ size_of (rec_at img 0) → eqb (length pool) z ≡ pool_fits img pool
  unfolding pool_fits implies
  pool-long t f = rw (← g, sym e ∙ not-false b t, f)

pub sound-long : (img : List ℕ) → Sound img → 16 ≤ length img
sound-long img sound = omega (arith, sound.header.long)

pub root-within : (img : List ℕ) → Sound img → Within img 0
root-within img sound = sound-within img sound 0 (omega (arith, sound.header.least))

-- the checks before all others: r and w are what was answered of the image and of the pool
module _ (img pool : List ℕ) {r : Bool} (e : r ≡ soundb img) where
  pub check_damaged : not r ≡ true → Checked img pool (Err Damaged)
  check_damaged t = sym e ∙ not-true r t

  module _ (t : not r ≡ false) where
    pub check_sound : Sound img
    check_sound = (sound-says img).0 (sym e ∙ not-false r t)

    pub check_long : 16 ≤ length img
    check_long = sound-long img check_sound

    module _ {w : Bool} (i : w ≡ pool_fits img pool) where
      pub check_wrong : not w ≡ true → Checked img pool (Err WrongPool)
      check_wrong j = (sym e ∙ not-false r t, sym i ∙ not-true w j)

      pub check_card : not w ≡ false → {n : ℕ} → n ≡ count_of img → Checked img pool (Ok n)
      check_card j g = (sym e ∙ not-false r t, (sym i ∙ not-false w j, g))

-- a card's image is sound
pub checked_sound : (img pool : List ℕ) {n : ℕ} → Checked img pool (Ok n) → Sound img
checked_sound img pool k = (sound-says img).0 k.0

module _ (img pool c : List ℕ) (st : State) where
  -- no card
  pub call_refused : (o : List ℕ) (d : CardError) → Checked img pool (Err d) → CommandPromises img pool c st o (Err (Card d)) img pool o
  unfolding reply_of image_of pool_of response_of denial_of
  call_refused o Damaged z =
      record { reply = rw z; image = rw z; pool_is = rw z; response_is = rw z; number = rw z; word = rw z; bytes = rw z; security = rw z; few = omega arith }
  call_refused o WrongPool k =
      let z = k.0 in
      let p = k.1 in
      let d = due_wrong img pool c st (length o) p in
      record {
        reply = rw (z, p);
        image = rw (z, d);
        pool_is = rw (z, d);
        response_is = rw (z, d) (sym (splice-nil o 0));
        number = rw (z, p);
        word = rw (z, d);
        bytes = rw (z, d);
        security = rw (z, d);
        few = omega arith;
      }

  -- r is what the soundness test answered
  pub call_damaged : {r : Bool} → r ≡ soundb img → (o : List ℕ) → not r ≡ true
      → CommandPromises img pool c st o (Err (Card Damaged)) img pool o
  call_damaged e o t = call_refused o Damaged (check_damaged img pool e t)

  -- a card of n slots
  module _ {n : ℕ} (k : Checked img pool (Ok n)) where
    sound : Sound img
    sound = checked_sound img pool k

    fit : PoolFits img pool
    fit = (pool-says img pool).0 k.1.0

    -- v is the verdict that was given, t what telling answered
    module _ {v : Verdict} (f : v ≡ judge_of img pool c st) where
      pub call_applies : Applies img n pool c v
      call_applies = rw (f, k.1.1) (applies img pool sound fit c (judge_of img pool c st) (judge_tells img pool c sound st))

      pub call_tells : CanTell img pool v
      call_tells = rw f (can_tell img pool c sound fit (judge_of img pool c st) (judge_tells img pool c sound st))

      module _ {t : Result ℕ TooShort} {o y : List ℕ} (a : Answered (told img pool c v) o y t) where
        pub call_short : {x : TooShort} → t ≡ Err x → CommandPromises img pool c st o (Err Short) img pool y
        unfolding reply_of image_of pool_of response_of denial_of
        call_short q =
            let s = due_short img pool c st (length o) (rw (q, f) at a).0 in
            let p = k.1.0 in
            let z = k.0 in
            record {
              reply = rw (z, p, s.0);
              image = rw (z, s.1);
              pool_is = rw (z, s.1);
              response_is = (rw (q, f) at a).1 ∙ rw (z, s.1) (sym (splice-nil o 0));
              number = rw (z, p, s.0);
              word = rw (z, s.1);
              bytes = rw (z, s.1);
              security = rw (z, s.1);
              few = omega arith;
            }

        pub call_done : {m x : ℕ} {d : Decision} {after kept : List ℕ} → t ≡ Ok m → d ≡ denial_of img pool c st.sets v
            → (x ≡ word_of v) × (after ≡ applied_of img c v) × (kept ≡ pooled_of img pool c v)
            → CommandPromises img pool c st o (with_word x m d) after kept y
        unfolding reply_of image_of pool_of response_of denial_of
        call_done {m} {x} {d} q l g =
            let b = rw (q, f) at a in
            let s = due_fits img pool c st (length o) fit b.0 in
            let p = k.1.0 in
            let z = k.0 in
            let word = g.0 ∙ ap word_of f in
            let denial = l ∙ ap (denial_of img pool c st.sets) f in
            record {
              reply = rw (z, p, s.0, s.1) (ap (λ (u : ℕ). with_word u m d) word
                  ∙ ap (λ (u : ℕ). with_word (word_of (judge_of img pool c st)) u d) b.1.0
                  ∙ ap (λ (u : Decision). with_word (word_of (judge_of img pool c st)) (length (told img pool c (judge_of img pool c st))) u) denial);
              image = rw (z, s.1) (g.1 ∙ ap (applied_of img c) f);
              pool_is = rw (z, s.1) (g.2 ∙ ap (pooled_of img pool c) f);
              response_is = rw (z, s.1) b.1.1;
              number = rw (z, p, s.0);
              word = rw (z, s.1) word;
              bytes = rw (z, s.1) b.1.0;
              security = rw (z, s.1) (ap decision_number denial);
              few = omega (arith, b.1.0, told-few img pool c sound fit (judge_of img pool c st) (judge_tells img pool c sound st));
            }

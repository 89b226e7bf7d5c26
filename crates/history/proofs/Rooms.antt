-- What a command does to the directories of the table: which go, which stay, and with what room.
use mathlib.Core.Path.{◌≡◌, refl, sym, ap, ◌∙◌}
use mathlib.Core.Bool.{Bool, true, false, cond, false≢true}
use Prim.Native.Nat.{ℕ, ◌+◌, ◌<◌}
use native.Mathlib.Omega.{arith}
use borrow.Author.Tests.{eq-eqb, ne_eqb}
use Rattle.laws.proofs.Says.{untrue}
use Rattle.laws.proofs.Sums.{sum_cong, sum_change}
use Rattle.rules.specs.Descriptor.{df, ef}
use Rattle.sound.specs.Table.{View, charge_of, charged}
use Rattle.sound.specs.Kin.{Kin}
use Rattle.sound.specs.Kinship.{at_or_beneath, total_for, room_for}
use Rattle.sound.proofs.Says.{AtOrBeneath, beneath-says}
use Rattle.sound.proofs.Charges.{charge_free, charge_child, charge_stranger, charged-none}
use Rattle.sound.proofs.Kept.{gone}
use Rattle.history.specs.Ledger.{Ledger, Announced, makes, deletes, neither, strikes}
use Rattle.history.proofs.Agree.{Agrees, slot_cases}
use Rattle.history.proofs.Directories.{Dir, dir-used}
use Rattle.history.proofs.Upward.{within_same, beneath-step}
use Rattle.history.proofs.Did.{OneMore, AllBeneathGone, Did}

-- what the root's slot costs: nothing
charge_root : (d s : ℕ) (x : View) → s ≡ 0 → charge_of d s x ≡ 0
charge_root d s x e = charge_stranger d s x (λ u z q. z e)

-- the same total and the same charges leave the same room
same-room : (n : ℕ) (v w : ℕ → View) (d : ℕ) → w d ≡ v d → charged n w d ≡ charged n v d → room_for n w d ≡ room_for n v d
unfolding room_for total_for
same-room n v w d e c = omega (arith, ap (λ (x : View). x.size) e, c)

-- a directory afterwards: it is one, with the room that it had unless it was the current one
pub record Spared (n : ℕ) (v w : ℕ → View) (before d : ℕ) : Type 0 where
  pub dir : Dir n w d
  pub room : (d ≡ before → ⊥) → room_for n w d ≡ room_for n v d

module _ (n : ℕ) (v w : ℕ → View) (kin : Kin n v) (x z : ℕ) (is_df : Bool) (before after : ℕ) (c : OneMore n v w x z is_df before after) where
  used : (b : Bool) → (w c.slot).kind ≡ cond b df ef → (w c.slot).kind ≡ 0 → ⊥
  used true e k = omega arith
  used false e k = omega arith

  -- one charge more
  grown : (d : ℕ) → charged n w d ≡ charged n v d + charge_of d c.slot (w c.slot)
  unfolding charged
  grown d =
      let e = sum_change n (λ s. charge_of d s (w s)) (λ s. charge_of d s (v s)) c.slot c.low
      (λ t h o. ap (charge_of d t) (c.rest t h o)) in
      omega (arith, e, charge_free d c.slot (v c.slot) c.free)

  -- a directory is not in the slot that was free
  old : (d : ℕ) → (v d).kind ≡ df → d ≡ c.slot → ⊥
  old d k e = dir-used (v d) k (ap (λ (s : ℕ). (v s).kind) e ∙ c.free)

  pub made-here : charged n w before ≡ charged n v before + (z + 64)
  made-here = grown before ∙ rw (charge_child before c.slot (w c.slot) (used is_df c.kind) c.other c.parent, c.size)

  pub made-elsewhere : (d : ℕ) → (d ≡ before → ⊥) → charged n w d ≡ charged n v d
  made-elsewhere d o = omega (arith, grown d, charge_stranger d c.slot (w c.slot) (λ u y e. o (sym e ∙ c.parent)))

  -- nothing is charged to the new file
  pub made_none : (v before).kind ≡ df → charged n w c.slot ≡ 0
  made_none k =
      let s : ℕ = c.slot in
      let a = charged-none n v kin s (λ e. omega (arith, c.free)) in
      omega (arith, a, made-elsewhere s (λ e. old before k (sym e)))

  -- a directory's record is as it was
  pub made_kept : (d : ℕ) → Dir n v d → w d ≡ v d
  made_kept d k = c.rest d k.low (old d k.dir)

  made_spares : (d : ℕ) → Dir n v d → Spared n v w before d
  made_spares d k =
      let e = made_kept d k in
      record {
        dir = record { low = k.low; dir = ap (λ (y : View). y.kind) e ∙ k.dir };
        room = λ o. same-room n v w d e (made-elsewhere d o);
      }

module _ (n : ℕ) (v w : ℕ → View) (kin : Kin n v) (x before after : ℕ) (c : AllBeneathGone n v w x before after) where
  -- the deleted file costs nobody anything
  gone_free : (d : ℕ) → charge_of d c.slot (w c.slot) ≡ 0
  gone_free d = charge_free d c.slot (w c.slot) (ap (λ (y : View). y.kind) (c.rest c.slot c.low) ∙ itself)
    where
      itself : (cond (at_or_beneath v c.slot c.slot) gone (v c.slot)).kind ≡ 0
      itself = rw (beneath-step n v kin c.slot c.slot c.low c.file, eq-eqb c.slot c.slot refl)

  -- of the files of a directory that stays, only the deleted one goes
  module _ (d : ℕ) (k : Dir n v d) (stays : at_or_beneath v c.slot d ≡ false) where
    others_stay : (s : ℕ) → s < n → (s ≡ c.slot → ⊥) → charge_of d s (w s) ≡ charge_of d s (v s)
    others_stay s h o =
        rw (c.rest s h) (slot_cases (charge_of d s (cond (at_or_beneath v c.slot s) gone (v s)) ≡ charge_of d s (v s)) s (v s)
        (λ e. charge_root d s _ e ∙ sym (charge_root d s (v s) e))
        (λ e. free e (at_or_beneath v c.slot s))
        (λ u y. at_file u y (at_or_beneath v c.slot s) refl))
      where
        free : (v s).kind ≡ 0 → (b : Bool) → charge_of d s (cond b gone (v s)) ≡ charge_of d s (v s)
        free e true = charge_free d s gone refl ∙ sym (charge_free d s (v s) e)
        free e false = refl

        at_file : ((v s).kind ≡ 0 → ⊥) → (s ≡ 0 → ⊥) → (b : Bool) → at_or_beneath v c.slot s ≡ b
            → charge_of d s (cond b gone (v s)) ≡ charge_of d s (v s)
        at_file u y false e = refl
        at_file u y true e = charge_free d s gone refl ∙ sym (charge_stranger d s (v s) (λ a b p. away p))
          where
            away : (v s).parent ≡ d → ⊥
            away p =
                let f : at_or_beneath v c.slot s ≡ false = beneath-step n v kin c.slot s h (u, y) ∙ rw (ne_eqb s c.slot o, p)
                stays in
                false≢true (sym f ∙ e)

    shrunk : charged n w d + charge_of d c.slot (v c.slot) ≡ charged n v d
    unfolding charged
    shrunk = omega (arith, sum_change n (λ s. charge_of d s (w s)) (λ s. charge_of d s (v s)) c.slot c.low others_stay, gone_free d)

    gone_kept : w d ≡ v d
    gone_kept = c.rest d k.low ∙ rw stays

    gone_elsewhere : (d ≡ before → ⊥) → charged n w d ≡ charged n v d
    gone_elsewhere o = omega (arith, shrunk, charge_stranger d c.slot (v c.slot) (λ u y e. o (sym e ∙ c.parent)))

    gone_spares : Spared n v w before d
    gone_spares = record {
      dir = record { low = k.low; dir = ap (λ (y : View). y.kind) gone_kept ∙ k.dir };
      room = λ o. same-room n v w d gone_kept (gone_elsewhere o);
    }

  -- the current directory stays, and gets back what the deleted file cost
  before_stays : at_or_beneath v c.slot before ≡ false
  before_stays = untrue _ (λ h. deep ((beneath-says v c.slot before).0 h))
    where
      deep : AtOrBeneath v c.slot before → ⊥
      deep b = omega (arith, b.deep, rw c.parent at (kin.placed c.slot c.low c.file).up)

  pub gone_here : Dir n v before → (w before ≡ v before) × (charged n w before + ((v c.slot).size + 64) ≡ charged n v before)
  gone_here k = (
    gone_kept before k before_stays,
    omega (arith, shrunk before k before_stays, charge_child before c.slot (v c.slot) c.file.0 c.file.1 c.parent),
  )

-- for a directory: it is struck exactly if its record goes
module _ (l : Ledger) (n : ℕ) (v w : ℕ → View) (ok : Agrees l n v) (kin : Kin n v) (some : 0 < n) (d : ℕ) (k : Dir n v d) where
  strikes-same : (x before after : ℕ) (c : AllBeneathGone n v w x before after) → strikes l (deletes x) before d ≡ at_or_beneath v c.slot d
  unfolding strikes
  strikes-same x before after c = rw (← c.parent, ← c.identifier) (within_same l n v ok kin some c.slot c.low c.file d k)

  pub spared : (a : Announced) (before after : ℕ) → Did n v w a before after → strikes l a before d ≡ false → Spared n v w before d
  unfolding charged
  spared (makes x z is_df) before after c e = made_spares n v w kin x z is_df before after c d k
  spared (deletes x) before after c e = gone_spares n v w kin x before after c d k (sym (strikes-same x before after c) ∙ e)
  spared neither before after c e = record {
    dir = record { low = k.low; dir = ap (λ (y : View). y.kind) (c d k.low) ∙ k.dir };
    room = λ o. same-room n v w d (c d k.low)
        (sum_cong n (λ s. charge_of d s (w s)) (λ s. charge_of d s (v s)) (λ s h. ap (charge_of d s) (c s h)));
  }

  pub struck : (a : Announced) (before after : ℕ) → Did n v w a before after → strikes l a before d ≡ true → Dir n w d → ⊥
  unfolding strikes
  struck (makes x z is_df) before after c e g = false≢true e
  struck (deletes x) before after c e g = dir-used (w d) g.dir (ap (λ (y : View). y.kind) (c.rest d k.low) ∙ free)
    where
      free : (cond (at_or_beneath v c.slot d) gone (v d)).kind ≡ 0
      free = rw (sym (strikes-same x before after c) ∙ e)
  struck neither before after c e g = false≢true e

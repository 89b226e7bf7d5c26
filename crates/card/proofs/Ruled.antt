-- `standing::ruling`, way out by way out: damaged, a pool of a wrong length, no file, a file.
use mathlib.Core.Path.{◌≡◌, refl, sym, ap, subst, ◌∙◌}
use mathlib.Core.Bool.{Bool, true, false, not, cond, ◌&&◌, and-false}
use mathlib.Core.List.{List}
use Prim.Native.Nat.{ℕ, ◌<◌, ◌≤◌}
use native.Mathlib.Omega.{arith}
use lib.Dec.{eqb, ltb}
use borrow.Author.Tests.{eq-eqb, ne_eqb, lt-ltb, le-ltb, ltb-true}
use Rattle.std.specs.Prelude.{Option, None, Ok, Err}
use Rattle.laws.proofs.Says.{and-says, not-says}
use Rattle.image.specs.Layout.{Within, count_of, rec_at, kind_of}
use Rattle.sound.specs.Sound.{Sound, soundb}
use Rattle.sound.proofs.Says.{sound-says}
use Rattle.kinship.specs.Climb.{Rooted, Stands}
use Rattle.kinship.proofs.Sound.{rooted}
use Rattle.referred.specs.declared.Place.{Place}
use Rattle.referred.specs.Deciding.{place_of, PlaceLies}
use Rattle.referred.proofs.Parts.{place-within}
use Rattle.judge_target.proofs.FromSound.{judgeable}
use Rattle.card.specs.declared.CardError.{CardError}
use Rattle.card.specs.declared.CardError.TheVariants.{Damaged, WrongPool}
use Rattle.card.specs.Command.{pool_fits, Checked}
use Rattle.card.proofs.Called.{checked_sound}
use Rattle.card.specs.Ruling.{Ruling, ruling_of, ruling_number, RulingLies}

-- no card; else n and z are the slot count and the record's kind
module _ (img pool : List ℕ) (s : ℕ) where
  pub ruling_refused : (d : CardError) → Checked img pool (Err d) → Err d ≡ ruling_of img pool s
  unfolding ruling_of
  ruling_refused Damaged k = rw k
  ruling_refused WrongPool k = rw (k.0, k.1)

  module _ {n : ℕ} (k : Checked img pool (Ok n)) where
    sound : Sound img
    sound = checked_sound img pool k

    pub ruling_past : n ≤ s → Ok None ≡ ruling_of img pool s
    unfolding ruling_of
    ruling_past l = rw (k.0, k.1.0, le-ltb s (count_of img) (omega (arith, l, k.1.1)))

    module _ (l : s < n) where
      pub ruling_within : Within img s
      ruling_within =
          (omega (arith, l, k.1.1, sound.header.long), omega (arith, l, k.1.1, sound.header.most))

      module _ {z : ℕ} (q : z ≡ kind_of (rec_at img s)) where
        pub ruling_free : z ≡ 0 → Ok None ≡ ruling_of img pool s
        unfolding ruling_of
        ruling_free u =
            rw (k.0, k.1.0, eq-eqb (kind_of (rec_at img s)) 0 (sym q ∙ u), and-false (ltb s (count_of img)))

        module _ (u : z ≡ 0 → ⊥) where
          pub ruling_stands : Rooted img n × Stands img n s
          ruling_stands = (rw k.1.1 (rooted img sound), record { low = l; used = λ f. u (q ∙ f) })

          pub ruling_at : {p : Option Place} → p ≡ place_of n img pool s → Ok p ≡ ruling_of img pool s
          unfolding ruling_of
          ruling_at h =
              rw (
                k.0,
                k.1.0,
                lt-ltb s (count_of img) (omega (arith, l, k.1.1)),
                ne_eqb (kind_of (rec_at img s)) 0 (λ f. u (q ∙ f)),
              )
              (ap (λ (o : Option Place). Ok o) (h ∙ ap (λ (m : ℕ). place_of m img pool s) k.1.1))

-- the place that a ruling has
place_in : Ruling → Option Place
place_in (Ok p) = p
place_in (Err e) = None

used : (img : List ℕ) (s : ℕ) → Sound img → (ltb s (count_of img) && not (eqb (kind_of (rec_at img s)) 0)) ≡ true → Stands img (count_of img) s
used img s sound e =
    let q = (and-says (ltb s (count_of img)) (not (eqb (kind_of (rec_at img s)) 0))).0 e in
    record { low = ltb-true s (count_of img) q.0; used = λ z. (not-says (eqb (kind_of (rec_at img s)) 0)).0 q.1 (eq-eqb _ _ z) }

pub ruling_lies : RulingLies
unfolding ruling_of place_in
ruling_lies img pool s p e = go (soundb img) (pool_fits img pool) (ltb s (count_of img) && not (eqb (kind_of (rec_at img s)) 0)) refl refl e
  where
    go : (a b t : Bool) → soundb img ≡ a → (ltb s (count_of img) && not (eqb (kind_of (rec_at img s)) 0)) ≡ t
        → cond a (cond b (cond t (Ok (place_of (count_of img) img pool s)) (Ok None)) (Err WrongPool)) (Err Damaged) ≡ Ok p → PlaceLies img pool p
    go false b t x y q = absurd (omega (arith, ap ruling_number q))
    go true false t x y q = absurd (omega (arith, ap ruling_number q))
    go true true false x y q = subst (PlaceLies img pool) (ap place_in q) tt
    go true true true x y q =
        let sound = (sound-says img).0 x in
        let stands = used img s sound y in
        subst (PlaceLies img pool) (ap place_in q)
        (place-within img pool (count_of img) s (rooted img sound) stands ((judgeable img sound).ruled s stands.low))

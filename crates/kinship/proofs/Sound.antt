-- What a sound image gives to the searches and walks of this crate.
use mathlib.Core.Path.{◌≡◌, ap, sym, ◌∙◌}
use mathlib.Core.List.{List}
use mathlib.Core.Logic.{⊎_elim}
use Prim.Native.Nat.{ℕ, ◌<◌}
use native.Mathlib.Omega.{arith}
use Rattle.laws.proofs.Says.{same_or}
use Rattle.rules.specs.Descriptor.{df}
use Rattle.image.specs.Layout.{Sized, count_of}
use Rattle.sound.specs.Table.{view_at, File}
use Rattle.sound.specs.Kin.{Placed}
use Rattle.sound.specs.Sound.{Sound, Header}
use Rattle.kinship.specs.Climb.{Rooted, Stands, Housed, Paid}

-- parents that stand where they must make the way up safe
pub rooted_by : (img : List ℕ) (n : ℕ) → Sized img n → (view_at img 0).parent ≡ 0 → (view_at img 0).level ≡ 0
    → ((s : ℕ) → s < n → File (view_at img) s → Placed n (view_at img) s) → Rooted img n
rooted_by img n sized top high placed =
    record {
      sized = sized;
      parent = λ s h. ⊎_elim (λ z. root s z h) (λ z. child s z h) (same_or s 0);
      level = λ s h l. (placed s h.low (h.used, λ z. omega (arith, ap (λ (x : ℕ). (view_at img x).level) z))).up;
    }
  where
    root : (s : ℕ) → s ≡ 0 → Stands img n s → Stands img n (view_at img s).parent
    root s z h =
        let e : (view_at img s).parent ≡ s = ap (λ (x : ℕ). (view_at img x).parent) z ∙ top ∙ sym z in
        rw e h

    child : (s : ℕ) → (s ≡ 0 → ⊥) → Stands img n s → Stands img n (view_at img s).parent
    child s z h =
        let p = placed s h.low (h.used, z) in
        record { low = p.low; used = λ e. omega (arith, p.dir) }

pub sized_by : (img : List ℕ) → Header img → Sized img (count_of img)
sized_by img header = record { long = header.long; least = header.least; most = header.most }

module _ (img : List ℕ) (sound : Sound img) where
  pub sized : Sized img (count_of img)
  sized = sized_by img sound.header

  pub rooted : Rooted img (count_of img)
  rooted = rooted_by img (count_of img) sized sound.kin.root-parent sound.kin.root-level sound.kin.placed

  pub housed : Housed img (count_of img)
  housed = record { dir = λ s h. ⊎_elim (root s) (λ z. (sound.kin.placed s h.low (h.used, z)).dir) (same_or s 0) }
    where
      root : (s : ℕ) → s ≡ 0 → (view_at img (view_at img s).parent).kind ≡ df
      root s z = ap (λ (x : ℕ). (view_at img (view_at img x).parent).kind) z ∙ ap (λ (x : ℕ). (view_at img x).kind) sound.kin.root-parent
          ∙ sound.kin.root-kind

  pub paid : (d : ℕ) → d < count_of img → (view_at img d).kind ≡ df → Paid img (count_of img) d
  paid d l k = record { within = sound.kin.charges d l k }

-- A card keeps its version, and one of version 1 stays compact.
use mathlib.Core.Path.{◌≡◌, refl, ◌∙◌}
use mathlib.Core.Bool.{Bool, true, false, cond}
use mathlib.Core.List.{List}
use mathlib.Core.Logic.{⊎_elim}
use Prim.Native.Nat.{ℕ}
use native.Mathlib.Omega.{arith}
use Rattle.laws.proofs.Says.{same_or}
use Rattle.image.specs.Layout.{version_of, count_of, rec_at, kind_of, form_of}
use Rattle.image.proofs.Headers.{same_version}
use Rattle.access.specs.Access.{compact}
use Rattle.sound.specs.Own.{Own}
use Rattle.sound.specs.Sound.{soundb}
use Rattle.sound.proofs.Says.{sound-says}
use Rattle.sound.proofs.FirstVersion.{first-version}
use Rattle.verdict.specs.Applied.{applied_of}
use Rattle.card.specs.Command.{due_of, image_of}
use Rattle.card.specs.Demands.{VersionStays, StaysCompact}
use Rattle.card.proofs.After.{front_after}
use Rattle.card.proofs.Due.{due_tells}
use Rattle.card.proofs.Answered.{stays_sound}
use Rattle.card.proofs.Demands.{effect-and-no-other}

pub version_stays : VersionStays
unfolding image_of
version_stays img pool c st lent = go (soundb img) refl
  where
    go : (b : Bool) → soundb img ≡ b → version_of (cond b (applied_of img c (due_of img pool c st lent)) img) ≡ version_of img
    go true q =
        let sound = (sound-says img).0 q in
        same_version img (applied_of img c (due_of img pool c st lent))
        (front_after img c sound (due_of img pool c st lent) (due_tells img pool c st lent sound))
    go false q = refl

-- of a record of version 1: a free one is zero, and a used one has the only form
only-compact : (r : List ℕ) → Own 1 r → form_of r ≡ compact
unfolding form_of
only-compact r o = ⊎_elim (λ e. o.free e 3 (omega arith)) (λ z. (first-version r (o.used z)).zero) (same_or (kind_of r) 0)

pub stays_compact : StaysCompact
stays_compact img pool c st lent s sound first low =
    let left = image_of img pool c st lent in
    let count : count_of left ≡ count_of img = (effect-and-no-other img pool c st lent sound).count in
    let own : Own (version_of left) (rec_at left s) = (stays_sound img pool c st lent sound).records s (rw count low) in
    only-compact (rec_at left s) (rw (version_stays img pool c st lent ∙ first) at own)

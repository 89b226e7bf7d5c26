-- In a sound image every size is at most 65,408: what a file charges is within its directory's total, and so on up to the root. And no
-- template is longer than 37 bytes and the longest rule.
use mathlib.Core.Path.{◌≡◌}
use mathlib.Core.List.{List}
use Prim.Native.Nat.{ℕ, ◌+◌, ◌*◌, ◌<◌, ◌≤◌}
use native.Mathlib.Omega.{arith}
use lib.ListN.{length-append}
use Rattle.image.specs.Layout.{count_of, rec_at, kind_of, form_of, size_of, rule_of}
use Rattle.access.proofs.Fits.{fits-short}
use Rattle.sound.specs.Table.{view_at}
use Rattle.sound.specs.Sound.{Sound}
use Rattle.sound.proofs.FullTable.{within-root}
use Rattle.fcp.specs.Template.{template_of, body_of}
use Rattle.fcp.specs.Again.{SizesFit, Longest}
use Rattle.fcp.proofs.Values.{length-or-name}

-- a file's size, and 64 for each level, are within the root's total
at_root : (img : List ℕ) → Sound img → (s : ℕ) → s < count_of img → (kind_of (rec_at img s) ≡ 0 → ⊥)
    → size_of (rec_at img s) + 64 * (view_at img s).level ≤ (view_at img 0).size
at_root img sound s l u = within-root (count_of img) (view_at img) sound.kin (omega (arith, sound.header.least)) s l u

pub sizes_fit : SizesFit
sizes_fit img sound s l u = omega (arith, at_root img sound s l u, sound.kin.root-size, sound.header.most)

-- .. and a file but the root leaves 64 bytes more
pub file-fits : (img : List ℕ) → Sound img → (s : ℕ) → s < count_of img → (kind_of (rec_at img s) ≡ 0 → ⊥) → (s ≡ 0 → ⊥)
    → size_of (rec_at img s) + 64 ≤ 65408
file-fits img sound s l u z =
    omega (arith, at_root img sound s l u, sound.kin.root-size, sound.header.most, (sound.kin.placed s l (u, z)).up)

pub longest : Longest
unfolding template_of body_of
longest v r u z = simp length-append (omega (arith, length-or-name v r u z, fits-short v (form_of r) (rule_of r) u.formed))

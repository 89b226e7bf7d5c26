-- What the first walk gathered holds of the records before a slot.
use Rattle.std.specs.Prelude.{ℕ}
use Rattle.keys.specs.Marks.{Keyed}
use Rattle.sound.specs.Table.{View, is_file}
use Rattle.sound_siblings.specs.Key.{sibling_key}
use Rattle.sound_ancestry.specs.Directories.{Seen}
use Rattle.sound_charges.specs.Summing.{Summed}
use Rattle.sound_links.specs.declared.Gathered.{Gathered}

-- each set has the keys and identifiers of the records below s, and the sums are theirs
pub record Gathers (v : ℕ → View) (s : ℕ) (g : Gathered) : Type 0 where
  pub keyed : Keyed (is_file v) (sibling_key v) s g.siblings
  pub seen : Seen v s g.directories.once g.directories.twice
  pub summed : Summed v s g.sums
